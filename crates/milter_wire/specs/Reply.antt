-- The encoding of each reply, by one case for each row of the table of replies, and its decoding.
use Rattle.std.specs.Prelude.{◌≡◌, ℕ, Bool, List, [], ◌∷◌, ◌++◌, length, Option, Some}
use Rattle.std.specs.List.{sum_by}
use Rattle.std.specs.Option.{option_map}
use Rattle.milter_wire.specs.declared.codes.TheConstants.{SMFIC_OPTNEG, SMFIR_ACCEPT, SMFIR_ADDHEADER, SMFIR_ADDRCPT, SMFIR_ADDRCPT_PAR, SMFIR_CHGFROM, SMFIR_CHGHEADER, SMFIR_CONTINUE, SMFIR_DELRCPT, SMFIR_DISCARD, SMFIR_INSHEADER, SMFIR_PROGRESS, SMFIR_QUARANTINE, SMFIR_REJECT, SMFIR_REPLBODY, SMFIR_REPLYCODE, SMFIR_SKIP, SMFIR_TEMPFAIL}
use Rattle.milter_wire.specs.declared.reply.Reply.{Reply}
use Rattle.milter_wire.specs.declared.reply.Reply.TheVariants.{Options, AddRcpt, DelRcpt, AddRcptPar, Accept, ReplaceBody, Continue, Discard, ChangeFrom, AddHeader, InsertHeader, ChangeHeader, Progress, Quarantine, Reject, Skip, Tempfail, Code}
use Rattle.milter_fields.specs.Number.{number}
use Rattle.milter_fields.specs.Field.{string, HasNoNul}
use Rattle.milter_wire.specs.OptionsPayload.{options_with_lists, OptionsWithListsFit, options_with_lists_in}
use Rattle.milter_fields.specs.Layout.{header, HeaderFits, IndexedFits, arguments, AddressedFits, ReplyCodeFits}
use Rattle.milter_fields.specs.Packet.{packet, IsPayload}
use Rattle.milter_wire.specs.Tables.{Row, has_row, read_by}
use Rattle.milter_fields.specs.Decoders.{ended, string_in, header_in, indexed_in, addressed_in, reply_code_in}

-- ---- the table

-- the code, in ASCII
abbrev pub code_of : Reply → ℕ
code_of (AddRcpt address) = SMFIR_ADDRCPT
code_of (DelRcpt address) = SMFIR_DELRCPT
code_of (AddRcptPar address args) = SMFIR_ADDRCPT_PAR
code_of (Options o lists) = SMFIC_OPTNEG
code_of Accept = SMFIR_ACCEPT
code_of (ReplaceBody bytes) = SMFIR_REPLBODY
code_of Continue = SMFIR_CONTINUE
code_of Discard = SMFIR_DISCARD
code_of (ChangeFrom address args) = SMFIR_CHGFROM
code_of (AddHeader h) = SMFIR_ADDHEADER
code_of (InsertHeader index h) = SMFIR_INSHEADER
code_of (ChangeHeader index h) = SMFIR_CHGHEADER
code_of Progress = SMFIR_PROGRESS
code_of (Quarantine reason) = SMFIR_QUARANTINE
code_of Reject = SMFIR_REJECT
code_of Skip = SMFIR_SKIP
code_of Tempfail = SMFIR_TEMPFAIL
code_of (Code text) = SMFIR_REPLYCODE

-- the payload
abbrev pub payload_of : Reply → List ℕ
payload_of (AddRcpt address) = string address
payload_of (DelRcpt address) = string address
payload_of (AddRcptPar address args) = string address ++ arguments args
payload_of (Options o lists) = options_with_lists o lists
payload_of Accept = []
payload_of (ReplaceBody bytes) = bytes
payload_of Continue = []
payload_of Discard = []
payload_of (ChangeFrom address args) = string address ++ arguments args
payload_of (AddHeader h) = header h
payload_of (InsertHeader index h) = number index ++ header h
payload_of (ChangeHeader index h) = number index ++ header h
payload_of Progress = []
payload_of (Quarantine reason) = string reason
payload_of Reject = []
payload_of Skip = []
payload_of Tempfail = []
payload_of (Code text) = string text

-- what the table asks of the fields
abbrev pub FieldsFit : Reply → Type 0
FieldsFit (AddRcpt address) = HasNoNul address
FieldsFit (DelRcpt address) = HasNoNul address
FieldsFit (AddRcptPar address args) = AddressedFits address args
FieldsFit (Options o lists) = OptionsWithListsFit o lists
FieldsFit Accept = Unit {0}
FieldsFit (ReplaceBody bytes) = Unit {0}
FieldsFit Continue = Unit {0}
FieldsFit Discard = Unit {0}
FieldsFit (ChangeFrom address args) = AddressedFits address args
FieldsFit (AddHeader h) = HeaderFits h
FieldsFit (InsertHeader index h) = IndexedFits index h
FieldsFit (ChangeHeader index h) = IndexedFits index h
FieldsFit Progress = Unit {0}
FieldsFit (Quarantine reason) = HasNoNul reason
FieldsFit Reject = Unit {0}
FieldsFit Skip = Unit {0}
FieldsFit Tempfail = Unit {0}
FieldsFit (Code text) = ReplyCodeFits text

-- ---- encoding

-- a reply that a packet has room for, whose fields are as the table asks
pub record Fits (r : Reply) : Type 0 where
  pub fields : FieldsFit r
  pub payload : IsPayload (payload_of r)

-- some reply that a packet has room for has this code
abbrev pub IsCodeOfSome : ℕ → Type 0
IsCodeOfSome code = (r : Reply) × Fits r × (code_of r ≡ code)

-- the packet of a reply
abbrev pub encoding : Reply → List ℕ
encoding r = packet (code_of r) (payload_of r)

-- the number of bytes of the packets of replies
abbrev pub bytes_of : List Reply → ℕ
bytes_of replies = sum_by (λ reply. length (encoding reply)) replies

-- the reply is encoded as these bytes
pub record IsEncodedAs (r : Reply) (bytes : List ℕ) : Type 0 where
  pub fits : Fits r
  pub bytes_are : bytes ≡ encoding r

-- ---- decoding

-- how the payload of each code is decoded
abbrev pub rows : List (Row Reply)
rows =
    (SMFIR_ADDRCPT, λ payload. option_map AddRcpt (string_in payload))
    ∷ (SMFIR_DELRCPT, λ payload. option_map DelRcpt (string_in payload))
    ∷ (SMFIR_ADDRCPT_PAR, λ payload. option_map (λ a. AddRcptPar a.0 a.1) (addressed_in payload))
    ∷ (SMFIC_OPTNEG, λ payload. option_map (λ o. Options o.0 o.1) (options_with_lists_in payload))
    ∷ (SMFIR_ACCEPT, ended Accept)
    ∷ (SMFIR_REPLBODY, λ payload. Some (ReplaceBody payload))
    ∷ (SMFIR_CONTINUE, ended Continue)
    ∷ (SMFIR_DISCARD, ended Discard)
    ∷ (SMFIR_CHGFROM, λ payload. option_map (λ a. ChangeFrom a.0 a.1) (addressed_in payload))
    ∷ (SMFIR_ADDHEADER, λ payload. option_map AddHeader (header_in payload))
    ∷ (SMFIR_INSHEADER, λ payload. option_map (λ i. InsertHeader i.0 i.1) (indexed_in payload))
    ∷ (SMFIR_CHGHEADER, λ payload. option_map (λ i. ChangeHeader i.0 i.1) (indexed_in payload))
    ∷ (SMFIR_PROGRESS, ended Progress)
    ∷ (SMFIR_QUARANTINE, λ payload. option_map Quarantine (string_in payload))
    ∷ (SMFIR_REJECT, ended Reject)
    ∷ (SMFIR_SKIP, ended Skip)
    ∷ (SMFIR_TEMPFAIL, ended Tempfail)
    ∷ (SMFIR_REPLYCODE, λ payload. option_map Code (reply_code_in payload))
    ∷ []

-- whether the table has this code
unfoldable pub is_code : ℕ → Bool
is_code code = has_row rows code

-- the reply that a code and a payload encode, if there is one
unfoldable pub reply_in : ℕ → List ℕ → Option Reply
reply_in code payload = read_by rows code payload
