-- The decoding of replies is the inverse of their encoding.
use Rattle.std.proofs.Common.{◌≡◌, ℕ, ◌<◌, ◌^◌, true, List, [], ◌++◌, get_or, Some, refl, sym, ap, subst, ◌∙◌}
use Rattle.std.proofs.lemmas.Option.{same_Some}
use Rattle.std.proofs.lemmas.List.Elements.{All-from_get_or}
use Rattle.milter_wire.specs.declared.reply.Reply.{Reply}
use Rattle.milter_wire.specs.declared.reply.Reply.TheVariants.{Options, AddRcpt, DelRcpt, AddRcptPar, Accept, ReplaceBody, Continue, Discard, ChangeFrom, AddHeader, InsertHeader, ChangeHeader, Progress, Quarantine, Reject, Skip, Tempfail, Code}
use Rattle.milter_fields.specs.Packet.{packet, IsPayload}
use Rattle.milter_fields.specs.Decoders.{addressed_in, header_in, indexed_in, reply_code_in, string_in}
use Rattle.milter_wire.specs.OptionsPayload.{options_with_lists_in}
use Rattle.milter_wire.specs.Reply.{code_of, payload_of, is_code, FieldsFit, IsEncodedAs, reply_in, rows}
use Rattle.milter_fields.specs.Number.{IsBytes}
use Rattle.milter_wire.proofs.Grammar.{◌⨾◌, EachRow, Reads, bytes_row, field_row, empty_row, row_relates}
use Rattle.milter_fields.proofs.StreamLaws.{packet-same, packet-whole}
use Rattle.milter_fields.proofs.StringFields.{one_string_takes, string_in-string}
use Rattle.milter_wire.proofs.PayloadLaws.{options_with_lists_take, options_with_lists_in-encoded}
use Rattle.milter_fields.proofs.Values.{addressed_takes, addressed_in-addressed, header_takes, header_in-header, indexed_takes, indexed_in-indexed, reply_code_takes, reply_code_in-string}

-- a code and a payload that are a reply's row of the table
record IsRow (r : Reply) (code : ℕ) (payload : List ℕ) : Type 0 where
  code_is : code ≡ code_of r
  payload_is : payload ≡ payload_of r
  fields : FieldsFit r

-- the rows
each_row : (payload : List ℕ) → IsBytes payload → EachRow IsRow payload rows
each_row payload bytes =
    let Relates : ℕ → Reply → Type 0 = λ code r. IsRow r code payload in
    field_row (Relates 43) AddRcpt (string_in payload) (λ x read. let t = one_string_takes payload x read in record { code_is = refl; payload_is = t.bytes_are; fields = t.no_nul })
    ⨾ field_row (Relates 45) DelRcpt (string_in payload) (λ x read. let t = one_string_takes payload x read in record { code_is = refl; payload_is = t.bytes_are; fields = t.no_nul })
    ⨾ field_row (Relates 50) (λ a. AddRcptPar a.0 a.1) (addressed_in payload) (λ x read. let t = addressed_takes payload x read in record { code_is = refl; payload_is = t.0; fields = t.1 })
    ⨾ field_row (Relates 79) (λ o. Options o.0 o.1) (options_with_lists_in payload) (λ x read. let t = options_with_lists_take payload x bytes read in record { code_is = refl; payload_is = t.0; fields = t.1 })
    ⨾ empty_row (λ r. IsRow r 97) Accept payload record { code_is = refl; payload_is = refl; fields = tt }
    ⨾ (λ r. bytes_row (Relates 98) (ReplaceBody payload) r record { code_is = refl; payload_is = refl; fields = tt })
    ⨾ empty_row (λ r. IsRow r 99) Continue payload record { code_is = refl; payload_is = refl; fields = tt }
    ⨾ empty_row (λ r. IsRow r 100) Discard payload record { code_is = refl; payload_is = refl; fields = tt }
    ⨾ field_row (Relates 101) (λ a. ChangeFrom a.0 a.1) (addressed_in payload) (λ x read. let t = addressed_takes payload x read in record { code_is = refl; payload_is = t.0; fields = t.1 })
    ⨾ field_row (Relates 104) AddHeader (header_in payload) (λ x read. let t = header_takes payload x read in record { code_is = refl; payload_is = t.0; fields = t.1 })
    ⨾ field_row (Relates 105) (λ i. InsertHeader i.0 i.1) (indexed_in payload) (λ x read. let t = indexed_takes payload x bytes read in record { code_is = refl; payload_is = t.0; fields = t.1 })
    ⨾ field_row (Relates 109) (λ i. ChangeHeader i.0 i.1) (indexed_in payload) (λ x read. let t = indexed_takes payload x bytes read in record { code_is = refl; payload_is = t.0; fields = t.1 })
    ⨾ empty_row (λ r. IsRow r 112) Progress payload record { code_is = refl; payload_is = refl; fields = tt }
    ⨾ field_row (Relates 113) Quarantine (string_in payload) (λ x read. let t = one_string_takes payload x read in record { code_is = refl; payload_is = t.bytes_are; fields = t.no_nul })
    ⨾ empty_row (λ r. IsRow r 114) Reject payload record { code_is = refl; payload_is = refl; fields = tt }
    ⨾ empty_row (λ r. IsRow r 115) Skip payload record { code_is = refl; payload_is = refl; fields = tt }
    ⨾ empty_row (λ r. IsRow r 116) Tempfail payload record { code_is = refl; payload_is = refl; fields = tt }
    ⨾ field_row (Relates 121) Code (reply_code_in payload) (λ x read. let t = reply_code_takes payload x read in record { code_is = refl; payload_is = t.0; fields = t.1 })
    ⨾ tt

reply_row : (code : ℕ) (payload : List ℕ) (r : Reply) → IsBytes payload → reply_in code payload ≡ Some r → IsRow r code payload
unfolding reply_in
reply_row code payload r bytes e = row_relates IsRow rows code payload r (each_row payload bytes) e

pub reply_again : (r : Reply) → FieldsFit r → reply_in (code_of r) (payload_of r) ≡ Some r
unfolding reply_in
reply_again (AddRcpt address) fits = rw (string_in-string address fits) refl
reply_again (DelRcpt address) fits = rw (string_in-string address fits) refl
reply_again (AddRcptPar address args) fits = rw (addressed_in-addressed address args fits) refl
reply_again (Options o lists) fits = rw (options_with_lists_in-encoded o lists fits) refl
reply_again Accept fits = refl
reply_again (ReplaceBody bytes) fits = refl
reply_again Continue fits = refl
reply_again Discard fits = refl
reply_again (ChangeFrom address args) fits = rw (addressed_in-addressed address args fits) refl
reply_again (AddHeader h) fits = rw (header_in-header h fits) refl
reply_again (InsertHeader index h) fits = rw (indexed_in-indexed index h fits) refl
reply_again (ChangeHeader index h) fits = rw (indexed_in-indexed index h fits) refl
reply_again Progress fits = refl
reply_again (Quarantine reason) fits = rw (string_in-string reason fits) refl
reply_again Reject fits = refl
reply_again Skip fits = refl
reply_again Tempfail fits = refl
reply_again (Code text) fits = rw (reply_code_in-string text fits) refl

encoded_is_decoded : (code : ℕ) (payload : List ℕ) (r : Reply) → IsEncodedAs r (packet code payload) → reply_in code payload ≡ Some r
encoded_is_decoded code payload r s =
    let same = packet-same code (code_of r) payload (payload_of r) s.bytes_are in
    ap (λ (n : ℕ). reply_in n payload) same.0 ∙ ap (reply_in (code_of r)) same.1 ∙ reply_again r s.fits.fields

pub reply_known : (r : Reply) → is_code (code_of r) ≡ true
unfolding is_code
reply_known (AddRcpt address) = refl
reply_known (DelRcpt address) = refl
reply_known (AddRcptPar address args) = refl
reply_known (Options o lists) = refl
reply_known Accept = refl
reply_known (ReplaceBody bytes) = refl
reply_known Continue = refl
reply_known Discard = refl
reply_known (ChangeFrom address args) = refl
reply_known (AddHeader h) = refl
reply_known (InsertHeader index h) = refl
reply_known (ChangeHeader index h) = refl
reply_known Progress = refl
reply_known (Quarantine reason) = refl
reply_known Reject = refl
reply_known Skip = refl
reply_known Tempfail = refl
reply_known (Code text) = refl

pub replies_read : (code : ℕ) (payload : List ℕ) → ((i : ℕ) → get_or payload i 0 < 256) → IsPayload payload → Reads (is_code code) (reply_in code payload) (λ r. IsEncodedAs r (packet code payload))
replies_read code payload below fits =
    let bytes : IsBytes payload = All-from_get_or (λ b. b < 2 ^ 8) payload 0 (λ i _. below i) in
    record {
      found = λ r e. let row = reply_row code payload r bytes e in record {
        fits = record { fields = row.fields; payload = subst IsPayload row.payload_is fits };
        bytes_are = ap (λ (n : ℕ). packet n payload) row.code_is ∙ ap (packet (code_of r)) row.payload_is;
      };
      only = λ r s. encoded_is_decoded code payload r s;
      known_first = λ r e. let row = reply_row code payload r bytes e in ap is_code row.code_is ∙ reply_known r;
    }

pub replies_one : (r q : Reply) (bytes : List ℕ) → IsEncodedAs r bytes → IsEncodedAs q bytes → r ≡ q
replies_one r q bytes s t =
    let u : IsEncodedAs q (packet (code_of r) (payload_of r)) = record { fits = t.fits; bytes_are = sym s.bytes_are ∙ t.bytes_are } in
    same_Some r q (sym (reply_again r s.fits.fields) ∙ encoded_is_decoded (code_of r) (payload_of r) q u)

pub replies_whole : (r q : Reply) (bytes more : List ℕ) → IsEncodedAs r bytes → IsEncodedAs q (bytes ++ more) → more ≡ []
replies_whole r q bytes more s t =
    packet-whole (code_of r) (code_of q) (payload_of r) (payload_of q) more s.fits.payload t.fits.payload (ap (λ (x : List ℕ). x ++ more) (sym s.bytes_are) ∙ t.bytes_are)
