-- What edits make of a message is a message, where packets can ask for each of them.
use Rattle.std.proofs.Common.{◌≡◌, ℕ, ◌+◌, ◌≤◌, Bool, true, List, [], ◌∷◌, ◌++◌, length, take, drop, All, Option, Some, None, sym, refl, ap, ◌∙◌, arith, length-append, not}
use Rattle.std.specs.List.{filter_map, last_or}
use Rattle.std.specs.Str.{bytes_eq, str_eq_ignore_ascii_case, str_to_ascii_lowercase}
use Rattle.std.specs.Char.{to_ascii_lowercase}
use Rattle.std.proofs.lemmas.Bool.{cond_both}
use Rattle.std.proofs.lemmas.List.{length-map}
use Rattle.std.proofs.lemmas.List.Elements.{All-nil, All-cons, All-head, All-tail, All-append, All-push, All-take, All-drop, All-filter}
use Rattle.std.proofs.lemmas.Slice.Eq.{bytes_eq-Decides}
use Rattle.milter_wire.specs.declared.command.Command.TheVariants as commands
use Rattle.milter_fields.specs.declared.header.Header.{Header}
use Rattle.milter_fields.specs.declared.path.Path.{Path}
use Rattle.milter_wire.specs.declared.reply.Reply.TheVariants as replies
use Rattle.milter_wire.specs.Command.{Fits}
use Rattle.milter_wire.specs.Reply.{Fits as ReplyFits}
use Rattle.milter_fields.specs.Field.{HasNoNul, string}
use Rattle.milter_fields.specs.Number.{number}
use Rattle.milter_fields.specs.Layout.{PathFits}
use Rattle.milter_message.specs.declared.edit.Edit.{Edit}
use Rattle.milter_message.specs.declared.edit.Edit.TheVariants.{AddHeader, InsertHeader, ChangeHeader, AddRcpt, AddRcptPar, DelRcpt, ChangeFrom}
use Rattle.milter_message.specs.EditReplies.{reply_of}
use Rattle.milter_message.specs.EditedMessage.{added_field, change_at, changed_field, occurrence, edit_headers, edit_recipients, edited_message, headers_after, insert_at, new_sender, or_as_it_was, params_of, positions_from, recipients_after}
use Rattle.milter_message.specs.LeadingSpace.{FieldFits, WholeFieldFits, change_header, put_header, without_leading_space}
use Rattle.milter_message.specs.MailObject.{IsMessage, MailObject}
use Rattle.milter_message.proofs.EditFolds.{IsNamed, occurrence_position}
use Rattle.milter_message.proofs.LeadingSpaces.{change_fits, put_fits}

abbrev pub IsAsked : Edit → Type 0
IsAsked edit = ReplyFits (reply_of edit)

-- ---- header fields

-- names that are equal but for case are as long
same_length : (a b : List ℕ) → str_eq_ignore_ascii_case a b ≡ true → length a ≡ length b
same_length a b e =
    let same = (bytes_eq-Decides (str_to_ascii_lowercase a) (str_to_ascii_lowercase b)).0 e in
    sym (length-map a to_ascii_lowercase) ∙ ap length same ∙ length-map b to_ascii_lowercase

added_fits : (header : Header) → ReplyFits (replies.AddHeader header) → WholeFieldFits header
added_fits header h = record { fields = h.fields; payload = h.payload }

inserted_fits : (index : ℕ) (header : Header) → ReplyFits (replies.InsertHeader index header) → WholeFieldFits header
inserted_fits index header h = record {
  fields = h.fields.header;
  payload =
      let p = h.payload in
      let l = length-append (number index) (string header.name ++ string header.value) in
      omega arith;
}

changed_fits : (index : ℕ) (header : Header) → ReplyFits (replies.ChangeHeader index header) → WholeFieldFits header
changed_fits index header h = record {
  fields = h.fields.header;
  payload =
      let p = h.payload in
      let l = length-append (number index) (string header.name ++ string header.value) in
      omega arith;
}

-- another value under a name that is as long
renamed_fits : (old : Header) (name value : List ℕ) → length old.name ≡ length name → FieldFits old → FieldFits (record { name = name; value = value }) → FieldFits (record { name = old.name; value = value })
renamed_fits old name value same h k = record {
  fields = record { name = h.fields.name; value = k.fields.value };
  payload =
      let p = k.payload in
      let l = length-append (string name) (string (without_leading_space value)) in
      let m = length-append (string old.name) (string (without_leading_space value)) in
      let n = length-append name (0 ∷ []) in
      let o = length-append old.name (0 ∷ []) in
      omega arith;
}

field_fits : (value : List ℕ) (rest : List Header) (header : Header) → header.value ≡ value → IsNamed header.name rest → All FieldFits rest → FieldFits header → All FieldFits (changed_field value rest)
field_fits [] rest header e named h k = All-nil FieldFits
field_fits (byte ∷ bytes) [] header e named h k = All-nil FieldFits
field_fits (byte ∷ bytes) (old ∷ rest) header e named h k =
    let fits = renamed_fits old header.name header.value (same_length old.name header.name named) (All-head FieldFits old rest h) k in
    All-cons FieldFits (record { name = old.name; value = byte ∷ bytes }) [] (rw e at fits) (All-nil FieldFits)

change_at_fits : (found : Option ℕ) (header : Header) (headers : List Header) → ((position : ℕ) → found ≡ Some position → IsNamed header.name (drop position headers)) → All FieldFits headers → FieldFits header → All FieldFits (change_at found header headers)
change_at_fits None header headers named h k =
    All-append FieldFits headers (added_field header) h
    (cond_both (bytes_eq header.value []) [] (header ∷ []) (All FieldFits) (λ _. All-nil FieldFits) (λ _. All-cons FieldFits header [] k (All-nil FieldFits)))
change_at_fits (Some position) header headers named h k =
    let new = field_fits header.value (drop position headers) header refl (named position refl) (All-drop FieldFits position headers h) k in
    All-append FieldFits (take position headers ++ changed_field header.value (drop position headers)) (drop (position + 1) headers)
    (All-append FieldFits (take position headers) (changed_field header.value (drop position headers)) (All-take FieldFits position headers h) new)
    (All-drop FieldFits (position + 1) headers h)

named_at : (index : ℕ) (name : List ℕ) (headers : List Header) (position : ℕ) → occurrence index (positions_from 0 name headers) ≡ Some position → IsNamed name (drop position headers)
named_at index name headers position e =
    let h = occurrence_position index name 0 headers position e in
    let sum = h.sum in
    let same : h.ahead ≡ position = omega arith in
    rw same at h.named

insert_fits : (index : ℕ) (header : Header) (headers : List Header) → All FieldFits headers → FieldFits header → All FieldFits (insert_at index header headers)
insert_fits index header headers h k =
    All-append FieldFits (take index headers) (header ∷ drop index headers) (All-take FieldFits index headers h)
    (All-cons FieldFits header (drop index headers) k (All-drop FieldFits index headers h))

edit_headers_fits : (leading_space : Bool) (headers : List Header) (edit : Edit) → All FieldFits headers → IsAsked edit → All FieldFits (edit_headers leading_space headers edit)
edit_headers_fits leading_space headers (AddHeader header) h k =
    All-push FieldFits headers (put_header leading_space header) h (put_fits leading_space header (added_fits header k))
edit_headers_fits leading_space headers (InsertHeader index header) h k =
    insert_fits index (put_header leading_space header) headers h (put_fits leading_space header (inserted_fits index header k))
edit_headers_fits leading_space headers (ChangeHeader index header) h k =
    change_at_fits (occurrence index (positions_from 0 header.name headers)) (change_header leading_space header) headers (named_at index header.name headers) h
    (change_fits leading_space header.name header.value (changed_fits index header k))
edit_headers_fits leading_space headers other h k = h

headers_after_fits : (leading_space : Bool) (headers : List Header) (edits : List Edit) → All FieldFits headers → All IsAsked edits → All FieldFits (headers_after leading_space headers edits)
headers_after_fits leading_space headers [] h asked = h
headers_after_fits leading_space headers (edit ∷ edits) h asked =
    headers_after_fits leading_space (edit_headers leading_space headers edit) edits (edit_headers_fits leading_space headers edit h (All-head IsAsked edit edits asked)) (All-tail IsAsked edit edits asked)

-- ---- paths: a sender's packet and a recipient's have the same payload

record IsEncodablePath (path : Path) : Type 0 where
  sender : Fits (commands.Mail path)
  recipient : Fits (commands.Rcpt path)

plain_fits : (address : List ℕ) → ReplyFits (replies.AddRcpt address) → IsEncodablePath (record { address = address; params = [] })
plain_fits address h =
    let p = h.payload in
    let l = length-append (string address) [] in
    let short : length (string address ++ []) ≤ 65535 = omega arith in
    let no_nul : PathFits (record { address = address; params = [] }) = record { address = h.fields; params = All-nil HasNoNul } in
    record {
      sender = record { fields = no_nul; payload = short };
      recipient = record { fields = no_nul; payload = short };
    }

path_fits : (address : List ℕ) (arguments : Option (List ℕ)) → ReplyFits (replies.AddRcptPar address arguments) → IsEncodablePath (record { address = address; params = params_of arguments })
path_fits address None h =
    let no_nul : PathFits (record { address = address; params = [] }) = record { address = h.fields.no_nul; params = All-nil HasNoNul } in
    record {
      sender = record { fields = no_nul; payload = h.payload };
      recipient = record { fields = no_nul; payload = h.payload };
    }
path_fits address (Some text) h =
    let p = h.payload in
    let l = length-append (string address) (string text) in
    let m = length-append (string address) (string text ++ []) in
    let n = length-append (string text) [] in
    let short : length (string address ++ (string text ++ [])) ≤ 65535 = omega arith in
    let no_nul : PathFits (record { address = address; params = text ∷ [] }) = record { address = h.fields.no_nul; params = All-cons HasNoNul text [] h.fields.arguments (All-nil HasNoNul) } in
    record {
      sender = record { fields = no_nul; payload = short };
      recipient = record { fields = no_nul; payload = short };
    }

-- ---- recipients

abbrev pub IsRecipient : Path → Type 0
IsRecipient recipient = Fits (commands.Rcpt recipient)

edit_recipients_fits : (recipients : List Path) (edit : Edit) → All IsRecipient recipients → IsAsked edit → All IsRecipient (edit_recipients recipients edit)
edit_recipients_fits recipients (AddRcpt address) h k =
    All-push IsRecipient recipients (record { address = address; params = [] }) h (plain_fits address k).recipient
edit_recipients_fits recipients (AddRcptPar address arguments) h k =
    All-push IsRecipient recipients (record { address = address; params = params_of arguments }) h (path_fits address arguments k).recipient
edit_recipients_fits recipients (DelRcpt address) h k =
    All-filter (λ (recipient : Path). not (bytes_eq recipient.address address)) IsRecipient recipients h
edit_recipients_fits recipients other h k = h

recipients_after_fits : (recipients : List Path) (edits : List Edit) → All IsRecipient recipients → All IsAsked edits → All IsRecipient (recipients_after recipients edits)
recipients_after_fits recipients [] h asked = h
recipients_after_fits recipients (edit ∷ edits) h asked =
    recipients_after_fits (edit_recipients recipients edit) edits (edit_recipients_fits recipients edit h (All-head IsAsked edit edits asked)) (All-tail IsAsked edit edits asked)

-- ---- the sender

sender_fits : (old : Path) (last : Option Path) (edits : List Edit) → Fits (commands.Mail (or_as_it_was old last)) → All IsAsked edits → Fits (commands.Mail (or_as_it_was old (last_or last (filter_map new_sender edits))))
sender_fits old last [] h asked = h
sender_fits old last (ChangeFrom address arguments ∷ edits) h asked =
    let k = All-head IsAsked (ChangeFrom address arguments) edits asked in
    let known = path_fits address arguments (record { fields = k.fields; payload = k.payload }) in
    sender_fits old (Some (record { address = address; params = params_of arguments })) edits known.sender (All-tail IsAsked (ChangeFrom address arguments) edits asked)
sender_fits old last (other ∷ edits) h asked = sender_fits old last edits h (All-tail IsAsked other edits asked)

-- ---- the whole

pub edited_is_message : (leading_space : Bool) (message : MailObject) (edits : List Edit) → IsMessage message → All IsAsked edits → IsMessage (edited_message leading_space message edits).message
edited_is_message leading_space message edits h asked = record {
  sender = sender_fits message.sender None edits h.sender asked;
  recipients = recipients_after_fits message.recipients edits h.recipients asked;
  headers = headers_after_fits leading_space message.headers edits h.headers asked;
}
