-- What edits make of a message: one edit after the other, on whole lists.
use Rattle.std.specs.Prelude.{ℕ, ◌+◌, ◌-◌, ◌==◌, Bool, not, List, [], ◌∷◌, ◌++◌, take, drop, Option, None, Some, if◌then◌else◌}
use Rattle.std.specs.List.{concat, filter, filter_map, last_or}
use Rattle.std.specs.Str.{bytes_eq, str_eq_ignore_ascii_case}
use Rattle.milter_fields.specs.declared.header.Header.{Header}
use Rattle.milter_fields.specs.declared.path.Path.{Path}
use Rattle.milter_message.specs.declared.edit.Edit.{Edit}
use Rattle.milter_message.specs.declared.edit.Edit.TheVariants.{AddHeader, InsertHeader, ChangeHeader, AddRcpt, AddRcptPar, DelRcpt, ChangeFrom, ReplaceBody, Quarantine}
use Rattle.milter_message.specs.declared.message.Held.{Held}
use Rattle.milter_message.specs.LeadingSpace.{change_header, put_header}
use Rattle.milter_message.specs.MailObject.{MailObject}

-- ---- header fields

-- at an index: after so many of the others, or after all of them where there are fewer
abbrev pub insert_at : ℕ → Header → List Header → List Header
insert_at position header headers = take position headers ++ header ∷ drop position headers

-- the positions of the header fields of a name, in order, without regard to ASCII case; the first field is at
-- `position`
abbrev pub positions_from : ℕ → List ℕ → List Header → List ℕ
positions_from position name [] = []
positions_from position name (header ∷ headers) =
    if str_eq_ignore_ascii_case header.name name then position ∷ positions_from (position + 1) name headers
    else positions_from (position + 1) name headers

-- one of a list, counted from 1; 0 is taken as 1
abbrev pub occurrence : ℕ → List ℕ → Option ℕ
occurrence n [] = None
occurrence n (position ∷ positions) = if n - 1 == 0 then Some position else occurrence (n - 1) positions

-- the field keeps the old encoding of its name; an empty value deletes it
abbrev pub changed_field : List ℕ → List Header → List Header
changed_field [] old = []
changed_field (byte ∷ bytes) [] = []
changed_field (byte ∷ bytes) (header ∷ headers) = record { name = header.name; value = byte ∷ bytes } ∷ []

-- a field that isn't there is added as the last, but for an empty value
abbrev pub added_field : Header → List Header
added_field header = if bytes_eq header.value [] then [] else header ∷ []

-- another value for the field at a position, or none
abbrev pub set_field : ℕ → List ℕ → List Header → List Header
set_field position value headers =
    take position headers ++ changed_field value (drop position headers) ++ drop (position + 1) headers

abbrev pub change_at : Option ℕ → Header → List Header → List Header
change_at None header headers = headers ++ added_field header
change_at (Some position) header headers = set_field position header.value headers

-- the occurrence of the name with this number gets another value
abbrev pub change : ℕ → Header → List Header → List Header
change index header headers = change_at (occurrence index (positions_from 0 header.name headers)) header headers

-- an edit of header fields, with or without leading spaces in the values that it puts
abbrev pub edit_headers : Bool → List Header → Edit → List Header
edit_headers leading_space headers (AddHeader header) = headers ++ put_header leading_space header ∷ []
edit_headers leading_space headers (InsertHeader index header) =
    insert_at index (put_header leading_space header) headers
edit_headers leading_space headers (ChangeHeader index header) =
    change index (change_header leading_space header) headers
edit_headers leading_space headers other = headers

abbrev pub headers_after : Bool → List Header → List Edit → List Header
headers_after leading_space headers [] = headers
headers_after leading_space headers (edit ∷ edits) =
    headers_after leading_space (edit_headers leading_space headers edit) edits

-- ---- recipients

-- the argument text is the one parameter
abbrev pub params_of : Option (List ℕ) → List (List ℕ)
params_of None = []
params_of (Some arguments) = arguments ∷ []

-- all but those with this very address
abbrev pub without : List ℕ → List Path → List Path
without address recipients = filter (λ recipient. not (bytes_eq recipient.address address)) recipients

abbrev pub edit_recipients : List Path → Edit → List Path
edit_recipients recipients (AddRcpt address) = recipients ++ record { address = address; params = [] } ∷ []
edit_recipients recipients (AddRcptPar address arguments) =
    recipients ++ record { address = address; params = params_of arguments } ∷ []
edit_recipients recipients (DelRcpt address) = without address recipients
edit_recipients recipients other = recipients

abbrev pub recipients_after : List Path → List Edit → List Path
recipients_after recipients [] = recipients
recipients_after recipients (edit ∷ edits) = recipients_after (edit_recipients recipients edit) edits

-- ---- the sender, the body and the quarantine: what is asked of each, in order

abbrev pub new_sender : Edit → Option Path
new_sender (ChangeFrom address arguments) = Some (record { address = address; params = params_of arguments })
new_sender other = None

abbrev pub new_chunk : Edit → Option (List ℕ)
new_chunk (ReplaceBody bytes) = Some bytes
new_chunk other = None

abbrev pub new_reason : Edit → Option (List ℕ)
new_reason (Quarantine reason) = Some reason
new_reason other = None

abbrev pub or_as_it_was : {X : Type 0} → X → Option X → X
or_as_it_was old None = old
or_as_it_was old (Some new) = new

-- the chunks one after the other, where there is one
abbrev pub body_of : List ℕ → List (List ℕ) → List ℕ
body_of old [] = old
body_of old (chunk ∷ chunks) = concat (chunk ∷ chunks)

-- ---- the whole

-- the last sender that is asked for, the recipients and header fields after all edits, the new body in place of the old
-- one, and the last reason for a quarantine
abbrev pub edited_message : Bool → MailObject → List Edit → Held
edited_message leading_space message edits =
    record {
      message =
          record {
            sender = or_as_it_was message.sender (last_or None (filter_map new_sender edits));
            recipients = recipients_after message.recipients edits;
            headers = headers_after leading_space message.headers edits;
            body = body_of message.body (filter_map new_chunk edits);
          };
      quarantine = last_or None (filter_map new_reason edits);
    }
