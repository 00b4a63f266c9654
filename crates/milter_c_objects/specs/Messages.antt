-- A message that is put together part by part, and what edits make of it.
use Rattle.std.specs.Prelude.{ℕ, List, [], ◌∷◌, ◌++◌, Bool, Option, None, Some, option_map, slice_get}
use Rattle.milter_fields.specs.declared.header.Header.{Header}
use Rattle.milter_fields.specs.declared.path.Path.{Path}
use Rattle.milter_message.specs.declared.edit.Edit.{Edit}
use Rattle.milter_message.specs.declared.message.Held.{Held}
use Rattle.milter_message.specs.EditedMessage.{edited_message}

-- an address without ESMTP parameters
abbrev pub bare_path : List ℕ → Path
bare_path address = record { address = address; params = [] }

-- ---- its parts

-- a message of this sender, and nothing else
abbrev pub message_from : List ℕ → Held
message_from sender =
    record {
      message = record { sender = bare_path sender; recipients = []; headers = []; body = [] };
      quarantine = None;
    }

-- with a recipient more, after the others
abbrev pub with_recipient : List ℕ → Held → Held
with_recipient address held =
    record held {
      message = record held.message { recipients = held.message.recipients ++ bare_path address ∷ [] };
    }

-- with a header field more, after the others
abbrev pub with_header : Header → Held → Held
with_header header held =
    record held { message = record held.message { headers = held.message.headers ++ header ∷ [] } }

-- with more bytes of the body
abbrev pub with_body : List ℕ → Held → Held
with_body bytes held = record held { message = record held.message { body = held.message.body ++ bytes } }

-- ---- edits

-- the last reason counts
abbrev pub later_reason : Option (List ℕ) → Option (List ℕ) → Option (List ℕ)
later_reason old None = old
later_reason old (Some reason) = Some reason

-- the message after the edits
abbrev pub edited : Bool → List Edit → Held → Held
edited leading_space edits held =
    record {
      message = (edited_message leading_space held.message edits).message;
      quarantine = later_reason held.quarantine (edited_message leading_space held.message edits).quarantine;
    }

-- ---- what is read of it

abbrev pub recipient_at : Held → ℕ → Option (List ℕ)
recipient_at held place = option_map (λ path. path.address) (slice_get held.message.recipients place)

abbrev pub header_name_at : Held → ℕ → Option (List ℕ)
header_name_at held place = option_map (λ header. header.name) (slice_get held.message.headers place)

abbrev pub header_value_at : Held → ℕ → Option (List ℕ)
header_value_at held place = option_map (λ header. header.value) (slice_get held.message.headers place)
