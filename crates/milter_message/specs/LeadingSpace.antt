-- The blank that the value of a header field begins with. A message has it in its values; where leading spaces aren't
-- sent, a value is sent without it, and a value that the filter puts gets one.
use Rattle.std.specs.Prelude.{ℕ, ◌==◌, Bool, true, false, List, [], ◌∷◌, if◌then◌else◌}
use Rattle.milter_wire.specs.declared.command.Command.TheVariants as commands
use Rattle.milter_fields.specs.declared.header.Header.{Header}
use Rattle.milter_wire.specs.Command.{Fits}
use Rattle.milter_message.specs.declared.leading_space.TheConstants.{LEADING_SPACE}

-- the value but for the one blank that it begins with, if it begins with one
abbrev pub without_leading_space : List ℕ → List ℕ
without_leading_space [] = []
without_leading_space (byte ∷ bytes) = if byte == LEADING_SPACE then bytes else byte ∷ bytes

-- the header field as it is sent: where leading spaces are sent too, as it is
abbrev pub sent_header : Bool → Header → Header
sent_header true header = header
sent_header false header = record { name = header.name; value = without_leading_space header.value }

-- the value that an edit puts: where leading spaces aren't sent, it gets one
abbrev pub put_value : Bool → List ℕ → List ℕ
put_value true value = value
put_value false value = LEADING_SPACE ∷ value

abbrev pub put_header : Bool → Header → Header
put_header leading_space header = record { name = header.name; value = put_value leading_space header.value }

-- the value that a change puts: an empty one puts none
abbrev pub changed_value : Bool → List ℕ → List ℕ
changed_value leading_space [] = []
changed_value leading_space (byte ∷ bytes) = put_value leading_space (byte ∷ bytes)

abbrev pub change_header : Bool → Header → Header
change_header leading_space header = record { name = header.name; value = changed_value leading_space header.value }

-- the packet of the header field fits without the blank that its value begins with
abbrev pub FieldFits : Header → Type 0
FieldFits header = Fits (commands.Header (sent_header false header))

-- the packet of the header field fits with its whole value
abbrev pub WholeFieldFits : Header → Type 0
WholeFieldFits header = Fits (commands.Header header)
