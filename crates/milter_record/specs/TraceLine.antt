-- The line of a trace that records what was read.
use Rattle.std.specs.Prelude.{ℕ, List, [], ◌∷◌, ◌++◌}
use Rattle.hex.specs.Hex.{encode_lower}
use Rattle.milter_record.specs.declared.sender.Sender.{Sender}
use Rattle.milter_record.specs.declared.sender.Sender.TheVariants.{MailServer, Filter}

-- `>` of a mail server, `<` of a filter
abbrev pub mark_of : Sender → ℕ
mark_of MailServer = 62
mark_of Filter = 60

-- the mark, a blank, the bytes in hexadecimal digits, and LF
abbrev pub recorded_line : Sender → List ℕ → List ℕ
recorded_line sender bytes = mark_of sender ∷ 32 ∷ [] ++ encode_lower bytes ++ 10 ∷ []
