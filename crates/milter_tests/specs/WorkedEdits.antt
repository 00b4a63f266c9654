-- Edits of header fields, one after the other.
use Rattle.std.specs.Prelude.{List, [], ◌∷◌, codes}
use Rattle.milter_fields.specs.declared.header.Header.{Header}
use Rattle.milter_message.specs.declared.edit.Edit.{Edit}
use Rattle.milter_message.specs.declared.edit.Edit.TheVariants.{InsertHeader, ChangeHeader}
use Rattle.milter_tests.specs.WorkedMessage.{field}

abbrev pub old_fields : List Header
old_fields = field (codes "A") (codes "1") ∷ field (codes "B") (codes "2") ∷ field (codes "A") (codes "3") ∷ []

-- the second A, an A that isn't there, a place after the end, and the first place
abbrev pub edits_of_fields : List Edit
edits_of_fields =
    ChangeHeader 2 (field (codes "a") (codes "x"))
    ∷ ChangeHeader 5 (field (codes "A") (codes "y"))
    ∷ InsertHeader 99 (field (codes "C") (codes "4"))
    ∷ InsertHeader 0 (field (codes "D") (codes "5"))
    ∷ []

abbrev pub new_fields : List Header
new_fields =
    field (codes "D") (codes "5")
    ∷ field (codes "A") (codes "1")
    ∷ field (codes "B") (codes "2")
    ∷ field (codes "A") (codes "x")
    ∷ field (codes "A") (codes "y")
    ∷ field (codes "C") (codes "4")
    ∷ []

-- the same, where leading spaces aren't sent
abbrev pub new_fields_with_blanks : List Header
new_fields_with_blanks =
    field (codes "D") (codes " 5")
    ∷ field (codes "A") (codes "1")
    ∷ field (codes "B") (codes "2")
    ∷ field (codes "A") (codes " x")
    ∷ field (codes "A") (codes " y")
    ∷ field (codes "C") (codes " 4")
    ∷ []
