-- The parts of an edit: its number, its index, and its two texts.
use Rattle.std.specs.Prelude.{ℕ, List, [], Option, None, Some}
use Rattle.milter_message.specs.declared.edit.Edit.{Edit}
use Rattle.milter_message.specs.declared.edit.Edit.TheVariants.{AddHeader, InsertHeader, ChangeHeader, AddRcpt, AddRcptPar, DelRcpt, ChangeFrom, ReplaceBody, Quarantine, Progress}

-- from 1, in the order of the variants
abbrev pub edit_number : Edit → ℕ
edit_number (AddHeader header) = 1
edit_number (InsertHeader index header) = 2
edit_number (ChangeHeader index header) = 3
edit_number (AddRcpt address) = 4
edit_number (AddRcptPar address arguments) = 5
edit_number (DelRcpt address) = 6
edit_number (ChangeFrom address arguments) = 7
edit_number (ReplaceBody bytes) = 8
edit_number (Quarantine reason) = 9
edit_number Progress = 10

-- 0 where it has none
abbrev pub edit_index : Edit → ℕ
edit_index (InsertHeader index header) = index
edit_index (ChangeHeader index header) = index
edit_index other = 0

-- the name of a header field, an address, a chunk of a body, or a reason
abbrev pub first_text : Edit → List ℕ
first_text (AddHeader header) = header.name
first_text (InsertHeader index header) = header.name
first_text (ChangeHeader index header) = header.name
first_text (AddRcpt address) = address
first_text (AddRcptPar address arguments) = address
first_text (DelRcpt address) = address
first_text (ChangeFrom address arguments) = address
first_text (ReplaceBody bytes) = bytes
first_text (Quarantine reason) = reason
first_text Progress = []

-- no text where there are no parameters
abbrev pub or_nothing : Option (List ℕ) → List ℕ
or_nothing None = []
or_nothing (Some text) = text

-- the value of a header field, or the ESMTP parameters of an address
abbrev pub second_text : Edit → List ℕ
second_text (AddHeader header) = header.value
second_text (InsertHeader index header) = header.value
second_text (ChangeHeader index header) = header.value
second_text (AddRcptPar address arguments) = or_nothing arguments
second_text (ChangeFrom address arguments) = or_nothing arguments
second_text other = []
