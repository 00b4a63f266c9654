use Rattle.std.proofs.Common.{take}
use Rattle.milter_message.proofs.NameNumbering.{Numbered}
use Rattle.milter_message.proofs.name_numbers.name_numbers.Given as goal

-- the names so far have numbers
abbrev pub invariant-loop-name : goal.invariant-loop-name
invariant-loop-name l = Numbered (take l.name-index l.names) l.most l.numbers l.of_names.items
