use Rattle.std.proofs.Common.{◌≡◌, take}
use Rattle.std.specs.Option.{option_copied}
use Rattle.milter_mail.specs.ChosenMacros.{list_of}
use Rattle.milter_mail.proofs.chosen_macros.last_list.Given as goal

-- the last list of the stage among those so far
abbrev pub invariant-loop-list : goal.invariant-loop-list
invariant-loop-list l = option_copied l.last ≡ list_of l.fn.stage (take l.list-index l.lists)
