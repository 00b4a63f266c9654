use Rattle.std.proofs.Common.{rules, tests, Ok, ◌==◌}
use Rattle.std.specs.declared.alloc.AllocError.{AllocError}
use Rattle.std.proofs.lemmas.Iterator.Consumers.{map_from_collect}
use Rattle.std.proofs.lemmas.Iterator.Splits.{YieldsList-from_slice_split}
use Rattle.milter_mail.specs.declared.chosen_macros.TheConstants.{NAME_SEPARATOR}
use Rattle.milter_mail.proofs.chosen_macros.parts_of.Goals as goal

pub returns : goal.returns
returns c =
    map_from_collect {E = AllocError} (Ok c.in_ok-collect.field-0) c.in_ok-collect.ensures.ran
    (YieldsList-from_slice_split _ (λ byte. byte == NAME_SEPARATOR) c.args.text.now c.split-parts.ensures.rest c.split-parts.ensures.done c.split-parts.ensures.closure (λ x r q k. search (rules, tests)))
