use Rattle.std.proofs.Common.{subst, sym}
use Rattle.milter_world.specs.EventFile.{HaveEvents}
use Rattle.milter_world.proofs.FileLaws.{only_read}
use Rattle.milter_world.proofs.SmallNumbers.{small_read}
use Rattle.milter_world.proofs.event_file.read_events.Goals as goal

pub returns-clause-small : goal.returns-clause-small
returns-clause-small c =
    small_read (λ events. events.items) c.new-lines.result.lines c.read_lines.result c.read_lines.ensures.found

pub returns-clause-only : goal.returns-clause-only
returns-clause-only c = λ events is.
    let have = subst (λ lines. HaveEvents lines events) (sym c.new-lines.ensures.lines) is in
    only_read (λ events. events.items) c.new-lines.result.lines c.read_lines.result c.read_lines.ensures.found
    c.read_lines.ensures.fault events have
