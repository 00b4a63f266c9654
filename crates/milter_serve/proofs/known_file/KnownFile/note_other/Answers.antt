use Rattle.std.proofs.Common.{rules}
use Rattle.milter_serve.proofs.KnownFileLaws.{are_used, fault_taken}
use Rattle.milter_serve.proofs.known_file.KnownFile.note_other.Goals as goal

pub returns-in-Ok : goal.returns-in-Ok
returns-in-Ok c = (
  are_used c.args.usage c.args.file.bytes c.in-Ok.rules c.used_rules.result
      (search rules) (search rules) (search rules) c.in-Ok.ensures.case
      c.used_rules.ensures.set c.used_rules.ensures.named c.used_rules.ensures.ignored c.used_rules.ensures.kept,
  c.learn.ensures,
)

pub returns-in-Err : goal.returns-in-Err
returns-in-Err c =
    fault_taken c.args.usage c.args.file c.args.self.now c.learn-in-Err.new.self c.in-Err.error (search rules) (search rules) c.learn-in-Err.ensures
