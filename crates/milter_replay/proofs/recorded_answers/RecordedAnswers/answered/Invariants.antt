use Rattle.std.proofs.Common.{length, ◌-◌}
use Rattle.milter_replay.proofs.recorded_answers.RecordedAnswers.answered.Given as goal

-- the commands that were not looked at
abbrev pub decreases-loop-self : goal.decreases-loop-self
decreases-loop-self l = length l.exchanges - l.self.queued
