-- What is noted of a conversation that is played again.
use Rattle.std.specs.Prelude.{◌≡◌, None}
use Rattle.milter_replay.specs.declared.replay_run.Replayed.{Replayed}

-- the loss of the filter is a difference
abbrev pub IsLossNoted : Replayed → Type 0
IsLossNoted replayed = replayed.difference ≡ None → replayed.loss ≡ None
