use Rattle.std.proofs.Common.{◌≡◌, take}
use Rattle.milter_replay.specs.Noted.{IsLossNoted}
use Rattle.milter_replay.specs.Sending.{Plays, bytes_after}
use Rattle.milter_replay.proofs.replay_run.play_others.Given as goal

abbrev pub invariant-loop-exchange : goal.invariant-loop-exchange
invariant-loop-exchange g l = record {
  terms : l.replayed.negotiated ≡ l.fn.replayed.negotiated;
  noted : IsLossNoted l.replayed;
  played : Plays l.fn.replayed.loss (bytes_after l.fn.replayed.negotiated (take l.exchange-index l.exchanges)) (g.L.Write.contents l.fn.link) (g.L.Write.contents l.link) l.replayed.loss;
}
