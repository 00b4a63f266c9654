use Rattle.std.proofs.Common.{◌≡◌}
use Rattle.milter_replay.proofs.SendingLaws.{AllFit-parts}
use Rattle.milter_replay.proofs.replay_run.replay.Goals as goal

pub play_all-requires : goal.play_all-requires
play_all-requires g c =
    let same : c.as_slice.result.now ≡ c.args.recording.now.exchanges.items = cc c.as_slice.ensures.value in
    AllFit-parts c.args.recording.now.exchanges.items c.as_slice.result.now c.offer-item.result same c.in-len1-up.len_at_least c.offer-item.is c.requires
