use Rattle.std.proofs.Common.{◌≡◌, ◌++◌, take}
use Rattle.milter_replay.specs.ExchangeText.{marked}
use Rattle.milter_replay.proofs.exchange_text.put_lines.Given as goal

abbrev pub invariant-loop-reply : goal.invariant-loop-reply
invariant-loop-reply l = l.text.items ≡ l.fn.text.items ++ marked l.mark (take l.reply-index l.replies)
