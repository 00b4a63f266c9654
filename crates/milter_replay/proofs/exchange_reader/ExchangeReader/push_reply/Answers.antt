use Rattle.std.proofs.Common.{ap}
use Rattle.milter_replay.specs.declared.conversation.Exchange.{Exchange}
use Rattle.milter_replay.proofs.ReadLaws.{same_command}
use Rattle.milter_replay.proofs.exchange_reader.ExchangeReader.push_reply.Goals as goal

pub returns-in_ok-push-clause-bytes : goal.returns-in_ok-push-clause-bytes
returns-in_ok-push-clause-bytes c =
    same_command c.args.self.now.exchanges.items c.args.place _ c.in-Some.exchange.now
    (ap (λ (e : Exchange). e.recorded) c.in-Some.ensures.value)
