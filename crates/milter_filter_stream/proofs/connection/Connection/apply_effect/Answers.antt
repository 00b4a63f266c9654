use Rattle.std.proofs.Common.{◌≡◌, ◌+◌, ℕ, sym, ◌∙◌, ap, arith}
use Rattle.milter_wire.specs.declared.command.Command.TheVariants.{DataCmd}
use Rattle.milter_protocol.specs.OrderStates.{OrderState, with_shown}
use Rattle.milter_filter_stream.proofs.AnswerEffects.{data-len}
use Rattle.milter_filter_stream.proofs.connection.Connection.apply_effect.Goals as goal

pub returns-in-CountsData : goal.returns-in-CountsData
returns-in-CountsData c =
    let old = c.self.inside in
    let bytes : old.shown_bytes + 5 ≡ 5 + old.shown_bytes = omega arith in
    let with_len = λ (n : ℕ). let s : OrderState = record {
      order = old.order;
      negotiated = old.negotiated;
      last_rank = 5;
      shown = record { seen = old.seen.shown; bytes = n + old.shown_bytes };
      connection = record { seen = old.seen.connection; bytes = old.connection_bytes };
      state = old.state;
    } in s in
    rw (c.in-CountsData.is, c.rank_of-self-inside.ensures.rank, bytes)
    (ap with_len (sym data-len) ∙ ap (λ s. with_shown s DataCmd) c.self.view_is)
