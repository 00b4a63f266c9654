-- Filters of one verdict, for worked sessions.
use Rattle.std.specs.Prelude.{ℕ, ◌==◌, List, [], map, Option, option_map, if◌then◌else◌}
use Rattle.milter_wire.specs.declared.negotiation.Negotiated.{Negotiated}
use Rattle.milter_wire.specs.declared.stage.Stage.{Stage}
use Rattle.milter_wire.specs.declared.verdict.Verdict.{Verdict}
use Rattle.milter_wire.specs.declared.verdict.Verdict.TheVariants.{Continue}
use Rattle.milter_message.specs.MailObject.{MailObject}
use Rattle.milter_mail.specs.Plan.{plan}
use Rattle.milter_protocol.specs.Behavior.{Behavior}
use Rattle.milter_protocol.specs.Pass.{pass}
use Rattle.milter_protocol.specs.StageOrder.{rank_of}
use Rattle.milter_mta_outcome.specs.declared.outcome.Outcome.{Outcome}
use Rattle.milter_mta.specs.Worked.{options, session}
use Rattle.milter_mta.specs.Sessions.{lines_from, reports_by}

-- version 6 without a bit
abbrev pub negotiated : Negotiated
negotiated = record { options = options 6 0 0; lists = [] }

-- this verdict at this stage; else it lets all go on
abbrev pub filter_at : Stage → Verdict → Behavior
filter_at stage verdict =
    record pass {
      decide = λ at seen. record {
        edits = [];
        verdict = if rank_of at == rank_of stage then verdict else Continue;
      };
    }

-- the packets of a session with the filter
abbrev pub packets : Behavior → MailObject → List MailObject → List (List ℕ)
packets b message messages =
    map (λ line. line.out) (lines_from b negotiated (session []) messages [] (plan negotiated (session []) message))

-- what becomes of messages
abbrev pub outcomes : Behavior → List MailObject → List (Option Outcome)
outcomes b messages = map (λ found. option_map (λ r. r.outcome) found) (reports_by b negotiated (session []) messages)
