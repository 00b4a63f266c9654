-- The verdicts that were acted on, and what they settle, by what was exchanged about a message: its dialogue, the
-- latest exchange first.
use Rattle.std.specs.Prelude.{ℕ, ◌==◌, Bool, List, [], ◌∷◌, ◌++◌, length, Option, None, Some}
use Rattle.std.specs.List.{filter}
use Rattle.milter_wire.specs.declared.stage.Stage.{Stage}
use Rattle.milter_wire.specs.Stages.{stage_of}
use Rattle.milter_message.specs.MailObject.{MailObject}
use Rattle.milter_protocol.specs.declared.answer.Answer.{Answer}
use Rattle.milter_protocol.specs.Exchanges.{Exchange}
use Rattle.milter_protocol.specs.Transcripts.{rank_at}
use Rattle.milter_protocol.specs.StageOrder.{rank_of}
use Rattle.milter_mta_outcome.specs.declared.acted_verdicts.Acted.{Acted}
use Rattle.milter_mta_outcome.specs.declared.fallback.OnLoss.{OnLoss}
use Rattle.milter_mta_outcome.specs.declared.outcome.Outcome.{Outcome}
use Rattle.milter_mta_outcome.specs.ActedVerdicts.{kept}
use Rattle.milter_mta_outcome.specs.Outcomes.{fallback, outcome}

-- ---- verdicts

abbrev pub is_at : Stage → Exchange → Bool
is_at stage exchange = rank_at (stage_of exchange.command) == rank_of stage

-- how many commands of the stage were sent
abbrev pub count_at : Stage → List Exchange → ℕ
count_at stage dialogue = length (filter (is_at stage) dialogue)

abbrev pub acted_at : Option Stage → Option Answer → List Exchange → List Acted
acted_at (Some stage) (Some answer) dialogue =
    record { stage = stage; nth = count_at stage dialogue; verdict = answer.verdict } ∷ []
acted_at (Some stage) None dialogue = []
acted_at None answer dialogue = []

-- the verdicts of a dialogue, in order, each with the number of its command among those of the stage
abbrev pub acted : List Exchange → List Acted
acted [] = []
acted (last ∷ before) = acted before ++ acted_at (stage_of last.command) last.answer (last ∷ before)

-- ---- what they settle

abbrev pub ruled_by : Bool → MailObject → Option Stage → Option Answer → Option Outcome
ruled_by leading_space message (Some stage) (Some answer) = Some (outcome leading_space stage answer message)
ruled_by leading_space message (Some stage) None = None
ruled_by leading_space message None answer = None

abbrev pub ruled_at : Bool → MailObject → List Exchange → Option Outcome
ruled_at leading_space message [] = None
ruled_at leading_space message (last ∷ before) = ruled_by leading_space message (stage_of last.command) last.answer

-- what a dialogue that ended makes of the message: what its last answer makes of what is kept of it
abbrev pub ruled : Bool → MailObject → List Exchange → Option Outcome
ruled leading_space message dialogue = ruled_at leading_space (kept message (acted dialogue)) dialogue

-- what a dialogue makes of the message where the filter is lost
abbrev pub given_up : OnLoss → MailObject → List Exchange → Outcome
given_up on_loss message dialogue = fallback on_loss (kept message (acted dialogue))
