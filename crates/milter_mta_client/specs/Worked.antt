-- Small reports, for worked examples.
use Rattle.std.specs.Prelude.{ℕ, List, false}
use Rattle.milter_wire.specs.declared.stage.Stage.{Stage}
use Rattle.milter_wire.specs.declared.verdict.Verdict.{Verdict}
use Rattle.milter_mta_outcome.specs.declared.acted_verdicts.Acted.{Acted}
use Rattle.milter_mta_outcome.specs.declared.outcome.Report.{Report}
use Rattle.milter_mta_client.specs.ReportsText.{texts_from}

abbrev pub acted : Stage → ℕ → Verdict → Acted
acted stage nth verdict = record { stage = stage; nth = nth; verdict = verdict }

-- of these messages
abbrev pub text_with : List Report → List ℕ
text_with messages = texts_from 1 false messages
