-- How a message is refused.
use Rattle.std.specs.Prelude.{ℕ, List, codes, Option, None, Some, if◌then◌else◌}
use Rattle.milter_wire.specs.declared.verdict.Verdict.{Verdict}
use Rattle.milter_wire.specs.declared.verdict.Verdict.TheVariants as verdicts
use Rattle.milter_protocol.specs.Verdicts.{is_refusal}
use Rattle.milter_mta_outcome.specs.declared.fallback.OnLoss.{OnLoss}
use Rattle.milter_mta_outcome.specs.declared.fallback.OnLoss.TheVariants as defaults
use Rattle.milter_mta_outcome.specs.declared.outcome.Refusal.{Refusal}
use Rattle.milter_mta_outcome.specs.declared.outcome.Refusal.TheVariants.{Reject, Tempfail, Code}

abbrev pub refusal_text : Refusal → List ℕ
refusal_text Reject = codes "550 5.7.1 Command rejected"
refusal_text Tempfail = codes "451 4.3.2 Please try again later"
refusal_text (Code text) = text

-- the refusal that a verdict is
abbrev pub refusal_of : Verdict → Refusal
refusal_of (verdicts.Code text) = Code text
refusal_of verdicts.Tempfail = Tempfail
refusal_of other = Reject

-- where it refuses what was asked about
abbrev pub refusal_by : Verdict → Option Refusal
refusal_by verdict = if is_refusal verdict then Some (refusal_of verdict) else None

-- a lost filter's
abbrev pub default_refusal : OnLoss → Option Refusal
default_refusal defaults.Accept = None
default_refusal defaults.Tempfail = Some Tempfail
default_refusal defaults.Reject = Some Reject
