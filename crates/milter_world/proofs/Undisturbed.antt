-- Without a loss or a timeout each message is reported as its dialogue rules.
use Rattle.std.proofs.Common.{◌≡◌, inl, inr, suc, ◌+◌, ◌≤◌, Bool, true, false, ◌||◌, if◌then◌else◌, List, [], ◌∷◌, ◌++◌, length, Option, None, Some, option_map, All, refl, sym, ◌∙◌, ap, subst, arith, append-nil, length-append}
use Rattle.std.specs.List.{AllZip}
use Rattle.std.proofs.lemmas.List.Elements.{All-cons, All-head, All-nil, All-tail}
use Rattle.milter_message.specs.MailObject.{MailObject}
use Rattle.milter_protocol.specs.Exchanges.{Exchange}
use Rattle.milter_wire.specs.Negotiation.{has_leading_space}
use Rattle.milter_mta_outcome.specs.declared.loss.By.{By}
use Rattle.milter_mta_outcome.specs.declared.loss.By.TheVariants.{Connection, Default, Filter}
use Rattle.milter_mta_outcome.specs.declared.loss.Loss.{Loss}
use Rattle.milter_mta_outcome.specs.declared.outcome.Outcome.{Outcome}
use Rattle.milter_mta_outcome.specs.declared.outcome.Report.{Report}
use Rattle.milter_mta_outcome.specs.Dialogues.{acted, ruled}
use Rattle.milter_mta.specs.Dispositions.{report}
use Rattle.milter_mta.specs.Sessions.{settled_through}
use Rattle.milter_mta.specs.Settled.{ends_with_client}
use Rattle.milter_world.specs.Schedule.{Scenario}
use Rattle.milter_world.specs.DialogueReports.{AreReported, HasAllVerdicts, IsReportOf, IsRuledBy, negotiated_of, by_reset, by_timeout, count_reports, is_by_verdict, is_known, dialogue_about}
use Rattle.milter_world.proofs.RunReports.{zip-length}

-- ---- none is by default

none-by : (is_by : By → Bool) (rs : List Report) → count_reports is_by rs ≤ 0 → All (λ (r : Report). is_by r.settled_by ≡ false) rs
none-by is_by [] none = All-nil (λ (r : Report). is_by r.settled_by ≡ false)
none-by is_by (r ∷ rs) none = by_kind (is_by r.settled_by) refl none (none-by is_by rs)
  where
    by_kind : (kind : Bool) → is_by r.settled_by ≡ kind → (if kind then suc (count_reports is_by rs) else count_reports is_by rs) ≤ 0
        → (count_reports is_by rs ≤ 0 → All (λ (r : Report). is_by r.settled_by ≡ false) rs) → All (λ (r : Report). is_by r.settled_by ≡ false) (r ∷ rs)
    by_kind true e none rest = absurd (omega (arith, none))
    by_kind false e none rest = All-cons (λ (r : Report). is_by r.settled_by ≡ false) r rs e (rest none)

not-default : (by : By) (loss : Loss) → by ≡ Default loss → is_known by ≡ true → by_reset by ≡ false → by_timeout by ≡ false → ⊥
not-default by loss e known reset timeout =
    let k : (by_reset (Default loss) || by_timeout (Default loss)) ≡ true = subst (λ (b : By). is_known b ≡ true) e known in
    let r = subst (λ (b : By). by_reset b ≡ false) e reset in
    let t = subst (λ (b : By). by_timeout b ≡ false) e timeout in
    let x : false ≡ true = sym (ap (λ (b : Bool). b || by_timeout (Default loss)) r ∙ t) ∙ k in
    absurd cc

is-ruled : (p : Scenario) (message : MailObject) (r : Report) → IsReportOf p message r → is_known r.settled_by ≡ true → by_reset r.settled_by ≡ false
    → by_timeout r.settled_by ≡ false → IsRuledBy p message r
is-ruled p message r (inl ruled) known reset timeout = ruled
is-ruled p message r (inr lost) known reset timeout = absurd (not-default r.settled_by lost.loss (ap (λ x. x.settled_by) lost.report_is) known reset timeout)

each-ruled : (p : Scenario) (messages : List MailObject) (rs : List Report) → AllZip (IsReportOf p) messages rs → All (λ (r : Report). is_known r.settled_by ≡ true) rs
    → All (λ (r : Report). by_reset r.settled_by ≡ false) rs → All (λ (r : Report). by_timeout r.settled_by ≡ false) rs → AllZip (IsRuledBy p) messages rs
each-ruled p [] [] each known reset timeout = tt
each-ruled p [] (r ∷ rs) each known reset timeout = absurd each
each-ruled p (message ∷ messages) [] each known reset timeout = absurd each
each-ruled p (message ∷ messages) (r ∷ rs) each known reset timeout = (
  is-ruled p message r each.0 (All-head (λ (r : Report). is_known r.settled_by ≡ true) r rs known)
      (All-head (λ (r : Report). by_reset r.settled_by ≡ false) r rs reset) (All-head (λ (r : Report). by_timeout r.settled_by ≡ false) r rs timeout),
  each-ruled p messages rs each.1 (All-tail (λ (r : Report). is_known r.settled_by ≡ true) r rs known)
      (All-tail (λ (r : Report). by_reset r.settled_by ≡ false) r rs reset) (All-tail (λ (r : Report). by_timeout r.settled_by ≡ false) r rs timeout),
)

no-rest : (rest : List MailObject) → length rest ≡ 0 → rest ≡ []
no-rest [] e = refl
no-rest (x ∷ rest) e = absurd cc

pub all-ruled-by : (p : Scenario) (rs : List Report) → AreReported p p.session.messages rs → All (λ (r : Report). is_known r.settled_by ≡ true) rs
    → count_reports by_reset rs ≤ 0 → count_reports by_timeout rs ≤ 0 → length rs ≡ length p.session.messages → AllZip (IsRuledBy p) p.session.messages rs
all-ruled-by p rs are known resets timeouts all =
    let a = zip-length (IsReportOf p) are.done rs are.each in
    let b = length-append are.done are.rest in
    let c = ap length are.messages_are in
    let none : are.rest ≡ [] = no-rest are.rest (omega (arith, a, b, c, all)) in
    let same : p.session.messages ≡ are.done = are.messages_are ∙ ap (λ (l : List MailObject). are.done ++ l) none ∙ append-nil are.done in
    subst (λ (l : List MailObject). AllZip (IsRuledBy p) l rs) (sym same)
    (each-ruled p are.done rs are.each known (none-by by_reset rs resets) (none-by by_timeout rs timeouts))

-- ---- what is ruled is by a verdict, with all of them

by-parts : (p : Scenario) (message : MailObject) (r : Report) (outcome : Option Outcome)
    → option_map (λ (o : Outcome). report (acted (dialogue_about p message)) o (settled_through (dialogue_about p message))) outcome ≡ Some r
    → (r.acted ≡ acted (dialogue_about p message)) × (r.settled_by ≡ settled_through (dialogue_about p message))
by-parts p message r None e = absurd cc
by-parts p message r (Some o) e =
    let same : r ≡ report (acted (dialogue_about p message)) o (settled_through (dialogue_about p message)) = cc in
    (ap (λ x. x.acted) same, ap (λ x. x.settled_by) same)

of-verdict : (dialogue : List Exchange) → is_by_verdict (settled_through dialogue) ≡ true
of-verdict dialogue = by_client (ends_with_client dialogue)
  where
    by_client : (client : Bool) → is_by_verdict (if client then Connection else Filter) ≡ true
    by_client true = refl
    by_client false = refl

pub all-verdicts : (p : Scenario) (messages : List MailObject) (rs : List Report) → AllZip (IsRuledBy p) messages rs → AllZip (HasAllVerdicts p) messages rs
all-verdicts p [] [] each = tt
all-verdicts p [] (r ∷ rs) each = absurd each
all-verdicts p (message ∷ messages) [] each = absurd each
all-verdicts p (message ∷ messages) (r ∷ rs) each =
    ((by-parts p message r (ruled (has_leading_space (negotiated_of p)) message (dialogue_about p message)) each.0).0, all-verdicts p messages rs each.1)

pub all-by-verdict : (p : Scenario) (messages : List MailObject) (rs : List Report) → AllZip (IsRuledBy p) messages rs → All (λ (r : Report). is_by_verdict r.settled_by ≡ true) rs
all-by-verdict p [] [] each = All-nil (λ (r : Report). is_by_verdict r.settled_by ≡ true)
all-by-verdict p [] (r ∷ rs) each = absurd each
all-by-verdict p (message ∷ messages) [] each = absurd each
all-by-verdict p (message ∷ messages) (r ∷ rs) each =
    All-cons (λ (r : Report). is_by_verdict r.settled_by ≡ true) r rs
    (ap is_by_verdict (by-parts p message r (ruled (has_leading_space (negotiated_of p)) message (dialogue_about p message)) each.0).1 ∙ of-verdict (dialogue_about p message))
    (all-by-verdict p messages rs each.1)
