-- The number of a verdict is that of its command among those of its stage.
use Rattle.std.proofs.Common.{◌≡◌, ◌≤◌, ◌<◌, ◌+◌, ◌-◌, ℕ, ◌==◌, Bool, true, false, cond, List, [], ◌∷◌, ◌++◌, length, slice_get, is_some, Option, None, Some, refl, sym, ap, ◌∙◌, arith, append-nil, length-append}
use Rattle.std.specs.List.{filter}
use Rattle.std.proofs.lemmas.Bool.{eqb-true, eqb-false, ne_eqb, true≢false}
use Rattle.std.specs.Prelude.{if◌then◌else◌}
use Rattle.milter_wire.specs.declared.negotiation.Negotiated.{Negotiated}
use Rattle.milter_wire.specs.declared.stage.Stage.{Stage}
use Rattle.milter_wire.specs.declared.stage.Stage.TheVariants.{Connect, Helo, Mail, Rcpt, DataCmd, Header, Eoh, Body, Eob}
use Rattle.milter_wire.specs.Negotiation.{is_answered, is_asked_at}
use Rattle.milter_wire.specs.Stages.{stage_of}
use Rattle.milter_protocol.specs.declared.answer.Answer.{Answer}
use Rattle.milter_protocol.specs.Exchanges.{Exchange, commands_of}
use Rattle.milter_protocol.specs.Transcripts.{rank_at}
use Rattle.milter_protocol.specs.StageOrder.{rank_of}
use Rattle.milter_mta_outcome.specs.declared.acted_verdicts.Acted.{Acted}
use Rattle.milter_mta_outcome.specs.Dialogues.{acted, acted_at, count_at, is_at}
use Rattle.milter_mta_outcome.specs.TransactionVerdicts.{last_verdict, number_after}
use Rattle.milter_mta.specs.Order.{AreProper, AreInOrder, ComeBefore, ReachAtMost}

-- ---- the last verdict

last_there : (xs : List Acted) (last : Acted) → slice_get (xs ++ last ∷ []) (length xs) ≡ Some last
last_there [] last = refl
last_there (x ∷ xs) last = last_there xs last

pub last_added : (xs : List Acted) (last : Acted) → last_verdict (xs ++ last ∷ []) ≡ Some last
last_added xs last =
    let len = length-append xs (last ∷ []) in
    let at : length (xs ++ last ∷ []) - 1 ≡ length xs = omega (arith, len) in
    ap (slice_get (xs ++ last ∷ [])) at ∙ last_there xs last

-- ---- ranks

-- a stage has a rank above none
pub some_rank : (stage : Stage) → (0 == rank_of stage) ≡ false
some_rank Connect = refl
some_rank Helo = refl
some_rank Mail = refl
some_rank Rcpt = refl
some_rank DataCmd = refl
some_rank Header = refl
some_rank Eoh = refl
some_rank Body = refl
some_rank Eob = refl

abbrev stage_at : ℕ → Stage
stage_at rank =
    if rank == 1 then Connect
    else if rank == 2 then Helo
    else if rank == 3 then Mail
    else if rank == 4 then Rcpt
    else if rank == 5 then DataCmd
    else if rank == 6 then Header
    else if rank == 7 then Eoh
    else if rank == 8 then Body
    else Eob

stage_back : (stage : Stage) → stage_at (rank_of stage) ≡ stage
stage_back Connect = refl
stage_back Helo = refl
stage_back Mail = refl
stage_back Rcpt = refl
stage_back DataCmd = refl
stage_back Header = refl
stage_back Eoh = refl
stage_back Body = refl
stage_back Eob = refl

pub same_stage : (a b : Stage) → (rank_of a == rank_of b) ≡ true → a ≡ b
same_stage a b e = sym (stage_back a) ∙ ap stage_at (eqb-true (rank_of a) (rank_of b) e) ∙ stage_back b

-- ---- no command of a later stage was sent

none_at : (stage : Stage) (rank : ℕ) → rank < rank_of stage → (dialogue : List Exchange) → ReachAtMost rank (commands_of dialogue) → count_at stage dialogue ≡ 0
none_at stage rank less [] below = refl
none_at stage rank less (last ∷ before) below =
    let here = below.0 in
    let apart : (rank_at (stage_of last.command) == rank_of stage) ≡ false = ne_eqb _ _ (λ e. omega (arith, e, here, less)) in
    ap (λ (is : Bool). length (cond is (last ∷ filter (is_at stage) before) (filter (is_at stage) before))) apart
    ∙ none_at stage rank less before below.1

-- ---- numbers

module _ (negotiated : Negotiated) (stage : Stage) (answered : is_answered negotiated stage ≡ true) where
  abbrev IsNumbered : List Exchange → Type 0
  IsNumbered dialogue = number_after stage (last_verdict (acted dialogue)) ≡ count_at stage dialogue + 1

  -- an exchange that is not of the stage and has no verdict
  passed_by : (last : Exchange) (before : List Exchange) → acted_at (stage_of last.command) last.answer (last ∷ before) ≡ []
      → is_at stage last ≡ false → IsNumbered before → IsNumbered (last ∷ before)
  passed_by last before none other is =
      ap (λ (more : List Acted). number_after stage (last_verdict (acted before ++ more))) none
      ∙ ap (λ (all : List Acted). number_after stage (last_verdict all)) (append-nil (acted before))
      ∙ is
      ∙ ap (λ (is_there : Bool). length (cond is_there (last ∷ filter (is_at stage) before) (filter (is_at stage) before)) + 1) (sym other)

  -- a verdict at this stage or at another one
  by_last : (last : Exchange) (before : List Exchange) (at : Stage) (answer : Answer) (same : Bool) → stage_of last.command ≡ Some at
      → last.answer ≡ Some answer → (rank_of at == rank_of stage) ≡ same → ReachAtMost (rank_of at) (commands_of before)
      → rank_of at ≤ rank_of stage → IsNumbered (last ∷ before)
  by_last last before at answer same at_is answer_is is below most =
      let verdict : Acted = record { stage = at; nth = count_at at (last ∷ before); verdict = answer.verdict } in
      let added : acted (last ∷ before) ≡ acted before ++ verdict ∷ [] =
      ap (λ (s : Option Stage). acted before ++ acted_at s last.answer (last ∷ before)) at_is
      ∙ ap (λ (a : Option Answer). acted before ++ acted_at (Some at) a (last ∷ before)) answer_is in
      ap (λ (all : List Acted). number_after stage (last_verdict all)) added
      ∙ ap (number_after stage) (last_added (acted before) verdict)
      ∙ by_same same is
    where
      by_same : (same : Bool) → (rank_of at == rank_of stage) ≡ same
          → number_after stage (Some (record { stage = at; nth = count_at at (last ∷ before); verdict = answer.verdict })) ≡ count_at stage (last ∷ before) + 1
      by_same true e = ap (λ (t : Bool). if t then count_at at (last ∷ before) + 1 else 1) e ∙ ap (λ (s : Stage). count_at s (last ∷ before) + 1) (same_stage at stage e)
      by_same false e =
          let apart = eqb-false (rank_of at) (rank_of stage) e in
          let less : rank_of at < rank_of stage = omega (arith, apart, most) in
          let other : is_at stage last ≡ false = ap (λ (s : Option Stage). rank_at s == rank_of stage) at_is ∙ e in
          ap (λ (t : Bool). if t then count_at at (last ∷ before) + 1 else 1) e
          ∙ ap (λ (n : ℕ). n + 1) (sym (none_at stage (rank_of at) less before below))
          ∙ ap (λ (t : Bool). length (cond t (last ∷ filter (is_at stage) before) (filter (is_at stage) before)) + 1) (sym other)

  by_answer : (last : Exchange) (before : List Exchange) (at : Option Stage) (answer : Option Answer) → stage_of last.command ≡ at
      → last.answer ≡ answer → is_some answer ≡ is_asked_at negotiated at → ComeBefore at (commands_of before)
      → rank_at at ≤ rank_of stage → IsNumbered before → IsNumbered (last ∷ before)
  by_answer last before None answer at_is answer_is asked below most is =
      passed_by last before
      (ap (λ (s : Option Stage). acted_at s last.answer (last ∷ before)) at_is)
      (ap (λ (s : Option Stage). rank_at s == rank_of stage) at_is ∙ some_rank stage) is
  by_answer last before (Some at) None at_is answer_is asked below most is =
      passed_by last before
      (ap (λ (s : Option Stage). acted_at s last.answer (last ∷ before)) at_is ∙ ap (λ (a : Option Answer). acted_at (Some at) a (last ∷ before)) answer_is)
      (ap (λ (s : Option Stage). rank_at s == rank_of stage) at_is ∙ not_here (rank_of at == rank_of stage) refl) is
    where
      not_here : (same : Bool) → (rank_of at == rank_of stage) ≡ same → (rank_of at == rank_of stage) ≡ false
      not_here false e = e
      not_here true e =
          let here : is_answered negotiated at ≡ true = ap (is_answered negotiated) (same_stage at stage e) ∙ answered in
          absurd (true≢false (sym here ∙ sym asked))
  by_answer last before (Some at) (Some answer) at_is answer_is asked below most is =
      by_last last before at answer (rank_of at == rank_of stage) at_is answer_is refl below most

  -- of the next command, where it is of this stage
  pub numbered : (dialogue : List Exchange) → AreProper negotiated dialogue → AreInOrder (commands_of dialogue) → ReachAtMost (rank_of stage) (commands_of dialogue)
      → IsNumbered dialogue
  numbered [] all order below = refl
  numbered (last ∷ before) all order below =
      by_answer last before (stage_of last.command) last.answer refl refl all.0.answered order.0 below.0
      (numbered before all.1 order.1 below.1)
