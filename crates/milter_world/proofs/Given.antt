-- The verdicts and the edits of a dialogue are what the filter gives.
use Rattle.std.proofs.Common.{◌≡◌, Bool, true, false, List, [], ◌∷◌, All, IfSome, Option, None, Some, refl, sym, ap, subst}
use Rattle.std.specs.Option.{option_map}
use Rattle.std.proofs.lemmas.List.Elements.{All-append, All-cons, All-nil}
use Rattle.milter_wire.specs.declared.command.Command.{Command}
use Rattle.milter_wire.specs.declared.stage.Stage.{Stage}
use Rattle.milter_wire.specs.Negotiation.{has_leading_space, is_asked}
use Rattle.milter_wire.specs.Stages.{stage_of}
use Rattle.milter_message.specs.MailObject.{MailObject}
use Rattle.milter_protocol.specs.declared.answer.Answer.{Answer}
use Rattle.milter_protocol.specs.Behavior.{answer_to}
use Rattle.milter_protocol.specs.Exchanges.{Exchange, commands_of, onto}
use Rattle.milter_protocol.specs.Permitted.{is_permitted, permitted}
use Rattle.milter_protocol.specs.Seen.{seen}
use Rattle.milter_protocol.specs.Dialogue.{AreAnsweredBy}
use Rattle.milter_mta_outcome.specs.declared.outcome.Outcome.{Outcome}
use Rattle.milter_mta_outcome.specs.declared.outcome.Report.{Report}
use Rattle.milter_mta_outcome.specs.Dialogues.{acted, acted_at, ruled}
use Rattle.milter_mta.specs.Dispositions.{report}
use Rattle.milter_mta.specs.Sessions.{settled_through}
use Rattle.milter_world.specs.Schedule.{Scenario}
use Rattle.milter_world.specs.DialogueReports.{AreNegotiated, IsRuledBy, WasGiven, negotiated_of, asked_after, dialogue_about}

module _ (p : Scenario) where
  -- each of these exchanges, the latest first, has the filter's answer
  abbrev pub AreGiven : List Exchange → Type 0
  AreGiven [] = Unit {0}
  AreGiven (e ∷ before) = (e ≡ asked_after p before e.command) × AreGiven before

  pub onto-given : (more before : List Exchange) → AreAnsweredBy p.filter (negotiated_of p) before more → AreGiven before → AreGiven (onto more before)
  onto-given [] before answered given = given
  onto-given (e ∷ more) before answered given = onto-given more (e ∷ before) answered.1 (answered.0, given)

  pub before-given : (more dialogue : List Exchange) → AreGiven (onto more dialogue) → AreGiven dialogue
  before-given [] dialogue given = given
  before-given (e ∷ more) dialogue given = (before-given more (e ∷ dialogue) given).1

  -- ---- verdicts

  module _ (message : MailObject) where
    here-given : (more before : List Exchange) (command : Command) → onto more (asked_after p before command ∷ before) ≡ dialogue_about p message
        → All (WasGiven p message) (acted_at (stage_of command) (asked_after p before command).answer (asked_after p before command ∷ before))
    here-given more before command whole = by_stage (stage_of command) refl (is_asked (negotiated_of p) command) refl
      where
        by_stage : (at : Option Stage) → stage_of command ≡ at → (asked : Bool) → is_asked (negotiated_of p) command ≡ asked
            → All (WasGiven p message) (acted_at at (answer_to p.filter (negotiated_of p) at asked (seen (has_leading_space (negotiated_of p)) (command ∷ commands_of before))) (asked_after p before command ∷ before))
        by_stage None is asked e = All-nil (WasGiven p message)
        by_stage (Some stage) is false e = All-nil (WasGiven p message)
        by_stage (Some stage) is true e =
            All-cons (WasGiven p message) _ []
            (record {
              before = before;
              command = command;
              begins = record { more = more; whole = whole };
              stage_is = is;
              asked = e;
              nth_is = refl;
              verdict_is = refl;
            }) (All-nil (WasGiven p message))

    pub acted-given : (dialogue more : List Exchange) → onto more dialogue ≡ dialogue_about p message → AreGiven dialogue → All (WasGiven p message) (acted dialogue)
    acted-given [] more whole given = All-nil (WasGiven p message)
    acted-given (e ∷ before) more whole given =
        All-append (WasGiven p message) (acted before) (acted_at (stage_of e.command) e.answer (e ∷ before)) (acted-given before (e ∷ more) whole given.1)
        (subst (λ (x : Exchange). All (WasGiven p message) (acted_at (stage_of e.command) x.answer (x ∷ before))) (sym given.0)
        (here-given more before e.command (subst (λ (x : Exchange). onto more (x ∷ before) ≡ dialogue_about p message) given.0 whole)))

    -- the verdicts of a report by the dialogue
    pub ruled-acted : (r : Report) → IsRuledBy p message r → r.acted ≡ acted (dialogue_about p message)
    ruled-acted r e = by_found (ruled (has_leading_space (negotiated_of p)) message (dialogue_about p message)) e
      where
        by_found : (found : Option Outcome) → option_map (λ outcome. report (acted (dialogue_about p message)) outcome (settled_through (dialogue_about p message))) found ≡ Some r
            → r.acted ≡ acted (dialogue_about p message)
        by_found None e = absurd cc
        by_found (Some o) e =
            sym (ap (λ (x : Report). x.acted) (let same : report (acted (dialogue_about p message)) o (settled_through (dialogue_about p message)) ≡ r = cc in same))

  -- ---- edits

  module _ (permits : (answer : Answer) → All (λ edit. is_permitted (negotiated_of p) edit ≡ true) (permitted (negotiated_of p) answer).edits) where
    here-negotiated : (before : List Exchange) (command : Command) → AreNegotiated (negotiated_of p) (asked_after p before command)
    here-negotiated before command = by_stage (stage_of command) (is_asked (negotiated_of p) command)
      where
        by_stage : (at : Option Stage) (asked : Bool)
            → IfSome (answer_to p.filter (negotiated_of p) at asked (seen (has_leading_space (negotiated_of p)) (command ∷ commands_of before)))
            (λ answer. All (λ edit. is_permitted (negotiated_of p) edit ≡ true) answer.edits)
        by_stage None asked = tt
        by_stage (Some stage) false = tt
        by_stage (Some stage) true = permits (p.filter.decide stage (seen (has_leading_space (negotiated_of p)) (command ∷ commands_of before)))

    pub dialogue-negotiated : (dialogue : List Exchange) → AreGiven dialogue → All (AreNegotiated (negotiated_of p)) dialogue
    dialogue-negotiated [] given = All-nil (AreNegotiated (negotiated_of p))
    dialogue-negotiated (e ∷ before) given =
        All-cons (AreNegotiated (negotiated_of p)) e before (subst (AreNegotiated (negotiated_of p)) (sym given.0) (here-negotiated before e.command)) (dialogue-negotiated before given.1)
