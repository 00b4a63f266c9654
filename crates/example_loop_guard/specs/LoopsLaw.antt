-- The guard against loops keeps to the rules of policies.
use Rattle.std.specs.Prelude.{◌≡◌, ◌≢◌, ◌≤◌, ℕ, zero, suc, nat_lt, Bool, true, false, List, [], ◌∷◌, refl, if◌then◌else◌}
use Rattle.std.specs.List.{sum_by}
use Rattle.std.proofs.Common.{arith, sym, true≢false}
use Rattle.std.proofs.lemmas.List.Elements.{All-cons, All-nil}
use Rattle.milter_fields.specs.Number.{number}
use Rattle.milter_fields.specs.Field.{HasNoNul}
use Rattle.milter_wire.specs.declared.reply.Reply.TheVariants as replies
use Rattle.milter_wire.specs.declared.stage.Stage.{Stage}
use Rattle.milter_wire.specs.declared.stage.Stage.TheVariants.{Eob}
use Rattle.milter_wire.specs.Reply.{Fits}
use Rattle.milter_wire.specs.Verdicts as verdicts
use Rattle.milter_message.specs.declared.edit.Edit.{Edit}
use Rattle.milter_message.specs.declared.edit.Edit.TheVariants.{AddHeader}
use Rattle.milter_message.specs.declared.message.TheConstants.{WEIGHT_MAX}
use Rattle.milter_message.specs.EditReplies.{reply_of, weight_of}
use Rattle.milter_protocol.specs.Seen.{Seen}
use Rattle.milter_protocol.specs.Lawful.{AnswerFits, IsLawful, WantsWithin}
use Rattle.milter_protocol.specs.LawfulParts.{continue_fits, continue_is_lawful, options_fit}
use Rattle.example_loop_guard.specs.Loops.{answer_at, hops, loop_guard, mark, passed, refused, too_many_hops}

-- an edit that a packet has room for
abbrev EditFits : Edit → Type 0
EditFits edit = Fits (reply_of edit)

-- ---- what it wants

wants_within : WantsWithin loop_guard
wants_within =
    record {
      version_from = omega arith;
      version_to = omega arith;
      actions = refl;
      protocol = refl;
      lists = λ some. absurd (some refl);
      reply = options_fit loop_guard.wants
          (record { version = omega arith; actions = omega arith; protocol = omega arith });
    }

-- ---- what it answers

-- for a text that is known its bytes are looked at one by one
abbrev has_no_nul : List ℕ → Bool
has_no_nul [] = true
has_no_nul (zero ∷ text) = false
has_no_nul (suc byte ∷ text) = has_no_nul text

no_nul : (text : List ℕ) → has_no_nul text ≡ true → HasNoNul text
unfolding HasNoNul
no_nul [] none = All-nil (λ byte. byte ≢ 0)
no_nul (zero ∷ text) none = absurd (true≢false (sym none))
no_nul (suc byte ∷ text) none =
    let some : suc byte ≢ 0 = omega arith in
    All-cons (λ byte. byte ≢ 0) (suc byte) text some (no_nul text none)

code_fits : Fits (verdicts.reply_of refused.verdict)
code_fits = record { fields = record { no_nul = no_nul too_many_hops refl; form = refl }; payload = omega arith }

mark_fits : Fits (replies.AddHeader mark)
mark_fits =
    record {
      fields = record { name = no_nul mark.name refl; value = no_nul mark.value refl };
      payload = omega arith;
    }

mark_weight : sum_by weight_of passed.edits ≤ WEIGHT_MAX
unfolding number
mark_weight = omega arith

refused_fits : AnswerFits Eob refused
refused_fits =
    record {
      at_end = λ other. refl;
      given = refl;
      verdict = code_fits;
      edits = All-nil EditFits;
      weight = omega arith;
    }

passed_fits : AnswerFits Eob passed
passed_fits =
    record {
      at_end = λ other. absurd (other refl);
      given = refl;
      verdict = continue_fits;
      edits = All-cons EditFits (AddHeader mark) [] mark_fits (All-nil EditFits);
      weight = mark_weight;
    }

end_fits : (loops : Bool) → AnswerFits Eob (if loops then refused else passed)
end_fits true = refused_fits
end_fits false = passed_fits

answers_fit : (stage : Stage) (seen : Seen) → AnswerFits stage (answer_at stage seen)
answers_fit Eob seen = end_fits (nat_lt 50 (hops seen))
answers_fit other seen = continue_is_lawful other

pub loop_guard_is_lawful : IsLawful loop_guard
loop_guard_is_lawful = record { wants = wants_within; answers = answers_fit }
