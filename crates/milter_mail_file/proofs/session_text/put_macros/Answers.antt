use Rattle.std.proofs.Common.{◌≡◌, ℕ, ◌+◌, ◌<◌, List, ◌++◌, add-one, drop, drop-cons, get_or, length, refl}
use Rattle.std.specs.List.{flat_map}
use Rattle.milter_mail.specs.Macros.{Macros}
use Rattle.milter_mail_file.specs.SessionText.{macro_lines}
use Rattle.milter_wire.specs.declared.macro_stage.MacroStage.{MacroStage}
use Rattle.milter_wire.specs.declared.macro_stage.MacroStage.TheVariants.{Connect}
use Rattle.milter_wire.specs.MacroStages.{macro_stages}
use Rattle.milter_text.proofs.TextWriters.{Progress-fail, Progress-next, Progress-none}
use Rattle.milter_mail_file.proofs.session_text.put_macros.Goals as goal

next_stage : (macros : Macros) (stages : List MacroStage) (i : ℕ) → i < length stages
    → flat_map (macro_lines macros) (drop i stages) ≡ macro_lines macros (get_or stages i Connect) ++ flat_map (macro_lines macros) (drop (i + 1) stages)
next_stage macros stages i within = rw (drop-cons stages i Connect within, add-one) refl

pub loop-stage-init : goal.loop-stage-init
loop-stage-init g c = Progress-none

pub returns-in_err-put_stage : goal.returns-in_err-put_stage
returns-in_err-put_stage g c =
    let i = c.loop-stage.stage-index in
    Progress-fail _ _ _ (macro_lines c.args.macros.now (get_or macro_stages i Connect)) _ c.loop-stage.invariant (rw (c.name.ensures, c.as_slice.ensures, c.at.ensures) at c.in_err-put_stage.ensures) c.from_residual.ensures.0 (next_stage c.args.macros.now macro_stages i c.loop-stage-test.true)

pub loop-stage-preserved : goal.loop-stage-preserved
loop-stage-preserved g c =
    let i = c.loop-stage.stage-index in
    Progress-next (macro_lines c.args.macros.now (get_or macro_stages i Connect)) _ c.loop-stage.invariant (rw (c.name.ensures, c.as_slice.ensures, c.at.ensures) at c.in_ok-put_stage.ensures) (next_stage c.args.macros.now macro_stages i c.loop-stage-test.true)
