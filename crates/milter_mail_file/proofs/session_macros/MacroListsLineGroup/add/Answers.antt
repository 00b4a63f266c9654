use Rattle.std.proofs.Common.{List, [], ◌∷◌, ◌++◌, ◌∙◌, ap, subst, sym}
use Rattle.std.proofs.lemmas.Option.{same_Some}
use Rattle.std.proofs.lemmas.Result.{err_from_is_err_and, on_ok_weaker}
use Rattle.milter_wire.specs.declared.command.Command.TheVariants as commands
use Rattle.milter_wire.specs.Command.{Fits}
use Rattle.milter_fields.specs.declared.pair.Pair.{Pair}
use Rattle.milter_mail.specs.ByMacroStage.{changed_at}
use Rattle.milter_mail.specs.MailSession.{MacrosFit}
use Rattle.milter_mail_file.specs.declared.session_macros.MacroLine.{MacroLine}
use Rattle.milter_mail_file.specs.SessionFile.{macros_of_lines}
use Rattle.milter_mail_file.proofs.Macros.{changed_fits, macro_added, macros_more, next_macros_fit, next_pair_fits, with_macro}
use Rattle.milter_mail_file.proofs.session_macros.MacroListsLineGroup.add.Goals as goal

pub returns-in_err-stage-clause-only : goal.returns-in_err-stage-clause-only
returns-in_err-stage-clause-only c = λ items more item made value fit.
    let p = err_from_is_err_and c.from_residual.result c.from_residual.ensures.1 in
    rw (p.1, p.2) (c.in_err-stage.ensures.reads item value (next_pair_fits items more item fit))

pub returns-clause-found : goal.returns-clause-found
returns-clause-found c = λ items made.
    let line = c.in_ok-stage.field-0 in
    let before = c.args.self.now in
    let more = λ (pairs : List Pair). pairs ++ line.pair ∷ [] in
    let changed = λ (pairs : List Pair). changed_at line.stage (λ _. pairs) before in
    on_ok_weaker c.push.result
    (λ pushed. (line, c.in_ok-stage.ensures.reads.0, ap changed (pushed ∙ ap more c.at_mut.ensures.value) ∙ macro_added line.stage line.pair before ∙ ap (with_macro line.stage line.pair) made ∙ sym (macros_more items line)))
    c.push.ensures.ok

pub returns-clause-only : goal.returns-clause-only
returns-clause-only c = λ items more item made value fit.
    let line = c.in_ok-stage.field-0 in
    let same = same_Some item line (sym value ∙ c.in_ok-stage.ensures.reads.0) in
    let fits = subst (λ (l : MacroLine). MacrosFit (with_macro l.stage l.pair (macros_of_lines items))) same (next_macros_fit items more item fit) in
    let whole = changed_fits line.stage line.pair c.args.self.now (subst (λ m. MacrosFit (with_macro line.stage line.pair m)) (sym made) fits) in
    c.push.ensures.err whole.0 (subst (λ pairs. Fits (commands.Macro whole.0 (pairs ++ line.pair ∷ []))) (sym c.at_mut.ensures.value) whole.1)
