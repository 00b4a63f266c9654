use Rattle.std.proofs.Common.{◌∙◌, ◌&&◌, ap, length, sym}
use Rattle.std.proofs.lemmas.Bool.{eq-eqb, ne_eqb}
use Rattle.milter_text.specs.Segments.{begins_with}
use Rattle.milter_text.proofs.Segments.{other_length, whole}
use Rattle.milter_text.proofs.glob.is_whole.Goals as goal

pub returns-then-value-segment : goal.returns-then-value-segment
returns-then-value-segment c =
    let segment = c.args.segment.now in
    let value = c.args.value.now in
    c.begins_with.ensures.begins
    ∙ ap (λ same. same && begins_with c.args.case segment value)
    (sym (eq-eqb (length value) (length segment) c.if-value-segment.true))
    ∙ sym (whole c.args.case segment c.requires value)

pub returns-else-value-segment : goal.returns-else-value-segment
returns-else-value-segment c =
    let segment = c.args.segment.now in
    let value = c.args.value.now in
    ne_eqb (length value) (length segment) c.if-value-segment.false
    ∙ sym (other_length c.args.case segment c.requires value c.if-value-segment.false)
