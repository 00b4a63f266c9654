use Rattle.std.proofs.Common.{sym, ap, ◌∙◌}
use Rattle.milter_fields.specs.Stream.{Division}
use Rattle.milter_fields.proofs.Division.{Divides-divide}
use Rattle.milter_fields.proofs.laws.one_division.Goals as goal

pub returns-clause-frames : goal.returns-clause-frames
returns-clause-frames c = λ bytes rest other frames others d e.
    ap (λ (x : Division). x.frames) (sym (Divides-divide bytes rest frames d) ∙ Divides-divide bytes other others e)

pub returns-clause-rest : goal.returns-clause-rest
returns-clause-rest c = λ bytes rest other frames others d e.
    ap (λ (x : Division). x.rest) (sym (Divides-divide bytes rest frames d) ∙ Divides-divide bytes other others e)
