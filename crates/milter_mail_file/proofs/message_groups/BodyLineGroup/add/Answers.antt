use Rattle.std.proofs.Common.{◌∙◌, ◌++◌, ap}
use Rattle.milter_mail_file.proofs.LineRuns.{concat_more}
use Rattle.milter_mail_file.proofs.message_groups.BodyLineGroup.add.Goals as goal

pub returns-clause-found : goal.returns-clause-found
returns-clause-found c = λ items made.
    let chunk = c.in_ok-chunk_in.field-0.now in
    (chunk, c.in_ok-chunk_in.ensures.found, c.in_ok-extend_from_slice.ensures.items ∙ ap (λ l. l ++ chunk) made ∙ concat_more items chunk)
