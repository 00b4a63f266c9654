use Rattle.std.proofs.Common.{min, ap, sym, ◌∙◌}
use Rattle.std.specs.List.{insert}
use Rattle.milter_field_index.proofs.Results.{if_ok_then}
use Rattle.milter_message.specs.declared.edit.Edit.{Edit}
use Rattle.milter_message.specs.EditedFields.{headers_of, numbered_fields}
use Rattle.milter_message.specs.EditedMessage.{edit_headers}
use Rattle.milter_message.specs.LeadingSpace.{put_header}
use Rattle.milter_message.proofs.IndexedFields.{put_last, put_within}
use Rattle.milter_message.proofs.indexed_edits.edit_field.Goals as goal

pub returns-in-AddHeader : goal.returns-in-AddHeader
returns-in-AddHeader c =
    let numbers = c.args.numbers.now in
    let headers = headers_of c.args.fields in
    let header = put_header c.args.leading_space c.in-AddHeader.header in
    if_ok_then c.insert_field.result _ _ c.insert_field.ensures
    (λ after is. put_last numbers c.args.fields after c.len-position.result header c.len-position.ensures
    (is ∙ ap (λ h. numbered_fields numbers (insert headers c.len-position.result h)) c.new.ensures.put)
    ∙ ap (λ (e : Edit). numbered_fields numbers (edit_headers c.args.leading_space headers e)) (sym c.in-AddHeader.is))

pub returns-in-InsertHeader : goal.returns-in-InsertHeader
returns-in-InsertHeader c =
    let numbers = c.args.numbers.now in
    let headers = headers_of c.args.fields in
    let header = put_header c.args.leading_space c.in-InsertHeader.header in
    let position = c.min-position.ensures ∙ ap (λ n. min n c.in-InsertHeader.index) c.len.ensures in
    if_ok_then c.insert_field-in-InsertHeader.result _ _ c.insert_field-in-InsertHeader.ensures
    (λ after is. put_within numbers c.args.fields after c.min-position.result c.in-InsertHeader.index header position
    (is ∙ ap (λ h. numbered_fields numbers (insert headers c.min-position.result h)) c.new-in-InsertHeader.ensures.put)
    ∙ ap (λ (e : Edit). numbered_fields numbers (edit_headers c.args.leading_space headers e)) (sym c.in-InsertHeader.is))
