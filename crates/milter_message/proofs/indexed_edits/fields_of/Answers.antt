use Rattle.std.proofs.Common.{◌++◌, ◌∷◌, [], take, sym, ap, ◌∙◌}
use Rattle.std.specs.List.{insert}
use Rattle.std.proofs.lemmas.List.{take_more}
use Rattle.milter_message.specs.EditedFields.{headers_of, numbered_fields}
use Rattle.milter_message.proofs.IndexedFields.{headers_are, put_last, still_numbered}
use Rattle.milter_message.proofs.indexed_edits.fields_of.Goals as goal

pub insert_field-requires-clause-fields : goal.insert_field-requires-clause-fields
insert_field-requires-clause-fields c =
    still_numbered c.args.numbers.now c.loop-header.fields (take c.loop-header.header-index c.args.headers.now)
    c.loop-header.invariant

pub loop-header-preserved : goal.loop-header-preserved
loop-header-preserved c =
    let numbers = c.args.numbers.now in
    let headers = c.args.headers.now in
    let index = c.loop-header.header-index in
    let fields = c.loop-header.fields in
    let header = c.header-item.result in
    let put = c.in_ok-fields-2.ensures
    ∙ ap (λ h. numbered_fields numbers (insert (headers_of fields) c.len-position.result h)) c.new-in-loop-header.ensures.put in
    put_last numbers fields c.in_ok-fields-2.fields c.len-position.result header c.len-position.ensures put
    ∙ ap (λ l. numbered_fields numbers (l ++ header ∷ []))
    (headers_are numbers fields (take index headers) c.loop-header.invariant)
    ∙ ap (numbered_fields numbers) (ap (λ h. take index headers ++ h ∷ []) c.header-item.is
    ∙ sym (take_more headers index header c.loop-header-test.true))
