use Rattle.std.proofs.Common.{◌≡◌, ◌+◌, ◌∷◌, drop, sym, ap, subst, ◌∙◌}
use Rattle.std.proofs.lemmas.List.{drop_more}
use Rattle.milter_message.specs.declared.edit.Edit.{Edit}
use Rattle.milter_message.specs.EditedFields.{headers_of}
use Rattle.milter_message.specs.EditedMessage.{edit_headers, headers_after}
use Rattle.milter_message.specs.NameNumbers.{HasNumbers, IsNumberFor, IsNumbered, numbers_of}
use Rattle.milter_message.proofs.IndexedFields.{headers_are, still_numbered}
use Rattle.milter_message.proofs.NameNumbering.{AreLeft, edits_numbered, is_first_left, still_left}
use Rattle.milter_message.proofs.indexed_edits.headers_after_by_index.Goals as goal

pub loop-edit-init : goal.loop-edit-init
loop-edit-init c =
    let numbers = c.in_ok-numbered.numbered.numbers in
    let headers = c.args.headers.now in
    record {
      numbered = still_numbered numbers c.in_ok-fields.fields headers c.in_ok-fields.ensures;
      rest = ap (λ l. headers_after c.args.leading_space l c.args.edits.now)
          (headers_are numbers c.in_ok-fields.fields headers c.in_ok-fields.ensures);
      left =
          c.as_slice-left.ensures.value
          ∙ c.in_ok-numbered.ensures.of_names
          ∙ ap (numbers_of numbers) (c.as_slice.ensures.value ∙ c.in_ok-names.ensures);
    }

pub edit_field-requires-clause-edit : goal.edit_field-requires-clause-edit
edit_field-requires-clause-edit c =
    let numbers = c.in_ok-numbered.numbered.numbers in
    let edits = c.args.edits.now in
    let all = edits_numbered c.in_ok-names.names.items numbers edits
    (subst (λ names. HasNumbers names numbers) c.as_slice.ensures.value c.in_ok-numbered.ensures.has) c.in_ok-names.ensures in
    subst (IsNumbered numbers) (sym c.edit-item.is) (all c.loop-edit.edit-index c.edit-item.result c.loop-edit-test.true)

pub edit_field-requires-clause-name : goal.edit_field-requires-clause-name
edit_field-requires-clause-name c =
    let numbers = c.in_ok-numbered.numbered.numbers in
    let edits = c.args.edits.now in
    let index = c.loop-edit.edit-index in
    let edit = c.edit-item.result in
    let more : drop index edits ≡ edit ∷ drop (index + 1) edits =
    drop_more edits index edit c.loop-edit-test.true ∙ ap (λ (e : Edit). e ∷ drop (index + 1) edits) (sym c.edit-item.is) in
    subst (λ n. IsNumberFor numbers n edit) (sym c.take_number-name.ensures.number)
    (is_first_left numbers edit (drop (index + 1) edits) c.loop-edit.left.now
    (subst (AreLeft numbers c.loop-edit.left.now) more c.loop-edit.invariant.left))

pub loop-edit-preserved : goal.loop-edit-preserved
loop-edit-preserved c =
    let numbers = c.in_ok-numbered.numbered.numbers in
    let edits = c.args.edits.now in
    let index = c.loop-edit.edit-index in
    let edit = c.edit-item.result in
    let before = headers_of c.loop-edit.fields in
    let after = edit_headers c.args.leading_space before edit in
    let more : drop index edits ≡ edit ∷ drop (index + 1) edits =
    drop_more edits index edit c.loop-edit-test.true ∙ ap (λ (e : Edit). e ∷ drop (index + 1) edits) (sym c.edit-item.is) in
    record {
      numbered = still_numbered numbers c.in_ok-fields-2.fields after c.in_ok-fields-2.ensures;
      rest =
          ap (λ l. headers_after c.args.leading_space l (drop (index + 1) edits))
          (headers_are numbers c.in_ok-fields-2.fields after c.in_ok-fields-2.ensures
          ∙ ap (edit_headers c.args.leading_space before) c.edit-item.is)
          ∙ sym (ap (headers_after c.args.leading_space before) (drop_more edits index edit c.loop-edit-test.true))
          ∙ c.loop-edit.invariant.rest;
      left =
          c.take_number-name.ensures.left
          ∙ still_left numbers edit (drop (index + 1) edits) c.loop-edit.left.now
          (subst (AreLeft numbers c.loop-edit.left.now) more c.loop-edit.invariant.left);
    }
