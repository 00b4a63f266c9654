use Rattle.std.proofs.Common.{sym, ap, ◌∙◌}
use Rattle.milter_fields.specs.Lists.{first_of}
use Rattle.milter_fields.proofs.BorrowedLists.{strings_decode, first_is, first_none, first_string, no_string}
use Rattle.milter_fields.proofs.borrowed_lists.ParamsRef.split_first.Goals as goal

pub invariant_of-result : goal.invariant_of-result
invariant_of-result c = strings_decode c.self.inside.encoded.now _ c.in-Some.encoded.now (sym c.in-Some.ensures) c.self.invariant

pub returns-in-Some : goal.returns-in-Some
returns-in-Some c =
    sym (ap first_of (sym c.self.view_is) ∙ first_string c.self.inside.encoded.now _ c.in-Some.encoded.now c.self.inside.texts.now (sym c.in-Some.ensures) c.self.invariant)

pub returns-in-empty : goal.returns-in-empty
returns-in-empty c =
    let all = sym c.self.view_is ∙ no_string c.self.inside.encoded.now c.self.inside.texts.now (sym c.in_default.ensures) c.self.invariant in
    rw all (first_none c.self.inside.texts.now c.in-empty.len_below)

pub returns-in-len1-up : goal.returns-in-len1-up
returns-in-len1-up c =
    let all = sym c.self.view_is ∙ no_string c.self.inside.encoded.now c.self.inside.texts.now (sym c.in_default.ensures) c.self.invariant in
    rw all (first_is c.self.inside.texts.now _ c.new.result _ c.in-len1-up.len_at_least (c.as_slice.ensures ∙ c.text-item.is) c.new.ensures)
