use Rattle.std.proofs.Common.{sym, ap, ◌∙◌}
use Rattle.milter_fields.specs.Lists.{first_of}
use Rattle.milter_fields.proofs.BorrowedLists.{pairs_decode, first_is, first_none, first_pair, no_pair, odd_pairs}
use Rattle.milter_fields.proofs.borrowed_lists.PairsRef.split_first.Goals as goal

pub returns-in_err-value : goal.returns-in_err-value
returns-in_err-value c =
    absurd (odd_pairs c.self.inside.encoded.now _ c.in-Some.middle.now (sym c.in-Some.ensures) (sym c.in_err-value.ensures) c.self.invariant)

pub invariant_of-result : goal.invariant_of-result
invariant_of-result c =
    pairs_decode c.self.inside.encoded.now _ c.in-Some.middle.now _ c.in_ok-value.encoded.now (sym c.in-Some.ensures) (sym c.in_ok-value.ensures) c.self.invariant

pub returns-in-Some : goal.returns-in-Some
returns-in-Some c =
    let first = first_pair c.self.inside.encoded.now _ c.in-Some.middle.now _ c.in_ok-value.encoded.now c.self.inside.pairs.now (sym c.in-Some.ensures) (sym c.in_ok-value.ensures) c.self.invariant in
    sym (ap first_of (sym c.self.view_is) ∙ first)

pub returns-in-empty : goal.returns-in-empty
returns-in-empty c =
    let all = sym c.self.view_is ∙ no_pair c.self.inside.encoded.now c.self.inside.pairs.now (sym c.in_default.ensures) c.self.invariant in
    rw all (first_none c.self.inside.pairs.now c.in-empty.len_below)

pub returns-in-len1-up : goal.returns-in-len1-up
returns-in-len1-up c =
    let all = sym c.self.view_is ∙ no_pair c.self.inside.encoded.now c.self.inside.pairs.now (sym c.in_default.ensures) c.self.invariant in
    rw all (first_is c.self.inside.pairs.now _ c.new.result _ c.in-len1-up.len_at_least (c.as_ref.ensures ∙ c.pair-item.is) c.new.ensures)
