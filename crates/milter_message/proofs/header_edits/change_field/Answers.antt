use Rattle.std.proofs.Common.{sym, ◌∙◌, ℕ, List, length, ◌==◌, subst, false, ◌≡◌}
use Rattle.milter_message.proofs.EditFolds.{set_is_changed}
use Rattle.milter_message.proofs.LeadingSpaces.{changed_is_put}
use Rattle.milter_message.proofs.header_edits.change_field.Goals as goal

pub returns : goal.returns
returns c =
    let value = c.args.value.now in
    let some : (length value == 0) ≡ false = subst (λ (v : List ℕ). (length v == 0) ≡ false) c.as_slice.ensures (sym c.is_empty.ensures ∙ c.if-is_empty.false) in
    let put = changed_is_put c.args.leading_space value some in
    rw (put.0, c.in_ok-headers.ensures, c.as_slice-2.ensures) (set_is_changed c.args.headers.now.items c.args.position c.index_mut.result.now _ c.requires put.1 c.index_mut.ensures.value)
