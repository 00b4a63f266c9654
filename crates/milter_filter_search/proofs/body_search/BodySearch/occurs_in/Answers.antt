use Rattle.std.proofs.Common.{◌≡◌, ◌∙◌, ◌-◌, ap, length, subst, sym}
use Rattle.milter_filter_search.specs.Searches.{HasRead, occurs_in}
use Rattle.milter_filter_search.specs.contracts.body_search.BodySearch.{the_view}
use Rattle.milter_filter_search.proofs.BodySearches.{bytes_after, far_enough, read_before, read_late}
use Rattle.milter_filter_search.proofs.body_search.BodySearch.occurs_in.Goals as goal

pub returns-then-self : goal.returns-then-self
returns-then-self c =
    sym (read_before c.args.self.now c.args.bytes.now c.requires (sym (ap (λ s. s.found) c.self.view_is) ∙ c.if-self.true))

pub returns : goal.returns
returns c =
    let bytes = c.args.bytes.now in
    let inside = the_view c.self.inside in
    let start = c.self.inside.looked - length c.self.inside.text in
    subst (λ s. c.contains.result ≡ occurs_in s bytes) c.self.view_is
    (c.contains.ensures ∙ rw c.saturating_sub-start.ensures (rw c.as_slice-text.ensures
    (ap (occurs_in inside) (bytes_after start bytes)
    ∙ read_late inside bytes start (subst (HasRead bytes) (sym c.self.view_is) c.requires) c.if-self.false
    (far_enough c.self.inside.looked (length c.self.inside.text)))))
