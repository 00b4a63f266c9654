use Rattle.std.proofs.Common.{◌≡◌, drop}
use Rattle.std.specs.List.{list_any}
use Rattle.milter_filter_search.specs.Needles.{matches}
use Rattle.milter_filter_search.specs.Texts.{values_named}
use Rattle.milter_filter_search.proofs.headers.finds_named.Given as goal

-- the header fields that are left
abbrev pub invariant-loop-header : goal.invariant-loop-header
invariant-loop-header l =
    let f = matches l.needle in
    list_any f (values_named l.name (drop l.header-index l.fields)) ≡ list_any f (values_named l.name l.fields)
