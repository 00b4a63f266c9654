use Rattle.std.proofs.Common.{◌≡◌, ◌++◌, drop}
use Rattle.milter_filter_rules.specs.ListedValues.{sources_of}
use Rattle.milter_rules.proofs.list_file.lists_without_entries.Given as goal

-- the sources of the lists so far, and those that are left
abbrev pub invariant-loop-source : goal.invariant-loop-source
invariant-loop-source l = sources_of l.lists.items ++ drop l.source-index l.sources ≡ l.sources
