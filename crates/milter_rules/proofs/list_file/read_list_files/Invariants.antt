use Rattle.std.proofs.Common.{drop}
use Rattle.milter_rules.proofs.ReadLists.{CanReadLeft, ReadSoFar}
use Rattle.milter_rules.proofs.list_file.read_list_files.Given as goal

-- what was read so far
abbrev pub invariant-loop-index : goal.invariant-loop-index
invariant-loop-index l = record {
  found : ReadSoFar l.files l.lists (drop l.index l.lists) l.read.items;
  only : CanReadLeft l.files l.lists (drop l.index l.lists);
}
