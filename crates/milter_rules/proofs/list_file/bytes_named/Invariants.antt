use Rattle.std.proofs.Common.{◌≡◌, drop}
use Rattle.milter_rules.specs.ListFiles.{bytes_named}
use Rattle.milter_rules.proofs.list_file.bytes_named.Given as goal

-- the files that are left
abbrev pub invariant-loop-file : goal.invariant-loop-file
invariant-loop-file l = bytes_named (drop l.file-index l.files) l.name ≡ bytes_named l.files l.name
