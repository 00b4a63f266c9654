use Rattle.std.proofs.lemmas.Slice.Eq.{slice_eq-Decides}
use Rattle.milter_serve.proofs.SameFiles.{file_decides}
use Rattle.milter_serve.proofs.known_file.are_same_lists.Goals as goal

pub returns : goal.returns
returns c = slice_eq-Decides file_decides c.args.first.now c.args.second.now c.eq.result c.eq.ensures
