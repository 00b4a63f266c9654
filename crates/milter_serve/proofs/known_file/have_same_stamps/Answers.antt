use Rattle.std.proofs.lemmas.Slice.Eq.{slice_eq-Decides}
use Rattle.milter_serve.proofs.SameFiles.{found_decides}
use Rattle.milter_serve.proofs.known_file.have_same_stamps.Goals as goal

pub returns : goal.returns
returns c = slice_eq-Decides found_decides c.args.first.now c.args.second.now c.eq.result c.eq.ensures
