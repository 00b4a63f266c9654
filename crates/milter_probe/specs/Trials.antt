-- Which trials are made.
use Rattle.std.specs.Prelude.{ℕ, List, Option, None, Some, ◌==◌, filter}
use Rattle.milter_probe.specs.declared.kind.Kind.{Kind}
use Rattle.milter_probe.specs.declared.kind.Kind.TheVariants.{CutSent, CutCame, ByteByByte, Ahead, Offer, Abort, SecondMessage, SecondClient, Mutated}
use Rattle.milter_probe.specs.declared.trial.Trial.{Trial}

-- the number of a kind, in the order in which the kinds are tried
abbrev pub kind_number : Kind → ℕ
kind_number CutSent = 1
kind_number CutCame = 2
kind_number ByteByByte = 3
kind_number Ahead = 4
kind_number Offer = 5
kind_number Abort = 6
kind_number SecondMessage = 7
kind_number SecondClient = 8
kind_number Mutated = 9

-- the trials of the kind that is given, or all
abbrev pub chosen : Option Kind → List Trial → List Trial
chosen None trials = trials
chosen (Some kind) trials = filter (λ trial. kind_number trial.kind == kind_number kind) trials
