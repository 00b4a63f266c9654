-- What was exchanged on a connection so far: commands, each with the answer that it got.
use Rattle.std.specs.Prelude.{Bool, List, [], ◌∷◌, Option, None, Some, map, if◌then◌else◌}
use Rattle.milter_wire.specs.declared.command.Command.{Command}
use Rattle.milter_protocol.specs.declared.answer.Answer.{Answer}

-- A command and the filter's answer as it was sent, if it was asked about the command. A transcript is a list of these,
-- the latest first.
pub record Exchange : Type 0 where
  pub command : Command
  pub answer : Option Answer

abbrev pub commands_of : List Exchange → List Command
commands_of exchanges = map (λ exchange. exchange.command) exchanges

-- ---- parts of a transcript, and of what is the latest first

abbrev pub latest : {A : Type 0} → List A → Option A
latest [] = None
latest (x ∷ before) = Some x

-- what came after the last of a kind
abbrev pub since : {A : Type 0} → (A → Bool) → List A → List A
since is_kind [] = []
since is_kind (x ∷ before) = if is_kind x then [] else x ∷ since is_kind before

-- the last of a kind, and what came before it
abbrev pub up_to : {A : Type 0} → (A → Bool) → List A → List A
up_to is_kind [] = []
up_to is_kind (x ∷ before) = if is_kind x then x ∷ before else up_to is_kind before

-- these, one after the other, on a transcript
abbrev pub onto : {A : Type 0} → List A → List A → List A
onto [] before = before
onto (x ∷ more) before = onto more (x ∷ before)
