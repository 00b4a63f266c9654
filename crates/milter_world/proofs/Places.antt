-- The stage that each command of a plan belongs to: its own, and that of the command that macros come before.
use Rattle.std.proofs.Common.{◌≡◌, ℕ, ◌≤◌, ◌==◌, Bool, true, false, List, [], ◌∷◌, is_some, Option, Some, unwrap_or, refl, ap, arith, if◌then◌else◌}
use Rattle.milter_wire.specs.declared.codes.TheConstants.{SMFIC_CONNECT, SMFIC_DATA, SMFIC_EOH, SMFIC_HELO, SMFIC_MAIL, SMFIC_RCPT}
use Rattle.milter_wire.specs.declared.negotiation.Negotiated.{Negotiated}
use Rattle.milter_wire.specs.declared.command.Command.{Command}
use Rattle.milter_wire.specs.declared.command.Command.TheVariants as commands
use Rattle.milter_wire.specs.declared.stage.Stage.{Stage}
use Rattle.milter_wire.specs.declared.stage.Stage.TheVariants.{Connect, Helo, Mail, Rcpt, DataCmd, Header, Eoh, Body, Eob}
use Rattle.milter_wire.specs.Negotiation.{is_sent}
use Rattle.milter_wire.specs.Stages.{macro_command_of, macro_stage_of, stage_of}
use Rattle.milter_protocol.specs.StageOrder.{rank_of}

-- ---- the stage

abbrev pub macro_place : ℕ → Stage
macro_place code =
    if code == SMFIC_CONNECT then Connect
    else if code == SMFIC_HELO then Helo
    else if code == SMFIC_MAIL then Mail
    else if code == SMFIC_RCPT then Rcpt
    else if code == SMFIC_DATA then DataCmd
    else if code == SMFIC_EOH then Eoh
    else Eob

abbrev pub place_of : Command → Stage
place_of (commands.Macro code pairs) = macro_place code
place_of command = unwrap_or (stage_of command) Eob

pub place-at : (command : Command) (stage : Stage) → stage_of command ≡ Some stage → place_of command ≡ stage
place-at (commands.Macro code pairs) stage at = absurd cc
place-at other stage at = ap (λ (s : Option Stage). unwrap_or s Eob) at

pub macros-place : (stage : Stage) (code : ℕ) → macro_command_of stage ≡ Some code → macro_place code ≡ stage
macros-place Connect code at = let e : code ≡ SMFIC_CONNECT = cc in ap macro_place e
macros-place Helo code at = let e : code ≡ SMFIC_HELO = cc in ap macro_place e
macros-place Mail code at = let e : code ≡ SMFIC_MAIL = cc in ap macro_place e
macros-place Rcpt code at = let e : code ≡ SMFIC_RCPT = cc in ap macro_place e
macros-place DataCmd code at = let e : code ≡ SMFIC_DATA = cc in ap macro_place e
macros-place Header code at = absurd cc
macros-place Eoh code at = let e : code ≡ SMFIC_EOH = cc in ap macro_place e
macros-place Body code at = absurd cc
macros-place Eob code at = let e : code ≡ 69 = cc in ap macro_place e

-- macros belong to a stage that has some
pub macros-stage : (code : ℕ) → is_some (macro_stage_of (macro_place code)) ≡ true
macros-stage code =
    by_code (code == SMFIC_CONNECT) (code == SMFIC_HELO) (code == SMFIC_MAIL) (code == SMFIC_RCPT) (code == SMFIC_DATA)
    (code == SMFIC_EOH)
  where
    by_code : (a b c d e f : Bool) → is_some (macro_stage_of (if a then Connect else if b then Helo else if c then Mail
        else if d then Rcpt else if e then DataCmd else if f then Eoh else Eob)) ≡ true
    by_code true b c d e f = refl
    by_code false true c d e f = refl
    by_code false false true d e f = refl
    by_code false false false true e f = refl
    by_code false false false false true f = refl
    by_code false false false false false true = refl
    by_code false false false false false false = refl

-- ---- commands that are sent

abbrev pub sends : Negotiated → Command → Bool
sends negotiated command = is_sent negotiated (place_of command)

-- each of the commands is sent, and of a stage of this rank or a lower one
abbrev pub AreUpTo : Negotiated → ℕ → List Command → Type 0
AreUpTo negotiated rank [] = Unit {0}
AreUpTo negotiated rank (command ∷ before) =
    (rank_of (place_of command) ≤ rank) × (sends negotiated command ≡ true) × AreUpTo negotiated rank before

pub up_to-further : (negotiated : Negotiated) (low high : ℕ) (before : List Command) → low ≤ high
    → AreUpTo negotiated low before → AreUpTo negotiated high before
up_to-further negotiated low high [] less all = tt
up_to-further negotiated low high (command ∷ before) less all =
    (let here = all.0 in omega (arith, here, less), all.1, up_to-further negotiated low high before less all.2)

-- the commands are sent, of stages of this rank or higher ones, in the order of their stages
abbrev pub Ascend : Negotiated → ℕ → List Command → Type 0
Ascend negotiated rank [] = Unit {0}
Ascend negotiated rank (command ∷ left) =
    (rank ≤ rank_of (place_of command)) × (sends negotiated command ≡ true)
    × Ascend negotiated (rank_of (place_of command)) left

pub ascend-lower : (negotiated : Negotiated) (low high : ℕ) (left : List Command) → low ≤ high
    → Ascend negotiated high left → Ascend negotiated low left
ascend-lower negotiated low high [] less all = tt
ascend-lower negotiated low high (command ∷ left) less all =
    (let here = all.0 in omega (arith, here, less), all.1, all.2)
