-- The macros that a filter asks for.
use Rattle.std.specs.Prelude.{ℕ, nat_eq, List, [], ◌∷◌, ◌++◌, Option, None, Some, if◌then◌else◌}
use Rattle.milter_wire.specs.declared.macro_stage.TheConstants as lists
use Rattle.milter_protocol.specs.Questions.{Wanted}
use Rattle.milter_c_objects.specs.declared.status.TheConstants as status

-- the number that a stage has in a symbol list; macros are sent before these stages alone
abbrev pub list_stage : ℕ → Option ℕ
list_stage stage =
    if nat_eq stage status.STAGE_CONNECT then Some lists.SMFIM_CONNECT
    else if nat_eq stage status.STAGE_HELO then Some lists.SMFIM_HELO
    else if nat_eq stage status.STAGE_MAIL then Some lists.SMFIM_ENVFROM
    else if nat_eq stage status.STAGE_RCPT then Some lists.SMFIM_ENVRCPT
    else if nat_eq stage status.STAGE_DATA then Some lists.SMFIM_DATA
    else if nat_eq stage status.STAGE_EOB then Some lists.SMFIM_EOM
    else if nat_eq stage status.STAGE_EOH then Some lists.SMFIM_EOH
    else None

-- one symbol list more
abbrev pub asking_for : ℕ → List ℕ → Wanted → Wanted
asking_for stage names wanted =
    record { options = wanted.options; lists = wanted.lists ++ record { stage = stage; names = names } ∷ [] }
