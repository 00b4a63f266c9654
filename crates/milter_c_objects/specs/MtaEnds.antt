-- A mail server's end with what its caller gave for the next call.
use Rattle.std.specs.Prelude.{◌≡◌, List, ℕ, [], None, Result, Ok, Err}
use Rattle.milter_wire.specs.declared.command.Command.{Command}
use Rattle.milter_wire.specs.declared.command.Command.TheVariants as commands
use Rattle.milter_wire.specs.declared.stage.Stage.{Stage}
use Rattle.milter_wire.specs.declared.stage.Stage.TheVariants as stages
use Rattle.milter_fields.specs.declared.header.Header.{Header}
use Rattle.milter_fields.specs.declared.path.Path.{Path}
use Rattle.milter_mta_connection.specs.declared.filter_event.Fed.{Fed}
use Rattle.milter_mta_connection.specs.declared.filter_event.FilterEvent.TheVariants.{Nothing}
use Rattle.milter_mta_connection.specs.Channel.{sent}
use Rattle.milter_mta_connection.specs.declared.call_outcome.CallFault.{CallFault}
use Rattle.milter_mta_connection.specs.declared.call_outcome.CallOutcome.{CallOutcome}
use Rattle.milter_mta_connection.specs.Connection.{CallLeaves, CommandLeaves, Connection, UnknownLeaves, after_abort, after_quit, any_fault, header_command}
use Rattle.milter_c_objects.specs.declared.mta_end.MtaEnd.{MtaEnd}

-- of what the filter sent nothing has come
abbrev pub nothing_fed : Fed
nothing_fed = record { event = Nothing; loss = None }

-- a call that isn't refused takes what was given for it; its connection is this
abbrev pub after_call : Result CallOutcome CallFault → Connection → MtaEnd → MtaEnd
after_call (Ok outcome) connection end = record end { connection = connection; macros = []; params = [] }
after_call (Err fault) connection end = record end { connection = connection }

-- so many bytes of what was pending were sent
abbrev pub sent_of : ℕ → Connection → Connection
sent_of count c = record c { channel = sent count c.channel }

-- what a call leaves, of which the connection's call leaves this
abbrev pub Called : (Connection → Connection → Result CallOutcome CallFault → Type 0) → MtaEnd → MtaEnd
    → Result CallOutcome CallFault → Type 0
Called leaves old new done = leaves old.connection new.connection done × (new ≡ after_call done new.connection old)

-- an address with the parameters that were given
abbrev pub path_with : List ℕ → MtaEnd → Path
path_with address end = record { address = address; params = end.params }

-- ---- each call

-- a command of a stage, with the macros that were given
abbrev pub CalledAt : Stage → Command → MtaEnd → MtaEnd → Result CallOutcome CallFault → Type 0
CalledAt stage command old new done = Called (CommandLeaves stage command old.macros) old new done

-- header fields and the body have no macros
abbrev pub HeaderCalled : Header → MtaEnd → MtaEnd → Result CallOutcome CallFault → Type 0
HeaderCalled header old new done =
    Called (CommandLeaves stages.Header (header_command old.connection header) []) old new done

abbrev pub BodyCalled : List ℕ → MtaEnd → MtaEnd → Result CallOutcome CallFault → Type 0
BodyCalled chunk old new done = Called (CommandLeaves stages.Body (commands.Body chunk) []) old new done

abbrev pub UnknownCalled : List ℕ → MtaEnd → MtaEnd → Result CallOutcome CallFault → Type 0
UnknownCalled command old new done = Called (UnknownLeaves command old.macros) old new done

abbrev pub AbortCalled : MtaEnd → MtaEnd → Result CallOutcome CallFault → Type 0
AbortCalled old new done = Called (CallLeaves (any_fault old.connection) Unit (after_abort old.connection)) old new done

abbrev pub QuitCalled : MtaEnd → MtaEnd → Result CallOutcome CallFault → Type 0
QuitCalled old new done = Called (CallLeaves (any_fault old.connection) Unit (after_quit old.connection)) old new done
