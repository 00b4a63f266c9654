-- Messages of a caller in C.
use Rattle.std.specs.Prelude.{ℤ, Result, Ok, Err}
use Rattle.milter_message.specs.declared.message.Held.{Held}
use Rattle.milter_mta_connection.specs.Connection.{Connection, has_leading_space_in}
use Rattle.milter_c_objects.specs.Messages.{edited}
use Rattle.milter_c_objects.specs.declared.parts.PartFault.{PartFault}
use Rattle.milter_c_objects.specs.declared.parts.PartFault.TheVariants.{DoesNotFit, NoMemory}
use Rattle.milter_c_objects.specs.declared.status.TheConstants.{MESSAGE_DOES_NOT_FIT, NO_MEMORY, OK}

-- the message after the edits of the filter's answer
abbrev pub edited_by : Connection → Held → Held
edited_by c held = edited (has_leading_space_in c.channel.negotiated) c.channel.edits held

abbrev pub part_status_of : Result Unit PartFault → ℤ
part_status_of (Ok u) = OK
part_status_of (Err DoesNotFit) = MESSAGE_DOES_NOT_FIT
part_status_of (Err NoMemory) = NO_MEMORY
