-- The command that a borrowed one stands for.
use Rattle.milter_wire.specs.declared.command.Command.{Command}
use Rattle.milter_wire.specs.declared.command.Command.TheVariants as commands
use Rattle.milter_wire.specs.declared.command_ref.CommandRef.{CommandRef}
use Rattle.milter_wire.specs.declared.command_ref.CommandRef.TheVariants.{Options, Macro, Connect, Helo, Mail, Rcpt, DataCmd, Header, Eoh, Body, Eob, Unknown, Abort, Quit, QuitNew}
use Rattle.milter_fields.specs.Borrowed.{client_of, header_of, path_of}

abbrev pub command_of : CommandRef → Command
command_of (Options o) = commands.Options o
command_of (Macro command pairs) = commands.Macro command pairs
command_of (Connect c) = commands.Connect (client_of c)
command_of (Helo name) = commands.Helo name.now
command_of (Mail sender) = commands.Mail (path_of sender)
command_of (Rcpt recipient) = commands.Rcpt (path_of recipient)
command_of DataCmd = commands.DataCmd
command_of (Header h) = commands.Header (header_of h)
command_of Eoh = commands.Eoh
command_of (Body bytes) = commands.Body bytes.now
command_of (Eob bytes) = commands.Eob bytes.now
command_of (Unknown text) = commands.Unknown text.now
command_of Abort = commands.Abort
command_of Quit = commands.Quit
command_of QuitNew = commands.QuitNew
