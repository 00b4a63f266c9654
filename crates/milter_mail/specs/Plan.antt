-- What is sent of a session, by what both ends negotiated: the commands of its opening, and those of each message.
use Rattle.std.specs.Prelude.{List, ◌++◌}
use Rattle.milter_wire.specs.declared.negotiation.Negotiated.{Negotiated}
use Rattle.milter_wire.specs.declared.command.Command.{Command}
use Rattle.milter_mail.specs.Macros.{Macros}
use Rattle.milter_mail.specs.ChosenMacros.{chosen_macros}
use Rattle.milter_message.specs.MailObject.{MailObject}
use Rattle.milter_mail.specs.MailSession.{MailSession}
use Rattle.milter_mail.specs.Steps.{message_steps, opening_steps}

-- the macros that the filter asked for
abbrev pub macros_of : Negotiated → MailSession → Macros
macros_of negotiated session = chosen_macros negotiated.lists session.macros

-- what is sent before the first message
abbrev pub opening : Negotiated → MailSession → List Command
opening negotiated session = opening_steps negotiated (macros_of negotiated session) session.client session.helo

-- the opening, and what is sent of one message
abbrev pub plan : Negotiated → MailSession → MailObject → List Command
plan negotiated session message =
    opening negotiated session ++ message_steps negotiated (macros_of negotiated session) message
