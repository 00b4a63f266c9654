-- The messages of a client on one connection to a filter, one after the other.
use Rattle.std.specs.Prelude.{List, [], ◌∷◌, if◌then◌else◌}
use Rattle.std.specs.List.{filter}
use Rattle.milter_wire.specs.declared.negotiation.Negotiated.{Negotiated}
use Rattle.milter_wire.specs.Negotiation.{negotiate}
use Rattle.milter_wire.specs.declared.options.Options.{Options}
use Rattle.milter_message.specs.MailObject.{MailObject}
use Rattle.milter_mail.specs.Macros.{Macros}
use Rattle.milter_mail.specs.MailSession.{MailSession}
use Rattle.milter_protocol.specs.Behavior.{Behavior}
use Rattle.milter_protocol.specs.Commands.{is_of_connection}
use Rattle.milter_protocol.specs.Exchanges.{Exchange}
use Rattle.milter_mta_connection.specs.Calls.{after}
use Rattle.milter_mta_connection.specs.Calls.Call.{Abort}
use Rattle.milter_mta_connection.specs.Connection.{Connection, is_due_abort}
use Rattle.milter_mta_connection.specs.SessionCalls.{IsGiven, dialogue_about, with_message, with_session}
use Rattle.milter_mta_connection.specs.Conversations.{Conversation, all_sent, opened}

-- the client and the first message are called for, on a connection that was just made
abbrev pub with_first : Behavior → Options → MailSession → MailObject → Conversation
with_first b offer session message =
    let negotiated = negotiate offer b.wants b.lists in
    with_session b negotiated session message (opened offer negotiated)

-- the exchanges about the client, of which the filter is shown the commands with each message
abbrev pub opening_of : List Exchange → List Exchange
opening_of transcript = filter (λ exchange. is_of_connection exchange.command) transcript

-- a message that was sent in part is given up
abbrev pub given_up : Connection → Connection
given_up c = if is_due_abort c.phase then all_sent (after Abort c) else c

-- before the next message
abbrev pub between : Conversation → Conversation
between t = record t { connection = given_up t.connection; transcript = opening_of t.transcript }

-- a message is called for after others
abbrev pub with_next : Behavior → Negotiated → Macros → MailObject → Conversation → Conversation
with_next b negotiated macros message t = with_message b negotiated macros message (between t)

-- of each of these messages, one after the other, the caller has its dialogue after these exchanges about the client
abbrev pub AreGiven : Behavior → Negotiated → Macros → List Exchange → List MailObject → Conversation → Type 0
AreGiven b negotiated macros opening [] t = Unit {0}
AreGiven b negotiated macros opening (message ∷ messages) t =
    IsGiven (dialogue_about b negotiated macros message opening) (between t) (with_next b negotiated macros message t)
    × AreGiven b negotiated macros opening messages (with_next b negotiated macros message t)

-- of none of them anything is sent or given
abbrev pub AreIgnored : Behavior → Negotiated → Macros → List MailObject → Conversation → Type 0
AreIgnored b negotiated macros [] t = Unit {0}
AreIgnored b negotiated macros (message ∷ messages) t =
    IsGiven [] (between t) (with_next b negotiated macros message t)
    × AreIgnored b negotiated macros messages (with_next b negotiated macros message t)
