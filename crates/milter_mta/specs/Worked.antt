-- A worked session of one message, and replies to it.
use Rattle.std.specs.Prelude.{ℕ, List, map, [], ◌∷◌, ◌++◌, codes, Option, None, Some}
use Rattle.std.specs.Option.{option_to_list}
use Rattle.milter_wire.specs.declared.options.Options.{Options}
use Rattle.milter_fields.specs.declared.client.Origin.TheVariants.{Unknown}
use Rattle.milter_fields.specs.declared.path.Path.{Path}
use Rattle.milter_wire.specs.declared.command.Command.{Command}
use Rattle.milter_wire.specs.declared.reply.Reply.{Reply}
use Rattle.milter_wire.specs.declared.reply.Reply.TheVariants as replies
use Rattle.milter_protocol.specs.declared.permitted.TheConstants.{ACTIONS_MAX, PROTOCOL_MAX, VERSION_MAX}
use Rattle.milter_wire.specs.declared.verdict.Verdict.{Verdict}
use Rattle.milter_mail.specs.Macros.{Macros}
use Rattle.milter_mail.specs.MailSession.{MailSession}
use Rattle.milter_message.specs.MailObject.{MailObject}
use Rattle.milter_mta_outcome.specs.declared.fallback.OnLoss.{OnLoss}
use Rattle.milter_mta_outcome.specs.declared.outcome.Outcome.{Outcome}
use Rattle.milter_mta.specs.Mta.{Configuration, FilterConnection, Mta, fresh}
use Rattle.milter_mta.specs.Replies.{replied}
use Rattle.milter_mta.specs.Output.{command_at, dialled, finished}

abbrev pub at : List ℕ → Path
at address = record { address = address; params = [] }

abbrev pub message : MailObject
message = record { sender = at (codes "a@x"); recipients = at (codes "b@y") ∷ []; headers = []; body = [] }

abbrev pub no_macros : Macros
no_macros = record { connect = []; helo = []; mail = []; rcpt = []; data_cmd = []; eom = []; eoh = [] }

abbrev pub session : List MailObject → MailSession
session messages =
    record {
      client = record { host = codes "h.example"; origin = Unknown };
      helo = codes "mail";
      macros = no_macros;
      messages = messages;
    }

abbrev pub options : ℕ → ℕ → ℕ → Options
options version actions protocol =
    record { version = version; actions = record { 0 = actions }; protocol = record { 0 = protocol } }

abbrev pub greatest : OnLoss → Configuration
greatest on_loss = record { offer = options VERSION_MAX ACTIONS_MAX PROTOCOL_MAX; on_loss = on_loss }

-- ---- a filter that is played by hand

abbrev pub next_in : Configuration → Option FilterConnection → Option Command
next_in config None = None
next_in config (Some filter_connection) = command_at config.offer filter_connection.aborts filter_connection.position

abbrev pub packet_sent_in : Option FilterConnection → Mta → Mta
packet_sent_in None m = m
packet_sent_in (Some filter_connection) m = record m { filter_connection = Some (finished filter_connection) }

abbrev pub answered_in : Option FilterConnection → Option Reply → Mta → Mta
answered_in (Some filter_connection) (Some reply) m = (replied filter_connection.position reply m).mta
answered_in filter_connection reply m = m

-- the next packet is sent, and then this reply comes, if one does
abbrev pub after_turn : Mta → Option Reply → Mta
after_turn m reply = let sent = packet_sent_in m.filter_connection m in answered_in sent.filter_connection reply sent

abbrev pub after_turns : Mta → List (Option Reply) → Mta
after_turns m [] = m
after_turns m (reply ∷ replies) = after_turns (after_turn m reply) replies

-- the commands that are sent, one for each of these turns
abbrev pub commands_sent : Mta → List (Option Reply) → List Command
commands_sent m [] = []
commands_sent m (reply ∷ replies) =
    option_to_list (next_in m.config m.filter_connection) ++ commands_sent (after_turn m reply) replies

abbrev pub begun : OnLoss → List MailObject → Mta
begun on_loss messages = dialled (fresh (greatest on_loss) (session messages))

-- ---- replies

abbrev pub negotiated : ℕ → ℕ → ℕ → Option Reply
negotiated version actions protocol = Some (replies.Options (options version actions protocol) [])

abbrev pub continue : Option Reply
continue = Some replies.Continue

abbrev pub reply : Reply → Option Reply
reply r = Some r

-- ---- what becomes of the messages

abbrev pub outcomes : Mta → List Outcome
outcomes m = map (λ r. r.outcome) m.reports

abbrev pub acted_on : Mta → List (List Verdict)
acted_on m = map (λ r. map (λ a. a.verdict) r.acted) m.reports

-- all is answered up to the sender, and this is
abbrev pub to_sender : List (Option Reply) → List (Option Reply)
to_sender turns = negotiated 6 0 0 ∷ continue ∷ continue ∷ continue ∷ turns

abbrev pub two_recipients : MailObject
two_recipients = record message { recipients = at (codes "b@y") ∷ at (codes "c@y") ∷ [] }
