-- Worked connections: what mail servers send, and filters that want more than to pass.
use Rattle.std.specs.Prelude.{ℕ, List, [], ◌∷◌, codes, map, length, Ok, Option, None, Some, replicate}
use Rattle.milter_wire.specs.declared.options.Options.{Options}
use Rattle.milter_fields.specs.declared.client.Client.{Client}
use Rattle.milter_fields.specs.declared.client.Origin.TheVariants.{Unknown}
use Rattle.milter_wire.specs.declared.codes.TheConstants.{SMFIC_MAIL}
use Rattle.milter_wire.specs.declared.command.Command.{Command}
use Rattle.milter_wire.specs.declared.command.Command.TheVariants as commands
use Rattle.milter_fields.specs.declared.path.Path.{Path}
use Rattle.milter_wire.specs.declared.reply.Reply.{Reply}
use Rattle.milter_wire.specs.declared.reply.Reply.TheVariants as replies_with
use Rattle.milter_wire.specs.declared.stage.Stage.{Stage}
use Rattle.milter_wire.specs.declared.stage.Stage.TheVariants.{DataCmd, Eob, Mail}
use Rattle.milter_wire.specs.declared.verdict.Verdict.{Verdict}
use Rattle.milter_wire.specs.declared.verdict.Verdict.TheVariants.{Code, Continue}
use Rattle.milter_message.specs.declared.edit.Edit.{Edit}
use Rattle.milter_protocol.specs.Behavior.{Behavior}
use Rattle.milter_protocol.specs.Seen.{Seen, value_in}
use Rattle.milter_protocol.specs.declared.answer.Answer.{Answer}
use Rattle.milter_protocol.specs.declared.stage_order.CommandOrder.{CommandOrder}
use Rattle.milter_protocol.specs.declared.filter_fault.FilterState.{FilterState}
use Rattle.milter_protocol.specs.declared.stage_order.CommandOrder.TheVariants.{Lenient}
use Rattle.milter_protocol.specs.FilterEnds.{after, replies, start}
use Rattle.milter_protocol.specs.OrderStates.{OrderState, fresh_in, order_state_after, order_state_replies}
use Rattle.milter_protocol.specs.Questions.{AskState, Event, Answered, Came, Wanted, events_after, events_replies, fresh_ask_state}

abbrev pub options : ℕ → ℕ → ℕ → Options
options version actions protocol =
    record { version = version; actions = record { 0 = actions }; protocol = record { 0 = protocol } }

-- what a usual mail server offers
abbrev pub offer : Command
offer = commands.Options (options 6 511 2095103)

abbrev pub at : List ℕ → Path
at address = record { address = address; params = [] }

abbrev pub client : Client
client = record { host = codes "h.example"; origin = Unknown }

abbrev pub helo : Command
helo = commands.Helo (codes "mail")

abbrev pub mail : Command
mail = commands.Mail (at (codes "a@x"))

-- the macros of a sender, of which one is the name of the queue file
abbrev pub macros_of_mail : Command
macros_of_mail = commands.Macro SMFIC_MAIL (record { name = codes "i"; value = codes "Q1" } ∷ [])

abbrev pub rcpt : Command
rcpt = commands.Rcpt (at (codes "b@y"))

abbrev pub another_rcpt : Command
another_rcpt = commands.Rcpt (at (codes "c@z"))

abbrev pub field : List ℕ → List ℕ → Command
field name value = commands.Header (record { name = name; value = value })

-- the reply to options
abbrev pub negotiated : ℕ → ℕ → ℕ → Reply
negotiated version actions protocol = replies_with.Options (options version actions protocol) []

-- ---- what comes of it

abbrev pub replied : Behavior → List Command → List Reply
replied b sent = replies b start (map Ok sent)

abbrev pub state : Behavior → List Command → FilterState
state b sent = (after b start (map Ok sent)).state

-- ... of an end that takes commands in this order
abbrev pub kept_in : CommandOrder → Behavior → List Command → OrderState
kept_in order b sent = order_state_after b (fresh_in order) (map Ok sent)

abbrev pub replied_in : CommandOrder → Behavior → List Command → List Reply
replied_in order b sent = order_state_replies b (fresh_in order) (map Ok sent)

-- ... of one whose caller answers, in the lenient order
abbrev pub came : Command → Event
came command = Came (Ok command)

abbrev pub given : Verdict → Event
given verdict = Answered (record { edits = []; verdict = verdict })

abbrev pub asking : Wanted
asking = record { options = options 6 511 0; lists = [] }

abbrev pub given_after : List Event → AskState
given_after events = events_after asking (fresh_ask_state Lenient) events

abbrev pub given_replies : List Event → List Reply
given_replies events = events_replies asking (fresh_ask_state Lenient) events

-- ---- filters

-- a filter that wants all that there is, and decides so
abbrev pub deciding : ℕ → (Stage → Seen → Answer) → Behavior
deciding protocol decide = record { wants = options 6 511 protocol; lists = []; decide = decide }

abbrev pub always : Verdict → Stage → Seen → Answer
always verdict stage seen = record { edits = []; verdict = verdict }

-- at the end of a message as many pluses as it had header fields
abbrev pub count_fields : Stage → Seen → Answer
count_fields Eob seen = record { edits = []; verdict = Code (replicate (length seen.headers) 43) }
count_fields stage seen = record { edits = []; verdict = Continue }

abbrev pub edits_at_end : List Edit → Verdict → Stage → Seen → Answer
edits_at_end edits verdict Eob seen = record { edits = edits; verdict = verdict }
edits_at_end edits verdict stage seen = record { edits = []; verdict = Continue }

-- it lets all go on but DATA
abbrev pub at_data : Verdict → Stage → Seen → Answer
at_data verdict DataCmd seen = record { edits = []; verdict = verdict }
at_data verdict stage seen = record { edits = []; verdict = Continue }

-- the text of a macro, where it was given
abbrev pub code_with : Option (List ℕ) → Verdict
code_with None = Continue
code_with (Some value) = Code value

-- at a sender the name of the queue file
abbrev pub name_queue_file : Stage → Seen → Answer
name_queue_file Mail seen = record { edits = []; verdict = code_with (value_in seen.macros (codes "i")) }
name_queue_file stage seen = record { edits = []; verdict = Continue }
