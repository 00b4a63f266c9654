-- The command line: what it asks for.
use Rattle.std.specs.Prelude.{◌≡◌, ◌≢◌, ℕ, List, [], codes, Option, None, Some, Result, Ok, Err, IfErr, IfOk, IfSome}
use Rattle.std.specs.Prelude.{◌⊎◌, ◌↔◌, Bool, IsSomeAnd, IsTrue, option_map}
use Rattle.std.specs.Option.{option_map_or}
use Rattle.std.specs.Borrow.{Bor}
use Rattle.std.specs.Str.Parse.{digits_value, without_leading_plus}
use Rattle.clap.specs.Values.{IsUnsignedIn}
use Rattle.clap.specs.Words.{HasKind, Row, Text, all_of, fault_of, first_of, subcommand_of, subcommand_rows_of}
use Rattle.clap.specs.Walk.{texts}
use Rattle.clap.specs.declared.error.Error.{Error}
use Rattle.clap.specs.declared.parser.matches.ArgMatches.{ArgMatches}
use Rattle.milter_command_line.specs.declared.limits.TheConstants.{AT_ONCE_DEFAULT, AT_ONCE_MAX, BODIES_MAX, COUNT_DEFAULT}
use Rattle.milter_command_line.specs.declared.limits.TheConstants.{COUNT_MAX, IDLE_DEFAULT, IDLE_MAX, LOAD_AT_ONCE_DEFAULT}
use Rattle.milter_command_line.specs.declared.limits.TheConstants.{LOAD_SECONDS_MAX, MESSAGES_MAX, MODE_DEFAULT, MODE_MAX}
use Rattle.milter_command_line.specs.declared.limits.TheConstants.{PROBE_TIMEOUT_DEFAULT, RATE_MAX, SEED_DEFAULT, SEED_MAX}
use Rattle.milter_command_line.specs.declared.limits.TheConstants.{SENT_MAX, TIMEOUT_DEFAULT, TIMEOUT_MAX, WAIT_MAX}
use Rattle.milter_command_line.specs.Subcommands.{tool_app}
use Rattle.milter_command_line.specs.Words.{AreLossWords, BorrowedWords}
use Rattle.milter_command_line.specs.declared.request.Request.{Request}
use Rattle.milter_command_line.specs.declared.request.Request.TheVariants.{Trace, Session, Rules, Answer, Filter}
use Rattle.milter_command_line.specs.declared.request.Request.TheVariants.{Serve, Mta, Play, Replay, Load, Probe, Record}
use Rattle.milter_mta_outcome.specs.declared.fallback.OnLoss.{OnLoss}
use Rattle.milter_mta_outcome.specs.declared.fallback.OnLoss.TheVariants.{Accept, Tempfail, Reject}

-- the text of an option, if it is given
abbrev pub text_of : Option (Bor Text) → Option Text
text_of option = option_map (λ text. text.now) option

-- the number in the text of an option, which is within these bounds, or the default where it isn't given
abbrev pub IsNumberOr : ℕ → ℕ → ℕ → Option Text → ℕ → Type 0
IsNumberOr default least most None number = number ≡ default
IsNumberOr default least most (Some text) number =
    IsUnsignedIn least most text → number ≡ digits_value 10 (without_leading_plus text)

-- the number in the text of an option, which is within these bounds; none where it isn't given
abbrev pub IsNumber : ℕ → ℕ → Option Text → Option ℕ → Type 0
IsNumber least most None number = number ≡ None
IsNumber least most (Some text) number =
    IsUnsignedIn least most text → number ≡ Some (digits_value 10 (without_leading_plus text))

-- the number in the text of the option `count`, or the default
abbrev pub IsCount : Option Text → ℕ → Type 0
IsCount = IsNumberOr COUNT_DEFAULT 1 COUNT_MAX

-- the number of seconds in the text of the option `timeout`, or the default
abbrev pub IsTimeout : Option Text → ℕ → Type 0
IsTimeout = IsNumberOr TIMEOUT_DEFAULT 1 TIMEOUT_MAX

abbrev pub loss_word : OnLoss → Text
loss_word Accept = codes "accept"
loss_word Tempfail = codes "tempfail"
loss_word Reject = codes "reject"

-- what the text of the option `loss` names, or that messages are refused for now
abbrev pub IsLoss : Option Text → OnLoss → Type 0
IsLoss None loss = loss ≡ Tempfail
IsLoss (Some text) loss = (named : OnLoss) → text ≡ loss_word named → loss ≡ named

-- whether a flag is given
abbrev pub IsFlag : Option Text → Bool → Type 0
IsFlag text flag = IsTrue flag ↔ (text ≡ Some (codes "true"))

-- the values of an argument; none where it isn't given
abbrev pub given_values : Text → List Row → List Text
given_values id values = option_map_or (λ given. given) (all_of id values) []

-- the subcommand of this name, with these values, asks for it
abbrev pub IsAsked : Text × List Row → Request → Type 0
IsAsked (name, values) (Trace asked) =
    (name ≡ codes "trace") × (given_values (codes "file") values ≡ texts asked.files.items)
    × IsFlag (first_of (codes "names") values) asked.names
    × IsNumber 0 BODIES_MAX (first_of (codes "bodies") values) asked.bodies
    × IsFlag (first_of (codes "pcap") values) asked.pcap
IsAsked (name, values) (Session file) =
    (name ≡ codes "session") × (first_of (codes "file") values ≡ Some file.now)
IsAsked (name, values) (Rules file check) =
    (name ≡ codes "rules") × (first_of (codes "file") values ≡ Some file.now)
    × IsFlag (first_of (codes "check") values) check
IsAsked (name, values) (Answer asked) =
    (name ≡ codes "answer") × (first_of (codes "rules") values ≡ text_of asked.rules)
    × IsFlag (first_of (codes "lenient") values) asked.lenient
    × IsFlag (first_of (codes "ignore-case") values) asked.ignore_case
    × IsFlag (first_of (codes "least-stages") values) asked.least_stages
IsAsked (name, values) (Filter asked) =
    (name ≡ codes "filter") × (first_of (codes "address") values ≡ Some asked.address.now)
    × (first_of (codes "rules") values ≡ text_of asked.rules)
    × IsCount (first_of (codes "count") values) asked.count
    × IsFlag (first_of (codes "lenient") values) asked.lenient
    × IsFlag (first_of (codes "ignore-case") values) asked.ignore_case
    × IsFlag (first_of (codes "least-stages") values) asked.least_stages
IsAsked (name, values) (Serve asked) =
    (name ≡ codes "serve") × (all_of (codes "address") values ≡ Some (texts asked.addresses.items))
    × (first_of (codes "rules") values ≡ text_of asked.rules)
    × IsNumberOr AT_ONCE_DEFAULT 1 AT_ONCE_MAX (first_of (codes "at-once") values) asked.at_once
    × IsNumberOr IDLE_DEFAULT 1 IDLE_MAX (first_of (codes "timeout") values) asked.timeout
    × IsNumberOr MODE_DEFAULT 1 MODE_MAX (first_of (codes "mode") values) asked.mode
    × IsFlag (first_of (codes "log") values) asked.log
    × IsFlag (first_of (codes "ignore-case") values) asked.ignore_case
    × IsFlag (first_of (codes "all-stages") values) asked.all_stages
IsAsked (name, values) (Mta asked) =
    (name ≡ codes "mta") × (first_of (codes "address") values ≡ Some asked.address.now)
    × (first_of (codes "session") values ≡ Some asked.session.now)
    × IsLoss (first_of (codes "loss") values) asked.loss
    × IsTimeout (first_of (codes "timeout") values) asked.timeout
    × (first_of (codes "actions") values ≡ text_of asked.actions)
    × (first_of (codes "protocol") values ≡ text_of asked.protocol)
    × IsNumberOr 0 1 WAIT_MAX (first_of (codes "wait") values) asked.wait
    × (first_of (codes "expect") values ≡ text_of asked.expect)
    × IsFlag (first_of (codes "show-negotiation") values) asked.show_negotiation
    × (given_values (codes "macro") values ≡ texts asked.macros.items)
    × IsNumber 0 SENT_MAX (first_of (codes "at-loss") values) asked.at_loss
IsAsked (name, values) (Play asked) =
    (name ≡ codes "play") × (first_of (codes "session") values ≡ Some asked.session.now)
    × (first_of (codes "rules") values ≡ text_of asked.rules)
    × IsFlag (first_of (codes "ignore-case") values) asked.ignore_case
    × IsFlag (first_of (codes "least-stages") values) asked.least_stages
    × (first_of (codes "actions") values ≡ text_of asked.actions)
    × (first_of (codes "protocol") values ≡ text_of asked.protocol)
    × (first_of (codes "events") values ≡ text_of asked.events)
    × IsLoss (first_of (codes "loss") values) asked.loss
    × (first_of (codes "expect") values ≡ text_of asked.expect)
IsAsked (name, values) (Replay asked) =
    (name ≡ codes "replay") × (first_of (codes "address") values ≡ Some asked.address.now)
    × (first_of (codes "trace") values ≡ Some asked.trace.now)
    × IsTimeout (first_of (codes "timeout") values) asked.timeout
    × IsNumberOr 0 1 WAIT_MAX (first_of (codes "wait") values) asked.wait
IsAsked (name, values) (Load asked) =
    (name ≡ codes "load") × (first_of (codes "address") values ≡ Some asked.address.now)
    × (first_of (codes "session") values ≡ Some asked.session.now)
    × IsNumberOr LOAD_AT_ONCE_DEFAULT 1 AT_ONCE_MAX (first_of (codes "at-once") values) asked.at_once
    × IsNumberOr 0 1 LOAD_SECONDS_MAX (first_of (codes "for") values) asked.seconds
    × IsNumberOr 0 1 MESSAGES_MAX (first_of (codes "messages") values) asked.messages
    × IsNumberOr 0 1 RATE_MAX (first_of (codes "rate") values) asked.rate
    × IsTimeout (first_of (codes "timeout") values) asked.timeout
    × IsFlag (first_of (codes "json") values) asked.json
IsAsked (name, values) (Probe asked) =
    (name ≡ codes "probe") × (first_of (codes "address") values ≡ Some asked.address.now)
    × (first_of (codes "session") values ≡ Some asked.session.now)
    × (first_of (codes "only") values ≡ text_of asked.only)
    × IsNumberOr SEED_DEFAULT 0 SEED_MAX (first_of (codes "seed") values) asked.seed
    × IsNumberOr PROBE_TIMEOUT_DEFAULT 1 TIMEOUT_MAX (first_of (codes "timeout") values) asked.timeout
IsAsked (name, values) (Record asked) =
    (name ≡ codes "record") × (first_of (codes "listen") values ≡ Some asked.listen.now)
    × (first_of (codes "address") values ≡ Some asked.address.now)
    × (first_of (codes "directory") values ≡ Some asked.directory.now)
    × IsNumberOr 0 1 COUNT_MAX (first_of (codes "count") values) asked.count

-- the subcommand of this name, with these values, asks for nothing
abbrev pub IsUnasked : Text × List Row → Type 0
IsUnasked (name, values) =
    (name ≢ codes "trace") × (name ≢ codes "answer")
    × (name ≡ codes "session" → first_of (codes "file") values ≡ None)
    × (name ≡ codes "rules" → first_of (codes "file") values ≡ None)
    × (name ≡ codes "filter" → first_of (codes "address") values ≡ None)
    × (name ≡ codes "serve" → first_of (codes "address") values ≡ None)
    × (name ≡ codes "mta" → (first_of (codes "address") values ≡ None) ⊎ (first_of (codes "session") values ≡ None))
    × (name ≡ codes "play" → first_of (codes "session") values ≡ None)
    × (name ≡ codes "replay" → (first_of (codes "address") values ≡ None) ⊎ (first_of (codes "trace") values ≡ None))
    × (name ≡ codes "load" → (first_of (codes "address") values ≡ None) ⊎ (first_of (codes "session") values ≡ None))
    × (name ≡ codes "probe" → (first_of (codes "address") values ≡ None) ⊎ (first_of (codes "session") values ≡ None))
    × (name ≡ codes "record" → (first_of (codes "listen") values ≡ None)
    ⊎ (first_of (codes "address") values ≡ None) ⊎ (first_of (codes "directory") values ≡ None))

-- the request of the subcommand, or that it has none
abbrev pub IsRequestOf : Option (Text × List Row) → Option Request → Type 0
IsRequestOf subcommand (Some request) = IsSomeAnd subcommand (λ s. IsAsked s request)
IsRequestOf subcommand None = IfSome subcommand IsUnasked

-- the same of a subcommand of this name that has these values
abbrev pub IsRequestOfNamed : Text → List Row → Option Request → Type 0
IsRequestOfNamed name values = IsRequestOf (Some (name, values))

-- words that are taken have no fault, and these are their matches
abbrev pub HasMatches : BorrowedWords → List Text → ArgMatches → Type 0
HasMatches losses words m =
    (fault_of (tool_app losses) words ≡ []) × (subcommand_rows_of m ≡ subcommand_of (tool_app losses) words)

abbrev pub MatchesAs : List Text → Result ArgMatches Error → Type 0
MatchesAs words result =
    (losses : BorrowedWords) × AreLossWords losses
    × IfOk result (HasMatches losses words) × IfErr result (HasKind (fault_of (tool_app losses) words))

-- Words that are taken have no fault, and ask for what their subcommand does. An error is one of the first fault's
-- kinds, or memory.
abbrev pub ParsesBy : BorrowedWords → List Text → Result Request Error → Type 0
ParsesBy losses words (Ok request) =
    (fault_of (tool_app losses) words ≡ []) × IsRequestOf (subcommand_of (tool_app losses) words) (Some request)
ParsesBy losses words (Err e) = HasKind (fault_of (tool_app losses) words) e

abbrev pub ParsesAs : List Text → Result Request Error → Type 0
ParsesAs words result = (losses : BorrowedWords) × AreLossWords losses × ParsesBy losses words result
