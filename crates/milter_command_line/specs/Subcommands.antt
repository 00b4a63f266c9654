-- The subcommands of the program, each with its words.
use Rattle.std.specs.Prelude.{List, [], ◌∷◌, codes, true}
use Rattle.clap.specs.Words.{App, Rule, Text, new_app, with_subcommand}
use Rattle.milter_command_line.specs.declared.limits.TheConstants.{AT_ONCE_MAX, BODIES_MAX, COUNT_MAX, IDLE_MAX, MODE_MAX}
use Rattle.milter_command_line.specs.declared.limits.TheConstants.{LOAD_SECONDS_MAX, MESSAGES_MAX, RATE_MAX, SEED_MAX, SENT_MAX}
use Rattle.milter_command_line.specs.declared.limits.TheConstants.{TIMEOUT_MAX, WAIT_MAX}
use Rattle.milter_command_line.specs.Words.{BorrowedWords, any_places_rule, flag_rule, loss_rule, number_rule, option_rule}
use Rattle.milter_command_line.specs.Words.{options_rule, place_rule, places_rule, up_to_rule, with_rules}

-- a subcommand with these words
abbrev pub app_with : Text → List Rule → App
app_with name rules = with_rules (new_app name) rules

abbrev pub trace_app : App
trace_app =
    app_with (codes "trace")
    (any_places_rule (codes "file") ∷ flag_rule (codes "names") ∷ up_to_rule (codes "bodies") BODIES_MAX
    ∷ flag_rule (codes "pcap") ∷ flag_rule (codes "explain") ∷ [])

abbrev pub session_app : App
session_app = app_with (codes "session") (place_rule (codes "file") ∷ flag_rule (codes "explain") ∷ [])

abbrev pub rules_app : App
rules_app =
    app_with (codes "rules")
    (place_rule (codes "file") ∷ flag_rule (codes "check") ∷ flag_rule (codes "explain") ∷ [])

abbrev pub answer_app : App
answer_app =
    app_with (codes "answer")
    (option_rule (codes "rules") ∷ flag_rule (codes "lenient") ∷ flag_rule (codes "ignore-case")
    ∷ flag_rule (codes "least-stages") ∷ flag_rule (codes "explain") ∷ [])

abbrev pub filter_app : App
filter_app =
    app_with (codes "filter")
    (place_rule (codes "address") ∷ option_rule (codes "rules") ∷ number_rule (codes "count") COUNT_MAX
    ∷ flag_rule (codes "lenient") ∷ flag_rule (codes "ignore-case") ∷ flag_rule (codes "least-stages")
    ∷ flag_rule (codes "explain") ∷ [])

abbrev pub serve_app : App
serve_app =
    app_with (codes "serve")
    (places_rule (codes "address") ∷ option_rule (codes "rules") ∷ number_rule (codes "at-once") AT_ONCE_MAX
    ∷ number_rule (codes "timeout") IDLE_MAX ∷ number_rule (codes "mode") MODE_MAX ∷ flag_rule (codes "log")
    ∷ flag_rule (codes "ignore-case") ∷ flag_rule (codes "all-stages")
    ∷ flag_rule (codes "explain") ∷ [])

-- with the words of `--loss`
abbrev pub mta_app : BorrowedWords → App
mta_app losses =
    app_with (codes "mta")
    (place_rule (codes "address") ∷ place_rule (codes "session") ∷ loss_rule losses
    ∷ number_rule (codes "timeout") TIMEOUT_MAX ∷ option_rule (codes "actions") ∷ option_rule (codes "protocol")
    ∷ number_rule (codes "wait") WAIT_MAX ∷ option_rule (codes "expect") ∷ flag_rule (codes "show-negotiation")
    ∷ options_rule (codes "macro") ∷ up_to_rule (codes "at-loss") SENT_MAX ∷ flag_rule (codes "explain") ∷ [])

abbrev pub play_app : BorrowedWords → App
play_app losses =
    app_with (codes "play")
    (place_rule (codes "session") ∷ option_rule (codes "rules") ∷ flag_rule (codes "ignore-case")
    ∷ flag_rule (codes "least-stages") ∷ option_rule (codes "actions") ∷ option_rule (codes "protocol")
    ∷ option_rule (codes "events") ∷ loss_rule losses ∷ option_rule (codes "expect")
    ∷ flag_rule (codes "explain") ∷ [])

abbrev pub replay_app : App
replay_app =
    app_with (codes "replay")
    (place_rule (codes "address") ∷ place_rule (codes "trace") ∷ number_rule (codes "timeout") TIMEOUT_MAX
    ∷ number_rule (codes "wait") WAIT_MAX ∷ flag_rule (codes "explain") ∷ [])

abbrev pub load_app : App
load_app =
    app_with (codes "load")
    (place_rule (codes "address") ∷ place_rule (codes "session") ∷ number_rule (codes "at-once") AT_ONCE_MAX
    ∷ number_rule (codes "for") LOAD_SECONDS_MAX ∷ number_rule (codes "messages") MESSAGES_MAX
    ∷ number_rule (codes "rate") RATE_MAX ∷ number_rule (codes "timeout") TIMEOUT_MAX ∷ flag_rule (codes "json")
    ∷ flag_rule (codes "explain") ∷ [])

abbrev pub probe_app : App
probe_app =
    app_with (codes "probe")
    (place_rule (codes "address") ∷ place_rule (codes "session") ∷ option_rule (codes "only")
    ∷ up_to_rule (codes "seed") SEED_MAX ∷ number_rule (codes "timeout") TIMEOUT_MAX ∷ flag_rule (codes "explain") ∷ [])

abbrev pub record_app : App
record_app =
    app_with (codes "record")
    (place_rule (codes "listen") ∷ place_rule (codes "address") ∷ place_rule (codes "directory")
    ∷ number_rule (codes "count") COUNT_MAX ∷ flag_rule (codes "explain") ∷ [])

-- the program, which wants a subcommand
abbrev pub top_app : App
top_app =
    let base = new_app (codes "milter_tool") in
    record base { top = record base.top { has_version = true; subcommand_required = true } }

-- with the subcommands that only read files
abbrev pub reading_app : App
reading_app = with_subcommand (with_subcommand (with_subcommand top_app trace_app.top) session_app.top) rules_app.top

-- with those that are a filter's end
abbrev pub filtering_app : App
filtering_app =
    with_subcommand (with_subcommand (with_subcommand reading_app answer_app.top) filter_app.top) serve_app.top

-- with those that play a mail server's end
abbrev pub playing_app : BorrowedWords → App
playing_app losses =
    with_subcommand (with_subcommand (with_subcommand filtering_app (mta_app losses).top) (play_app losses).top)
    replay_app.top

-- the whole command line
abbrev pub tool_app : BorrowedWords → App
tool_app losses =
    with_subcommand (with_subcommand (with_subcommand (playing_app losses) load_app.top) probe_app.top) record_app.top
