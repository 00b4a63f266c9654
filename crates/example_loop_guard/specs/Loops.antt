-- A filter that refuses mail that loops: each mail server that takes a message adds a header field `Received` to it.
use Rattle.std.specs.Prelude.{ℕ, ◌+◌, nat_lt, Bool, List, [], ◌∷◌, codes, length, if◌then◌else◌}
use Rattle.std.specs.List.{filter}
use Rattle.std.specs.Str.{str_eq_ignore_ascii_case}
use Rattle.milter_fields.specs.declared.header.Header.{Header}
use Rattle.milter_wire.specs.declared.options.TheConstants.Actions.{ADDHDRS}
use Rattle.milter_wire.specs.declared.options.TheConstants.Protocol.{NOBODY, NOCONNECT, NODATA, NOEOH, NOHELO, NOMAIL, NORCPT, NOUNKNOWN, NR_HDR}
use Rattle.milter_wire.specs.declared.stage.Stage.{Stage}
use Rattle.milter_wire.specs.declared.stage.Stage.TheVariants.{Eob}
use Rattle.milter_wire.specs.declared.verdict.Verdict.TheVariants.{Code, Continue}
use Rattle.milter_message.specs.declared.edit.Edit.TheVariants.{AddHeader}
use Rattle.milter_protocol.specs.Behavior.{Behavior}
use Rattle.milter_protocol.specs.Seen.{Seen}
use Rattle.milter_protocol.specs.declared.answer.Answer.{Answer}
use Rattle.milter_protocol.specs.declared.permitted.TheConstants.{VERSION_MAX}

-- by its name, without regard to ASCII case
abbrev pub is_received : Header → Bool
is_received header = str_eq_ignore_ascii_case header.name (codes "Received")

-- how many mail servers a message has come through
abbrev pub hops : Seen → ℕ
hops seen = length (filter is_received seen.headers)

abbrev pub too_many_hops : List ℕ
too_many_hops = codes "554 5.4.6 Too many hops"

abbrev pub refused : Answer
refused = record { edits = []; verdict = Code too_many_hops }

abbrev pub mark : Header
mark = record { name = codes "X-Loop-Guard"; value = codes "passed" }

abbrev pub passed : Answer
passed = record { edits = AddHeader mark ∷ []; verdict = Continue }

-- the answer at the end of a message, and at the other stages
abbrev pub answer_at : Stage → Seen → Answer
answer_at Eob seen = if nat_lt 50 (hops seen) then refused else passed
answer_at other seen = record { edits = []; verdict = Continue }

-- the other stages aren't sent, and header fields aren't answered
abbrev pub not_needed : ℕ
not_needed =
    NOCONNECT.0 + NOHELO.0 + NOMAIL.0 + NORCPT.0 + NODATA.0 + NOUNKNOWN.0 + NR_HDR.0 + NOEOH.0 + NOBODY.0

abbrev pub loop_guard : Behavior
loop_guard =
    record {
      wants = record { version = VERSION_MAX; actions = ADDHDRS; protocol = record { 0 = not_needed } };
      lists = [];
      decide = answer_at;
    }
