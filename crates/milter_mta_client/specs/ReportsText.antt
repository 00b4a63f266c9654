-- How what became of a session's messages is written: for each message a line, one for each verdict that was acted on,
-- and the text of a message that is released; and before the first message that a verdict on the client settled a line
-- for that verdict.
use Rattle.std.specs.Prelude.{ℕ, suc, Bool, true, false, List, [], ◌∷◌, ◌++◌, codes, decimal, Option, None, Some, option_map}
use Rattle.std.specs.List.{flat_map}
use Rattle.milter_wire.specs.declared.verdict.Verdict.{Verdict}
use Rattle.milter_wire.specs.declared.verdict.Verdict.TheVariants.{Code}
use Rattle.milter_wire.specs.Stages.{name_of}
use Rattle.milter_wire.specs.Verdicts.{verdict_name}
use Rattle.milter_mail.specs.HeldText.{held_text, line_of}
use Rattle.milter_mta_outcome.specs.declared.acted_verdicts.Acted.{Acted}
use Rattle.milter_mta_outcome.specs.declared.loss.By.{By}
use Rattle.milter_mta_outcome.specs.declared.loss.By.TheVariants.{Filter, Connection, Default}
use Rattle.milter_mta_outcome.specs.declared.loss.Loss.TheVariants.{Reset, Timeout, Memory, Fault}
use Rattle.milter_mta_outcome.specs.declared.outcome.Outcome.{Outcome}
use Rattle.milter_mta_outcome.specs.declared.outcome.Outcome.TheVariants.{Released, Discarded, Refused, NoRecipients, RefusedAtConnection}
use Rattle.milter_mta_outcome.specs.declared.outcome.Report.{Report}
use Rattle.milter_mta_outcome.specs.Losses.{is_by_client, mta_fault_number}
use Rattle.milter_mta_outcome.specs.Refusals.{refusal_text}
use Rattle.milter_mta_outcome.specs.TransactionVerdicts.{last_verdict}
use Rattle.milter_mta.specs.Accounts.{Disposition}

-- a word and a number in decimal, and a blank after each
abbrev pub numbered : List ℕ → ℕ → List ℕ
numbered word number = word ++ (32 ∷ decimal number ++ 32 ∷ [])

-- the last words of a line: a verdict, and the text of a code
abbrev pub verdict_line : Verdict → List ℕ
verdict_line (Code text) = line_of (codes "code") (text ∷ [])
verdict_line verdict = line_of (verdict_name verdict) []

abbrev pub connection_line : Option Verdict → List ℕ
connection_line None = []
connection_line (Some verdict) = codes "connection " ++ verdict_line verdict

-- the stage of the verdict, which of the stage's commands it is on, and the verdict
abbrev pub acted_line : Acted → List ℕ
acted_line acted = codes "acted " ++ (numbered (name_of acted.stage) acted.nth ++ verdict_line acted.verdict)

-- what settled a message, and a blank after each word
abbrev pub by_words : By → List ℕ
by_words Filter = codes "filter "
by_words Connection = codes "connection "
by_words (Default Reset) = codes "default reset "
by_words (Default Timeout) = codes "default timeout "
by_words (Default Memory) = codes "default memory "
by_words (Default (Fault fault)) = numbered (codes "default fault") (mta_fault_number fault)

-- the last words of a line: what became of a message, and the reply to a client whose message is refused
abbrev pub outcome_line : Outcome → List ℕ
outcome_line (Released held) = line_of (codes "released") []
outcome_line Discarded = line_of (codes "discarded") []
outcome_line (Refused refusal) = line_of (codes "refused") (refusal_text refusal ∷ [])
outcome_line NoRecipients = line_of (codes "no-recipients") []
outcome_line RefusedAtConnection = line_of (codes "refused-at-connection") []

abbrev pub message_line : ℕ → Report → List ℕ
message_line number report =
    numbered (codes "message") number ++ (by_words report.settled_by ++ outcome_line report.outcome)

-- the text of the message, if it is released
abbrev pub released_text : Outcome → List ℕ
released_text (Released held) = held_text held
released_text other = []

-- the lines of the message with this number
abbrev pub report_lines : ℕ → Report → List ℕ
report_lines number report = message_line number report ++ flat_map acted_line report.acted

-- The verdict on the client that settled a message, its last one, unless its line stands already: unless it is named.
unfoldable pub named_verdict : Bool → Bool → List Acted → Option Verdict
named_verdict false true acted = option_map (λ last. last.verdict) (last_verdict acted)
named_verdict is_named is_by_client acted = None

-- the lines of the message with this number, after that of the verdict on the client
abbrev pub settled_lines : Bool → ℕ → Report → List ℕ
settled_lines is_named number report =
    connection_line (named_verdict is_named (is_by_client report.settled_by) report.acted)
    ++ report_lines number report

unfoldable pub report_text : Bool → ℕ → Report → List ℕ
report_text is_named number report = settled_lines is_named number report ++ released_text report.outcome

-- the texts of messages that are numbered from this number on
unfoldable pub texts_from : ℕ → Bool → List Report → List ℕ
texts_from number is_named [] = []
texts_from number is_named (report ∷ reports) =
    report_text is_named number report ++ texts_from (suc number) (is_by_client report.settled_by) reports

-- the messages are numbered from 1
abbrev pub reports_text : Disposition → List ℕ
reports_text s = texts_from 1 false s.messages
