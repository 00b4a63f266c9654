-- What a session that is played to a filter in memory leaves, where the bytes of its writer are known.
use Rattle.std.specs.Prelude.{◌≡◌, ◌≤◌, ◌+◌, ◌⊎◌, ℕ, true, All, List, length, min, Option}
use Rattle.std.specs.Io.KnownBytes.{Appends}
use Rattle.std.specs.List.{AllZip}
use Rattle.milter_text.specs.WrittenText.{WritesPrefix}
use Rattle.milter_mta.specs.Accounts.{Disposition}
use Rattle.milter_mta_client.specs.ReportsText.{reports_text}
use Rattle.milter_world.specs.declared.event_line.Event.{Event}
use Rattle.milter_world.specs.Schedule.{Scenario, run_reports}
use Rattle.milter_world.specs.DialogueReports.{AreNegotiated, AreReported, HasAllVerdicts, IsRuledBy, negotiated_of, by_reset, by_timeout}
use Rattle.milter_world.specs.DialogueReports.{count_events, count_reports, is_by_verdict, is_known, is_lose, is_timeout, dialogue_about}
use Rattle.milter_world.specs.Outcomes.{ConnectionIsGiven, WereGiven}

-- what became of a session over one connection on which everything arrived
pub record IsPlayed (p : Scenario) (s : Disposition) : Type 0 where
  -- each message has a report, in order, with the outcome that its own dialogue with the filter rules,
  pub dialogues : AllZip (IsRuledBy p) p.session.messages s.messages
  -- with all verdicts of the dialogue,
  pub verdicts : AllZip (HasAllVerdicts p) p.session.messages s.messages
  -- and by the filter's verdict on the message or on its client
  pub causes : All (λ r. is_by_verdict r.settled_by ≡ true) s.messages
  -- the verdict on the connection is there exactly where it settled messages
  pub connection : ConnectionIsGiven s

-- what became of a session while these events happened
pub record IsRun (p : Scenario) (events : List Event) (s : Disposition) : Type 0 where
  -- the reports are exactly those of the schedule that the events make
  pub reports : s.messages ≡ run_reports p events
  -- the first messages are reported, in order, each as its own dialogue rules, or by default after a beginning of it
  pub dialogues : AreReported p p.session.messages s.messages
  -- at most one report is by default for each loss,
  pub resets : count_reports by_reset s.messages ≤ count_events is_lose events
  -- and at most one for each timeout;
  pub timeouts : count_reports by_timeout s.messages ≤ count_events is_timeout events
  -- and no report has another cause than these, and the filter's verdicts on the message or on its client
  pub causes : All (λ r. is_known r.settled_by ≡ true) s.messages
  -- at least as many messages are settled as there are losses and timeouts, or all
  pub settles : min (count_events is_lose events + count_events is_timeout events) (length p.session.messages)
      ≤ length s.messages
  -- each verdict that was acted on was given by the filter at this step of this message,
  pub given : WereGiven p p.session.messages s.messages
  -- and each edit of a dialogue was negotiated
  pub edits : All (λ message. All (AreNegotiated (negotiated_of p)) (dialogue_about p message)) p.session.messages
  -- the verdict on the connection is there exactly where it settled messages
  pub connection : ConnectionIsGiven s

-- the reports of such a disposition were written, and nothing else
pub record WritesReports (IsSettled : Disposition → Type 0) (before after : Option (List ℕ)) : Type 0 where
  pub disposition : Disposition
  pub settled : IsSettled disposition
  pub written : Appends before after (reports_text disposition)

-- such a disposition's reports, of which a prefix was written, and nothing else
pub record BeginsReports (IsSettled : Disposition → Type 0) (before after : Option (List ℕ)) : Type 0 where
  pub disposition : Disposition
  pub settled : IsSettled disposition
  pub begun : WritesPrefix (reports_text disposition) before after

-- nothing was written, or a prefix of such reports
abbrev pub WritesAtMost : (Disposition → Type 0) → Option (List ℕ) → Option (List ℕ) → Type 0
WritesAtMost IsSettled before after = (after ≡ before) ⊎ BeginsReports IsSettled before after
