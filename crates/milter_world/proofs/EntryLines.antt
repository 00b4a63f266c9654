-- The lines of a list of entries, the last of which is not answered.
use Rattle.std.proofs.Common.{◌≡◌, ◌≢◌, ℕ, ◌+◌, ◌-◌, ◌≤◌, ◌<◌, Bool, true, false, if◌then◌else◌, List, [], ◌∷◌, ◌++◌, length, map, refl, ◌∙◌, ap, arith, append-nil, length-append}
use Rattle.std.proofs.lemmas.List.Concat.{flat_map-cons}
use Rattle.milter_fields.specs.Number.{number}
use Rattle.milter_wire.specs.declared.options.Options.{Options}
use Rattle.milter_wire.specs.declared.negotiation.Negotiated.{Negotiated}
use Rattle.milter_wire.specs.declared.command.Command.{Command}
use Rattle.milter_wire.specs.declared.command.Command.TheVariants as commands
use Rattle.milter_wire.specs.Negotiation.{negotiate}
use Rattle.milter_wire.specs.Command.{code_of, encoding, payload_of}
use Rattle.milter_message.specs.MailObject.{MailObject}
use Rattle.milter_mail.specs.MailSession.{MailSession}
use Rattle.milter_mail.specs.Plan.{macros_of, plan}
use Rattle.milter_mail.specs.Steps.{message_steps}
use Rattle.milter_protocol.specs.Behavior.{Behavior}
use Rattle.milter_protocol.specs.Exchanges.{Exchange, onto}
use Rattle.milter_protocol.specs.Dialogue.{dialogue_with}
use Rattle.milter_mta_outcome.specs.declared.outcome.Report.{Report}
use Rattle.milter_mta.specs.Lines.{Line, abort_line, line_of, offer_line, quit_line}
use Rattle.milter_mta.specs.Sessions.{lines_after, lines_from, session_lines}
use Rattle.milter_mta.specs.Settled.{ends_with_client, ends_with_message}
use Rattle.milter_mta.specs.Dialogues.{opening_of}
use Rattle.milter_world.specs.ByteCounts.{due, to_filter, to_mta}
use Rattle.milter_world.specs.ConnectionEntries.{Entry, entries_after, entries_from, entry_of, exchange_entries, lines_of, reports_of, connection_entries}
use Rattle.milter_world.proofs.CountedBytes.{by_lt, due-past, due-wait, positive}

-- ---- the lines of the entries

lines-append : (xs ys : List Entry) → lines_of (xs ++ ys) ≡ lines_of xs ++ lines_of ys
lines-append [] ys = refl
lines-append (x ∷ xs) ys = ap (λ (l : List Line). x.line ∷ l) (lines-append xs ys)

exchange-lines : (reports : List Report) (left : List MailObject) (more dialogue : List Exchange) → lines_of (exchange_entries reports left dialogue more) ≡ map line_of more
exchange-lines reports left [] dialogue = refl
exchange-lines reports left (e ∷ []) dialogue = refl
exchange-lines reports left (e ∷ next ∷ more) dialogue = ap (λ (l : List Line). line_of e ∷ l) (exchange-lines reports left (next ∷ more) (e ∷ dialogue))

after-lines : (w : List Exchange) (left : List MailObject) (next : List Entry) → lines_of (entries_after w left next) ≡ lines_after w (lines_of next)
after-lines w left next = by_client (ends_with_client w) (ends_with_message w)
  where
    by_client : (client over : Bool) → lines_of (if client then entry_of quit_line [] [] ∷ [] else (if over then next else entry_of abort_line left (opening_of w) ∷ next))
        ≡ (if client then quit_line ∷ [] else (if over then lines_of next else abort_line ∷ lines_of next))
    by_client true over = refl
    by_client false true = refl
    by_client false false = refl

module _ (b : Behavior) (negotiated : Negotiated) (s : MailSession) where
  from-lines : (messages : List MailObject) (message : MailObject) (dialogue : List Exchange) (left : List Command)
      → lines_of (entries_from b negotiated s message messages dialogue left) ≡ lines_from b negotiated s messages dialogue left
  from-lines [] message dialogue left =
      let more = dialogue_with b negotiated dialogue left in
      lines-append (exchange_entries (reports_of negotiated (onto more dialogue) message []) (message ∷ []) dialogue more) (entries_after (onto more dialogue) [] (entry_of quit_line [] [] ∷ []))
      ∙ ap (λ (l : List Line). l ++ lines_of (entries_after (onto more dialogue) [] (entry_of quit_line [] [] ∷ []))) (exchange-lines (reports_of negotiated (onto more dialogue) message []) (message ∷ []) more dialogue)
      ∙ ap (λ (l : List Line). map line_of more ++ l) (after-lines (onto more dialogue) [] (entry_of quit_line [] [] ∷ []))
  from-lines (next ∷ messages) message dialogue left =
      let more = dialogue_with b negotiated dialogue left in
      let steps = message_steps negotiated (macros_of negotiated s) next in
      let rest = entries_from b negotiated s next messages (opening_of (onto more dialogue)) steps in
      lines-append (exchange_entries (reports_of negotiated (onto more dialogue) message (next ∷ messages)) (message ∷ next ∷ messages) dialogue more) (entries_after (onto more dialogue) (next ∷ messages) rest)
      ∙ ap (λ (l : List Line). l ++ lines_of (entries_after (onto more dialogue) (next ∷ messages) rest)) (exchange-lines (reports_of negotiated (onto more dialogue) message (next ∷ messages)) (message ∷ next ∷ messages) more dialogue)
      ∙ ap (λ (l : List Line). map line_of more ++ l) (after-lines (onto more dialogue) (next ∷ messages) rest)
      ∙ ap (λ (l : List Line). map line_of more ++ lines_after (onto more dialogue) l) (from-lines messages next (opening_of (onto more dialogue)) steps)

pub lines-are : (b : Behavior) (offer : Options) (s : MailSession) (messages : List MailObject) → lines_of (connection_entries b offer s messages) ≡ session_lines b offer s messages
lines-are b offer s [] = refl
lines-are b offer s (message ∷ messages) =
    ap (λ (l : List Line). offer_line offer (negotiate offer b.wants b.lists) ∷ l)
    (from-lines b (negotiate offer b.wants b.lists) s messages message [] (plan (negotiate offer b.wants b.lists) s message))

-- ---- the last packet is not answered

abbrev Last : List Line → Type 0
Last [] = ⊥
Last (line ∷ []) = line.back ≡ []
Last (line ∷ next ∷ more) = Last (next ∷ more)

abbrev AllHaveOut : List Line → Type 0
AllHaveOut [] = Unit {0}
AllHaveOut (line ∷ lines) = (line.out ≢ []) × AllHaveOut lines

last-append : (xs ys : List Line) → Last ys → Last (xs ++ ys)
last-append [] ys e = e
last-append (x ∷ xs) ys e = by_more (xs ++ ys) (last-append xs ys e)
  where
    by_more : (l : List Line) → Last l → Last (x ∷ l)
    by_more [] e = absurd e
    by_more (y ∷ l) e = e

outs-append : (xs ys : List Line) → AllHaveOut xs → AllHaveOut ys → AllHaveOut (xs ++ ys)
outs-append [] ys a b = b
outs-append (x ∷ xs) ys a b = (a.0, outs-append xs ys a.1 b)

-- a packet has bytes
pub some_bytes : (command : Command) → encoding command ≢ []
some_bytes command none =
    let is = length-append (number (length (payload_of command) + 1)) (code_of command ∷ payload_of command) in
    let no = ap (λ (l : List ℕ). length l) none in
    absurd (omega (arith, is, no))

outs-exchanges : (more : List Exchange) → AllHaveOut (map line_of more)
outs-exchanges [] = tt
outs-exchanges (e ∷ more) = (some_bytes e.command, outs-exchanges more)

record Quits (lines : List Line) : Type 0 where
  last : Last lines
  outs : AllHaveOut lines

quits-after : (w : List Exchange) (next : List Line) → Quits next → Quits (lines_after w next)
quits-after w next q = by_client (ends_with_client w) (ends_with_message w)
  where
    by_client : (client over : Bool) → Quits (if client then quit_line ∷ [] else (if over then next else abort_line ∷ next))
    by_client true over = record { last = refl; outs = (some_bytes commands.Quit, tt) }
    by_client false true = q
    by_client false false = record { last = last-append (abort_line ∷ []) next q.last; outs = (some_bytes commands.Abort, q.outs) }

quits-exchanges : (more : List Exchange) (next : List Line) → Quits next → Quits (map line_of more ++ next)
quits-exchanges more next q = record { last = last-append (map line_of more) next q.last; outs = outs-append (map line_of more) next (outs-exchanges more) q.outs }

module _ (b : Behavior) (negotiated : Negotiated) (s : MailSession) where
  quits-from : (messages : List MailObject) (dialogue : List Exchange) (left : List Command) → Quits (lines_from b negotiated s messages dialogue left)
  quits-from [] dialogue left =
      quits-exchanges (dialogue_with b negotiated dialogue left) _ (quits-after (onto (dialogue_with b negotiated dialogue left) dialogue) (quit_line ∷ []) (record { last = refl; outs = (some_bytes commands.Quit, tt) }))
  quits-from (next ∷ messages) dialogue left =
      let w = onto (dialogue_with b negotiated dialogue left) dialogue in
      quits-exchanges (dialogue_with b negotiated dialogue left) _
      (quits-after w (lines_from b negotiated s messages (opening_of w) (message_steps negotiated (macros_of negotiated s) next)) (quits-from messages (opening_of w) (message_steps negotiated (macros_of negotiated s) next)))

due-all : (lines : List Line) (h : ℕ) → Quits lines → due lines h ≡ length (to_filter lines) → length (to_mta lines) ≤ h
due-all [] h q e = absurd q.last
due-all (line ∷ []) h q e = let b = ap length (flat_map-cons (λ l. l.back) line [] ∙ append-nil line.back ∙ q.last) in omega arith
due-all (line ∷ next ∷ more) h q e =
    let f = ap length (flat_map-cons (λ l. l.out) line (next ∷ more)) in
    let fa = length-append line.out (to_filter (next ∷ more)) in
    let m = ap length (flat_map-cons (λ l. l.back) line (next ∷ more)) in
    let ma = length-append line.back (to_mta (next ∷ more)) in
    by_lt h (length line.back)
    (λ wait.
    let d = due-wait line (next ∷ more) h wait in
    let g = ap length (flat_map-cons (λ l. l.out) next more) in
    let ga = length-append next.out (to_filter more) in
    let s = positive next.out q.outs.1.0 in
    absurd (let c : 0 < 0 = omega arith in omega arith))
    (λ past.
    let d = due-past line (next ∷ more) h past in
    let r = due-all (next ∷ more) (h - length line.back) (record { last = q.last; outs = q.outs.1 }) (omega arith) in
    omega arith)

pub session-ends : (b : Behavior) (offer : Options) (s : MailSession) (messages : List MailObject) (h : ℕ)
    → due (session_lines b offer s messages) h ≡ length (to_filter (session_lines b offer s messages)) → length (to_mta (session_lines b offer s messages)) ≤ h
session-ends b offer s [] h e = omega arith
session-ends b offer s (message ∷ messages) h e =
    let g = negotiate offer b.wants b.lists in
    let q = quits-from b g s messages [] (plan g s message) in
    due-all (session_lines b offer s (message ∷ messages)) h
    (record { last = last-append (offer_line offer g ∷ []) (lines_from b g s messages [] (plan g s message)) q.last; outs = (some_bytes (commands.Options offer), q.outs) }) e
