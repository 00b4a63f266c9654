-- What comes in two pieces leaves the same as in one.
use Rattle.std.proofs.Common.{◌≡◌, ◌≢◌, ℕ, Bool, true, false, List, [], ◌∷◌, ◌++◌, Option, None, Some, Result, Ok, Err, if◌then◌else◌, is_some, refl, sym, ap, ◌∙◌, subst, arith}
use Rattle.std.specs.List.{fold}
use Rattle.std.proofs.lemmas.Bool.{true≢false}
use Rattle.std.proofs.lemmas.List.Sums.{fold-append}
use Rattle.milter_fields.specs.declared.fault.WireFault.{WireFault}
use Rattle.milter_fields.specs.Stream.{Frame, first_frame, length_fault}
use Rattle.milter_wire.specs.declared.negotiation.Negotiated.{Negotiated}
use Rattle.milter_wire.specs.declared.reply.Reply.{Reply}
use Rattle.milter_wire.specs.declared.stage.Stage.{Stage}
use Rattle.milter_wire.specs.declared.stage.Stage.TheVariants.{Rcpt}
use Rattle.milter_wire.specs.declared.verdict.Verdict.{Verdict}
use Rattle.milter_wire.specs.Frames.{frame_reply}
use Rattle.milter_protocol.specs.declared.answer.Action.{Action}
use Rattle.milter_protocol.specs.declared.answer.Action.TheVariants as actions
use Rattle.milter_mta_outcome.specs.declared.loss.Loss.{Loss}
use Rattle.milter_mta_outcome.specs.declared.loss.Loss.TheVariants.{Fault}
use Rattle.milter_mta_outcome.specs.declared.loss.MtaFault.{MtaFault}
use Rattle.milter_mta_outcome.specs.declared.loss.MtaFault.TheVariants.{Early, NotAtThisStage, Wire}
use Rattle.milter_mta_outcome.specs.ReceivedReplies.{options_received, reply_received}
use Rattle.milter_mta_outcome.specs.EditWeights.{weight_of_all}
use Rattle.milter_mta_connection.specs.declared.channel_state.ExpectedReply.{ExpectedReply}
use Rattle.milter_mta_connection.specs.declared.channel_state.ExpectedReply.TheVariants as expects
use Rattle.milter_mta_connection.specs.declared.filter_event.FilterEvent.{FilterEvent}
use Rattle.milter_mta_connection.specs.declared.filter_event.FilterEvent.TheVariants as events
use Rattle.milter_mta_connection.specs.Channel.{Channel, is_expecting, is_owed, is_owed_by}
use Rattle.milter_mta_connection.specs.Received.{After, byte_at, fails, framed, goes_on, negotiated_on, received, received_as, received_byte, replied, replied_at, unread_is}
use Rattle.milter_mta_connection.specs.ReplyRules.{IsWaiting}
use Rattle.milter_mta_connection.proofs.ReceivedFrames.{early, lost-stays}
use Rattle.milter_mta_connection.specs.Calls.{after, fed_by}
use Rattle.milter_mta_connection.specs.Calls.Call.{Feed}
use Rattle.milter_mta_connection.specs.Connection.{Connection, after_event, closed_by}
use Rattle.milter_mta_connection.specs.Losses.{IsLost}
use Rattle.milter_mta_connection.proofs.LostConnections.{event_channel, fed_lost, stays}

-- ---- the event before it

-- the later of two events, where none came the one before
abbrev pub later : FilterEvent → FilterEvent → FilterEvent
later before events.Nothing = before
later before next = next

abbrev pub with_event : FilterEvent → After → After
with_event before a = record a { event = later before a.event }

-- the loss is the same, and without one so is all but the event
abbrev pub IsLater : FilterEvent → After → After → Type 0
IsLater before a' a = (a'.loss ≡ a.loss) × (a.loss ≡ None → a' ≡ with_event before a)

module _ (b h : FilterEvent) (c : Channel) where
  later-fails : (fault : MtaFault) → IsLater b (fails fault (later b h) c) (fails fault h c)
  later-fails fault = (refl, λ none. absurd cc)

  later-as : (received : Result Action MtaFault) → IsLater b (received_as received (later b h) c) (received_as received h c)
  later-as (Err fault) = later-fails fault
  later-as (Ok (actions.Edit edit)) = (refl, λ none. refl)
  later-as (Ok (actions.Verdict verdict)) = (refl, λ none. refl)

  later-at : (negotiated : Option Negotiated) (stage : Stage) (reply : Reply) → IsLater b (replied_at negotiated stage reply (later b h) c) (replied_at negotiated stage reply h c)
  later-at None stage reply = later-fails NotAtThisStage
  later-at (Some negotiated) stage reply = later-as (reply_received negotiated stage (weight_of_all c.edits) reply)

  later-options : (negotiated : Result Negotiated MtaFault) → IsLater b (negotiated_on negotiated (later b h) c) (negotiated_on negotiated h c)
  later-options (Err fault) = later-fails fault
  later-options (Ok negotiated) = (refl, λ none. refl)

  later-reply : (expected : ExpectedReply) (reply : Reply) → IsLater b (replied expected reply (later b h) c) (replied expected reply h c)
  later-reply expects.Nothing reply = later-fails Early
  later-reply expects.Options reply = later-options (options_received c.offer reply)
  later-reply (expects.Verdict stage) reply = later-at c.negotiated stage reply
  later-reply expects.Unknown reply = later-at c.negotiated Rcpt reply

  later-frame : (reply : Result Reply WireFault) → IsLater b (framed reply (later b h) c) (framed reply h c)
  later-frame (Err fault) = later-fails (Wire fault)
  later-frame (Ok reply) = later-reply c.expected reply

  later-unread : (unread : List ℕ) (fault : Option WireFault) (first : Option (Frame × List ℕ)) → IsLater b (unread_is unread fault first (later b h) c) (unread_is unread fault first h c)
  later-unread unread (Some fault) first = later-fails (Wire fault)
  later-unread unread None None = (refl, λ none. refl)
  later-unread unread None (Some first) = later-frame (frame_reply first.0)

  later-byte : (owed : Bool) (unread : List ℕ)
      → IsLater b (if owed then unread_is unread (length_fault unread) (first_frame unread) (later b h) c else fails Early (later b h) c)
      (if owed then unread_is unread (length_fault unread) (first_frame unread) h c else fails Early h c)
  later-byte true unread = later-unread unread (length_fault unread) (first_frame unread)
  later-byte false unread = later-fails Early

lost-byte : (a : After) (byte : ℕ) (loss : Loss) (is : a.loss ≡ Some loss) → received_byte a byte ≡ a
lost-byte a byte loss is = by a.loss is
  where
    by : (found : Option Loss) → found ≡ Some loss → (if is_some found then a else byte_at a.event a.channel byte) ≡ a
    by None is = absurd cc
    by (Some found) is = refl

later-step : (b : FilterEvent) (a' : After) (h : FilterEvent) (c : Channel) (loss : Option Loss) (byte : ℕ) → IsLater b a' (record { channel = c; event = h; loss = loss })
    → IsLater b (received_byte a' byte) (received_byte (record { channel = c; event = h; loss = loss }) byte)
later-step b a' h c None byte is =
    subst (λ (n : After). IsLater b (received_byte n byte) (received_byte (goes_on h c) byte)) (sym (is.1 refl)) (later-byte b h c (is_owed c) (c.unread ++ byte ∷ []))
later-step b a' h c (Some loss) byte is =
    subst (λ (n : After). IsLater b n (record { channel = c; event = h; loss = Some loss })) (sym (lost-byte a' byte loss is.0)) is

later-all : (b : FilterEvent) (bytes : List ℕ) (a' a : After) → IsLater b a' a → IsLater b (fold received_byte a' bytes) (fold received_byte a bytes)
later-all b [] a' a is = is
later-all b (byte ∷ bytes) a' a is =
    later-all b bytes (received_byte a' byte) (received_byte a byte) (later-step b a' a.event a.channel a.loss byte is)

-- what comes after an event
later-from : (event : FilterEvent) (k : Channel) (bytes : List ℕ) → IsLater event (fold received_byte (goes_on event k) bytes) (received k bytes)
later-from event k bytes = later-all event bytes (goes_on event k) (goes_on events.Nothing k) (refl, λ none. refl)

whole-is : (event : FilterEvent) (k : Channel) (bytes : List ℕ) → (fold received_byte (goes_on event k) bytes).loss ≡ None
    → fold received_byte (goes_on event k) bytes ≡ with_event event (received k bytes)
whole-is event k bytes none = let is = later-from event k bytes in is.1 (sym is.0 ∙ none)

-- ---- what is still expected

-- while a reply is expected, it is this one, and what came last is no answer
abbrev IsSame : ExpectedReply → After → Type 0
IsSame x a = is_expecting a.channel.expected ≡ true → (a.channel.expected ≡ x) × IsWaiting a.event

owed-expects : (expected : ExpectedReply) (pending : List ℕ) → is_owed_by expected pending ≡ true → is_expecting expected ≡ true
owed-expects expected [] owed = owed
owed-expects expected (byte ∷ pending) owed = absurd cc

module _ (x : ExpectedReply) (h : FilterEvent) (c : Channel) (same : IsSame x (goes_on h c)) where
  same-as : (received : Result Action MtaFault) → is_expecting c.expected ≡ true → IsSame x (received_as received h c)
  same-as (Err fault) expecting = λ e. absurd cc
  same-as (Ok (actions.Edit edit)) expecting = λ e. ((same expecting).0, tt)
  same-as (Ok (actions.Verdict verdict)) expecting = λ e. absurd cc

  same-at : (negotiated : Option Negotiated) (stage : Stage) (reply : Reply) → is_expecting c.expected ≡ true → IsSame x (replied_at negotiated stage reply h c)
  same-at None stage reply expecting = λ e. absurd cc
  same-at (Some negotiated) stage reply expecting = same-as (reply_received negotiated stage (weight_of_all c.edits) reply) expecting

  same-options : (negotiated : Result Negotiated MtaFault) → IsSame x (negotiated_on negotiated h c)
  same-options (Err fault) = λ e. absurd cc
  same-options (Ok negotiated) = λ e. absurd cc

  same-reply : (expected : ExpectedReply) (reply : Reply) → is_expecting c.expected ≡ true → IsSame x (replied expected reply h c)
  same-reply expects.Nothing reply expecting = λ e. absurd cc
  same-reply expects.Options reply expecting = same-options (options_received c.offer reply)
  same-reply (expects.Verdict stage) reply expecting = same-at c.negotiated stage reply expecting
  same-reply expects.Unknown reply expecting = same-at c.negotiated Rcpt reply expecting

  same-frame : (reply : Result Reply WireFault) → is_expecting c.expected ≡ true → IsSame x (framed reply h c)
  same-frame (Err fault) expecting = λ e. absurd cc
  same-frame (Ok reply) expecting = same-reply c.expected reply expecting

  same-unread : (unread : List ℕ) (fault : Option WireFault) (first : Option (Frame × List ℕ)) → is_expecting c.expected ≡ true → IsSame x (unread_is unread fault first h c)
  same-unread unread (Some fault) first expecting = λ e. absurd cc
  same-unread unread None None expecting = same
  same-unread unread None (Some first) expecting = same-frame (frame_reply first.0) expecting

  same-byte : (owed : Bool) (unread : List ℕ) → is_owed c ≡ owed
      → IsSame x (if owed then unread_is unread (length_fault unread) (first_frame unread) h c else fails Early h c)
  same-byte true unread owed = same-unread unread (length_fault unread) (first_frame unread) (owed-expects c.expected c.pending owed)
  same-byte false unread owed = λ e. absurd cc

same-step : (x : ExpectedReply) (h : FilterEvent) (c : Channel) (loss : Option Loss) (byte : ℕ) → IsSame x (record { channel = c; event = h; loss = loss })
    → IsSame x (received_byte (record { channel = c; event = h; loss = loss }) byte)
same-step x h c None byte same = same-byte x h c same (is_owed c) (c.unread ++ byte ∷ []) refl
same-step x h c (Some loss) byte same = same

same-all : (x : ExpectedReply) (bytes : List ℕ) (a : After) → IsSame x a → IsSame x (fold received_byte a bytes)
same-all x [] a same = same
same-all x (byte ∷ bytes) a same = same-all x bytes (received_byte a byte) (same-step x a.event a.channel a.loss byte same)

-- ---- one piece after the other

not-owed : (pending : List ℕ) → is_owed_by expects.Nothing pending ≡ false
not-owed [] = refl
not-owed (x ∷ pending) = refl

-- while no reply is expected no event comes
no-event : (c : Channel) (bytes : List ℕ) → c.expected ≡ expects.Nothing → (received c bytes).event ≡ events.Nothing
no-event c [] none = refl
no-event c (byte ∷ bytes) none = ap (λ (a : After). a.event) (early events.Nothing c (byte ∷ bytes) (ap (λ (x : ExpectedReply). is_owed_by x c.pending) none ∙ not-owed c.pending) (omega arith))

-- an event changes the phase and the rank alone
event-over : (x : ExpectedReply) (event : FilterEvent) (c : Connection) (k : Channel) → record (after_event x event c) { channel = k } ≡ after_event x event (record c { channel = k })
event-over (expects.Verdict stage) (events.Verdict verdict) c k = refl
event-over (expects.Verdict stage) events.Nothing c k = refl
event-over (expects.Verdict stage) events.InProgress c k = refl
event-over (expects.Verdict stage) events.Negotiated c k = refl
event-over expects.Unknown (events.Verdict verdict) c k = refl
event-over expects.Unknown events.Nothing c k = refl
event-over expects.Unknown events.InProgress c k = refl
event-over expects.Unknown events.Negotiated c k = refl
event-over expects.Nothing event c k = refl
event-over expects.Options event c k = refl

-- and nothing where it is no answer
waiting-stays : (x : ExpectedReply) (event : FilterEvent) (c : Connection) → IsWaiting event → after_event x event c ≡ c
waiting-stays (expects.Verdict stage) events.Nothing c waits = refl
waiting-stays (expects.Verdict stage) events.InProgress c waits = refl
waiting-stays expects.Unknown events.Nothing c waits = refl
waiting-stays expects.Unknown events.InProgress c waits = refl
waiting-stays expects.Nothing event c waits = refl
waiting-stays expects.Options event c waits = refl
waiting-stays x (events.Verdict verdict) c waits = absurd waits
waiting-stays x events.Negotiated c waits = absurd waits

not-expecting : (x : ExpectedReply) → is_expecting x ≡ false → x ≡ expects.Nothing
not-expecting expects.Nothing e = refl
not-expecting expects.Options e = absurd (true≢false e)
not-expecting (expects.Verdict stage) e = absurd (true≢false e)
not-expecting expects.Unknown e = absurd (true≢false e)

-- an event, and then another one, are the later one
one-event : (x : ExpectedReply) (before next : FilterEvent) (c : Connection) → IsWaiting before
    → after_event x (later before next) c ≡ after_event x next (after_event x before c)
one-event x before events.Nothing c waits =
    waiting-stays x before c waits ∙ sym (waiting-stays x events.Nothing c tt) ∙ ap (after_event x events.Nothing) (sym (waiting-stays x before c waits))
one-event x before next c waits = ap (after_event x next) (sym (waiting-stays x before c waits))

module _ (c : Connection) (k : Channel) (event : FilterEvent) (same : IsSame c.channel.expected (goes_on event k)) (second : List ℕ) where
  abbrev r : After
  r = received k second

  abbrev x : ExpectedReply
  x = c.channel.expected

  abbrev whole : Connection
  whole = record c { channel = r.channel }

  by-expected : (expecting : Bool) → is_expecting k.expected ≡ expecting
      → after_event x (later event r.event) whole ≡ after_event k.expected r.event (after_event x event whole)
  by-expected true e =
      let is = same e in
      one-event x event r.event whole is.1 ∙ ap (λ (y : ExpectedReply). after_event y r.event (after_event x event whole)) (sym is.0)
  by-expected false e =
      let none = not-expecting k.expected e in
      let no = no-event k second none in
      ap (λ (n : FilterEvent). after_event x (later event n) whole) no
      ∙ sym (ap (λ (y : ExpectedReply). after_event y r.event (after_event x event whole)) none)

  then-on : (fold received_byte (goes_on event k) second).loss ≡ None → fed_by (fold received_byte (goes_on event k) second) c ≡ after (Feed second) (after_event x event (record c { channel = k }))
  then-on none =
      let first : Connection = after_event x event (record c { channel = k }) in
      let there : first.channel ≡ k = event_channel x event (record c { channel = k }) in
      ap (λ (a : After). fed_by a c) (whole-is event k second none)
      ∙ ap (closed_by r.loss) (by-expected (is_expecting k.expected) refl)
      ∙ ap (λ (d : Connection). closed_by r.loss (after_event k.expected r.event d)) (sym (event-over x event (record c { channel = k }) r.channel))
      ∙ sym (ap (λ (q : Channel). closed_by (received q second).loss (after_event q.expected (received q second).event (record first { channel = (received q second).channel }))) there)

by-loss : (c : Connection) (k : Channel) (event : FilterEvent) (loss : Option Loss) (second : List ℕ)
    → IsSame c.channel.expected (record { channel = k; event = event; loss = loss }) → (fold received_byte (record { channel = k; event = event; loss = loss }) second).loss ≡ None
    → fed_by (fold received_byte (record { channel = k; event = event; loss = loss }) second) c ≡ after (Feed second) (fed_by (record { channel = k; event = event; loss = loss }) c)
by-loss c k event None second same none = then-on c k event same second none
by-loss c k event (Some loss) second same none =
    let no : Some loss ≡ None = ap (λ (a : After). a.loss) (sym (lost-stays event k loss second)) ∙ none in
    absurd cc

-- without a loss
pub pieces : (c : Connection) (first second : List ℕ) → (received c.channel (first ++ second)).loss ≡ None
    → after (Feed (first ++ second)) c ≡ after (Feed second) (after (Feed first) c)
pieces c first second none =
    let a : After = received c.channel first in
    let joined = fold-append received_byte (goes_on events.Nothing c.channel) first second in
    ap (λ (b : After). fed_by b c) joined
    ∙ by-loss c a.channel a.event a.loss second
    (same-all c.channel.expected first (goes_on events.Nothing c.channel) (λ e. (refl, tt)))
    (ap (λ (b : After). b.loss) (sym joined) ∙ none)

lost-by : (c : Connection) (k : Channel) (event : FilterEvent) (before : Option Loss) (second : List ℕ) (loss : Loss)
    → ((found : Loss) → before ≡ Some found → IsLost (fed_by (record { channel = k; event = event; loss = before }) c))
    → (fold received_byte (record { channel = k; event = event; loss = before }) second).loss ≡ Some loss
    → IsLost (after (Feed second) (fed_by (record { channel = k; event = event; loss = before }) c))
lost-by c k event (Some found) second loss first_lost is =
    (stays (Feed second) (fed_by (record { channel = k; event = event; loss = Some found }) c) (first_lost found refl)).lost
lost-by c k event None second loss first_lost is =
    let here : Connection = after_event c.channel.expected event (record c { channel = k }) in
    let there : here.channel ≡ k = event_channel c.channel.expected event (record c { channel = k }) in
    fed_lost here second loss (ap (λ (q : Channel). (received q second).loss) there ∙ sym (later-from event k second).0 ∙ is)

-- with a loss
pub pieces-lost : (c : Connection) (first second : List ℕ) (loss : Loss) → (received c.channel (first ++ second)).loss ≡ Some loss
    → IsLost (after (Feed second) (after (Feed first) c))
pieces-lost c first second loss is =
    let a : After = received c.channel first in
    let joined = fold-append received_byte (goes_on events.Nothing c.channel) first second in
    lost-by c a.channel a.event a.loss second loss (λ found found_is. fed_lost c first found found_is)
    (ap (λ (b : After). b.loss) (sym joined) ∙ is)

-- ---- a verdict comes with its last byte

-- the first piece gives no answer and no loss, and the second one gives the verdict
pub record ComesLast (first last : After) (verdict : Verdict) (new : Channel) : Type 0 where
  pub waits : IsWaiting first.event
  pub no_loss : first.loss ≡ None
  pub last_is : last ≡ goes_on (events.Verdict verdict) new

last-event : (before next : FilterEvent) (verdict : Verdict) → IsWaiting before → later before next ≡ events.Verdict verdict → next ≡ events.Verdict verdict
last-event before events.Nothing verdict waits is = absurd (subst IsWaiting is waits)
last-event before next verdict waits is = is

comes-last : (x : ExpectedReply) (k : Channel) (event : FilterEvent) (loss : Option Loss) (second : List ℕ) (verdict : Verdict) (new : Channel)
    → IsSame x (record { channel = k; event = event; loss = loss }) → second ≢ []
    → fold received_byte (record { channel = k; event = event; loss = loss }) second ≡ goes_on (events.Verdict verdict) new
    → ComesLast (record { channel = k; event = event; loss = loss }) (received k second) verdict new
comes-last x k event (Some loss) second verdict new same some is =
    let no : Some loss ≡ None = ap (λ (a : After). a.loss) (sym (lost-stays event k loss second) ∙ is) in
    absurd cc
comes-last x k event None second verdict new same some is = by-expected (is_expecting k.expected) refl
  where
    r : After
    r = received k second

    whole : with_event event r ≡ goes_on (events.Verdict verdict) new
    whole = sym (whole-is event k second (ap (λ (a : After). a.loss) is)) ∙ is

    lost-early : (bytes : List ℕ) → bytes ≢ [] → k.expected ≡ expects.Nothing → (received k bytes).loss ≡ Some (Fault Early)
    lost-early [] some none = absurd (some refl)
    lost-early (byte ∷ bytes) some none =
        ap (λ (a : After). a.loss) (early events.Nothing k (byte ∷ bytes) (ap (λ (y : ExpectedReply). is_owed_by y k.pending) none ∙ not-owed k.pending) (omega arith))

    by-expected : (expecting : Bool) → is_expecting k.expected ≡ expecting → ComesLast (goes_on event k) r verdict new
    by-expected true e =
        let waits = (same e).1 in
        let event_is : r.event ≡ events.Verdict verdict = last-event event r.event verdict waits (ap (λ (a : After). a.event) whole) in
        record {
          waits = waits;
          no_loss = refl;
          last_is =
              ap (λ (n : FilterEvent). record r { event = n }) event_is
              ∙ ap (λ (q : Channel). record r { channel = q; event = events.Verdict verdict }) (ap (λ (a : After). a.channel) whole)
              ∙ ap (λ (l : Option Loss). record { channel = new; event = events.Verdict verdict; loss = l }) (ap (λ (a : After). a.loss) whole);
        }
    by-expected false e =
        let no : Some (Fault Early) ≡ None = sym (lost-early second some (not-expecting k.expected e)) ∙ ap (λ (a : After). a.loss) whole in
        absurd cc

pub verdict-last : (c : Channel) (first second : List ℕ) (verdict : Verdict) (new : Channel) → second ≢ []
    → received c (first ++ second) ≡ goes_on (events.Verdict verdict) new → ComesLast (received c first) (received (received c first).channel second) verdict new
verdict-last c first second verdict new some is =
    let a : After = received c first in
    comes-last c.expected a.channel a.event a.loss second verdict new
    (same-all c.expected first (goes_on events.Nothing c) (λ e. (refl, tt))) some
    (sym (fold-append received_byte (goes_on events.Nothing c) first second) ∙ is)
