-- Each command of a message's plan fits a packet.
use Rattle.std.proofs.Common.{ℕ, ◌*◌, Bool, true, false, List, [], ◌∷◌, ◌++◌, length, drop, All, Some, arith, if◌then◌else◌}
use Rattle.std.specs.List.{flat_map, range_with_len}
use Rattle.std.proofs.lemmas.List.{length-take}
use Rattle.std.proofs.lemmas.List.Concat.{flat_map-cons}
use Rattle.std.proofs.lemmas.List.Elements.{All-append, All-cons, All-head, All-map, All-nil, All-push, All-tail}
use Rattle.milter_wire.specs.declared.codes.TheConstants.{SMFIC_BODYEOB, SMFIC_CONNECT, SMFIC_DATA, SMFIC_EOH, SMFIC_HELO, SMFIC_MAIL, SMFIC_RCPT}
use Rattle.milter_fields.specs.declared.header.Header.{Header}
use Rattle.milter_fields.specs.declared.pair.Pair.{Pair}
use Rattle.milter_wire.specs.declared.negotiation.Negotiated.{Negotiated}
use Rattle.milter_wire.specs.declared.command.Command.{Command}
use Rattle.milter_wire.specs.declared.command.Command.TheVariants as commands
use Rattle.milter_wire.specs.declared.stage.Stage.TheVariants as stages
use Rattle.milter_wire.specs.Negotiation.{has_leading_space, is_sent}
use Rattle.milter_wire.specs.Command.{Fits}
use Rattle.milter_message.specs.declared.message.TheConstants.{CHUNK_LEN}
use Rattle.milter_message.specs.LeadingSpace.{FieldFits, WholeFieldFits, sent_header}
use Rattle.milter_message.specs.MailObject.{MailObject}
use Rattle.milter_message.specs.Chunks.{chunk_at, chunk_count, chunks_of}
use Rattle.milter_mail.specs.MailSession.{IsSendable, MacrosFit, MailSession}
use Rattle.milter_mail.specs.Plan.{macros_of, plan}
use Rattle.milter_mail.specs.Steps.{macro_step, step}
use Rattle.milter_mail.proofs.ChosenFit.{chosen_macros_fit}

-- ---- lists

all_by_each : {X : Type 0} (P : X → Type 0) → ((x : X) → P x) → (xs : List X) → All P xs
all_by_each P h [] = All-nil P
all_by_each P h (x ∷ xs) = All-cons P x xs (h x) (all_by_each P h xs)

each_fits : {X : Type 0} (P : X → Type 0) (f : X → List Command) → ((x : X) → P x → All Fits (f x)) → (xs : List X)
    → All P xs → All Fits (flat_map f xs)
each_fits P f h [] all = All-nil Fits
each_fits P f h (x ∷ xs) all =
    rw (flat_map-cons f x xs) (All-append Fits (f x) (flat_map f xs) (h x (All-head P x xs all)) (each_fits P f h xs (All-tail P x xs all)))

all-in_turn : (o p a b c d e f g : List Command) → All Fits o → All Fits p → All Fits a → All Fits b → All Fits c → All Fits d
    → All Fits e → All Fits f → All Fits g → All Fits (o ++ p ++ (a ++ b ++ c ++ d ++ e ++ f ++ g))
all-in_turn o p a b c d e f g ho hp ha hb hc hd he hf hg =
    let h2 = All-append Fits a b ha hb in
    let h3 = All-append Fits (a ++ b) c h2 hc in
    let h4 = All-append Fits (a ++ b ++ c) d h3 hd in
    let h5 = All-append Fits (a ++ b ++ c ++ d) e h4 he in
    let h6 = All-append Fits (a ++ b ++ c ++ d ++ e) f h5 hf in
    let h7 = All-append Fits (a ++ b ++ c ++ d ++ e ++ f) g h6 hg in
    All-append Fits (o ++ p) (a ++ b ++ c ++ d ++ e ++ f ++ g) (All-append Fits o p ho hp) h7

-- ---- a command, after the macros of its stage

macros_fit : (code : ℕ) (pairs : List Pair) → Fits (commands.Macro code pairs) → All Fits (macro_step (Some code) pairs)
macros_fit code [] h = All-nil Fits
macros_fit code (p ∷ pairs) h = All-cons Fits (commands.Macro code (p ∷ pairs)) [] h (All-nil Fits)

if_sent : (sent : Bool) (packets : List Command) (command : Command) → All Fits packets → Fits command
    → All Fits (if sent then packets ++ command ∷ [] else [])
if_sent true packets command h k = All-push Fits packets command h k
if_sent false packets command h k = All-nil Fits

step_fits : (sent : Bool) (code : ℕ) (pairs : List Pair) (command : Command) → Fits (commands.Macro code pairs) → Fits command
    → All Fits (if sent then macro_step (Some code) pairs ++ command ∷ [] else [])
step_fits sent code pairs command h k = if_sent sent (macro_step (Some code) pairs) command (macros_fit code pairs h) k

-- a header field may be sent either way, with the blank of its value or without
fields_fit : (leading_space : Bool) (headers : List Header) → All FieldFits headers → All WholeFieldFits headers
    → All (λ header. Fits (commands.Header (sent_header leading_space header))) headers
fields_fit true headers without whole = whole
fields_fit false headers without whole = without

-- ---- a body

-- a chunk has at most as many bytes as a payload
chunk_fits : (body : List ℕ) (k : ℕ) → Fits (commands.Body (chunk_at body k))
chunk_fits body k = record {
  fields = tt;
  payload = let taken = length-take CHUNK_LEN (drop (CHUNK_LEN * k) body) in omega (arith, taken);
}

chunks_fit : (body : List ℕ) → All (λ chunk. Fits (commands.Body chunk)) (chunks_of body)
chunks_fit body =
    All-map (λ chunk. Fits (commands.Body chunk)) (chunk_at body) (range_with_len 0 (chunk_count (length body)))
    (all_by_each (λ k. Fits (commands.Body (chunk_at body k))) (chunk_fits body) (range_with_len 0 (chunk_count (length body))))

-- ---- the plan

pub plan_fits : (negotiated : Negotiated) (session : MailSession) (m : MailObject) → Fits (commands.Connect session.client)
    → Fits (commands.Helo session.helo) → MacrosFit session.macros → IsSendable session.client session.helo session.macros m
    → All Fits (plan negotiated session m)
plan_fits negotiated session m client helo macros sendable =
    let chosen = macros_of negotiated session in
    let fit : MacrosFit chosen = chosen_macros_fit negotiated.lists session.macros macros in
    let data_cmd : Fits commands.DataCmd = record { fields = tt; payload = omega arith } in
    let eoh : Fits commands.Eoh = record { fields = tt; payload = omega arith } in
    let eob : Fits (commands.Eob []) = record { fields = tt; payload = omega arith } in
    let c = step_fits (is_sent negotiated stages.Connect) SMFIC_CONNECT chosen.connect (commands.Connect session.client) fit.connect client in
    let h = step_fits (is_sent negotiated stages.Helo) SMFIC_HELO chosen.helo (commands.Helo session.helo) fit.helo helo in
    let s = step_fits (is_sent negotiated stages.Mail) SMFIC_MAIL chosen.mail (commands.Mail m.sender) fit.mail sendable.whole.sender in
    let r = each_fits (λ recipient. Fits (commands.Rcpt recipient))
    (λ recipient. step negotiated chosen stages.Rcpt (commands.Rcpt recipient))
    (λ recipient fits. step_fits (is_sent negotiated stages.Rcpt) SMFIC_RCPT chosen.rcpt (commands.Rcpt recipient) fit.rcpt fits)
    m.recipients
    sendable.whole.recipients in
    let d = step_fits (is_sent negotiated stages.DataCmd) SMFIC_DATA chosen.data_cmd commands.DataCmd fit.data_cmd data_cmd in
    let l = each_fits (λ header. Fits (commands.Header (sent_header (has_leading_space negotiated) header)))
    (λ header. step negotiated chosen stages.Header (commands.Header (sent_header (has_leading_space negotiated) header)))
    (λ header fits. if_sent (is_sent negotiated stages.Header) [] (commands.Header (sent_header (has_leading_space negotiated) header)) (All-nil Fits) fits)
    m.headers
    (fields_fit (has_leading_space negotiated) m.headers sendable.whole.headers sendable.whole_fields) in
    let n = step_fits (is_sent negotiated stages.Eoh) SMFIC_EOH chosen.eoh commands.Eoh fit.eoh eoh in
    let b = each_fits (λ chunk. Fits (commands.Body chunk))
    (λ chunk. step negotiated chosen stages.Body (commands.Body chunk))
    (λ chunk fits. if_sent (is_sent negotiated stages.Body) [] (commands.Body chunk) (All-nil Fits) fits)
    (chunks_of m.body)
    (chunks_fit m.body) in
    let e = step_fits (is_sent negotiated stages.Eob) SMFIC_BODYEOB chosen.eom (commands.Eob []) fit.eom eob in
    all-in_turn
    (step negotiated chosen stages.Connect (commands.Connect session.client))
    (step negotiated chosen stages.Helo (commands.Helo session.helo))
    (step negotiated chosen stages.Mail (commands.Mail m.sender))
    (flat_map (λ recipient. step negotiated chosen stages.Rcpt (commands.Rcpt recipient)) m.recipients)
    (step negotiated chosen stages.DataCmd commands.DataCmd)
    (flat_map (λ header. step negotiated chosen stages.Header (commands.Header (sent_header (has_leading_space negotiated) header))) m.headers)
    (step negotiated chosen stages.Eoh commands.Eoh)
    (flat_map (λ chunk. step negotiated chosen stages.Body (commands.Body chunk)) (chunks_of m.body))
    (step negotiated chosen stages.Eob (commands.Eob []))
    c h s r d l n b e
