-- Whatever was negotiated, no more is sent of a message than it weighs.
use Rattle.std.proofs.Common.{◌≡◌, ◌≤◌, ℕ, ◌+◌, Bool, true, false, List, [], ◌∷◌, ◌++◌, length, Option, None, Some, arith, length-append, if◌then◌else◌}
use Rattle.std.specs.List.{flat_map}
use Rattle.std.proofs.lemmas.List.Concat.{flat_map-cons}
use Rattle.std.proofs.lemmas.List.Sums.{sum_by-cons, sum_by_push}
use Rattle.milter_wire.specs.declared.codes.TheConstants.{SMFIC_BODYEOB, SMFIC_CONNECT, SMFIC_DATA, SMFIC_EOH, SMFIC_HELO, SMFIC_MAIL, SMFIC_RCPT}
use Rattle.milter_wire.specs.declared.macro_stage.TheConstants.{SMFIM_CONNECT, SMFIM_DATA, SMFIM_ENVFROM, SMFIM_ENVRCPT, SMFIM_EOH, SMFIM_EOM, SMFIM_HELO}
use Rattle.milter_wire.specs.declared.symbol_lists.SymList.{SymList}
use Rattle.milter_fields.specs.declared.header.Header.{Header}
use Rattle.milter_fields.specs.declared.pair.Pair.{Pair}
use Rattle.milter_fields.specs.Layout.{pair}
use Rattle.milter_wire.specs.declared.negotiation.Negotiated.{Negotiated}
use Rattle.milter_wire.specs.declared.command.Command.{Command}
use Rattle.milter_wire.specs.declared.command.Command.TheVariants as commands
use Rattle.milter_wire.specs.declared.stage.Stage.TheVariants as stages
use Rattle.milter_wire.specs.Negotiation.{has_leading_space, is_sent}
use Rattle.milter_wire.specs.Command.{bytes_of, encoding}
use Rattle.milter_message.specs.LeadingSpace.{sent_header, without_leading_space}
use Rattle.milter_message.specs.MailObject.{MailObject}
use Rattle.milter_message.specs.Chunks.{chunks_of}
use Rattle.milter_mail.specs.ChosenMacros.{list_of, names_of, pairs_by}
use Rattle.milter_mail.specs.MailSession.{MailSession}
use Rattle.milter_mail.specs.Plan.{macros_of, plan}
use Rattle.milter_mail.specs.Steps.{macro_step, step}
use Rattle.milter_mail.specs.Weight.{weight}
use Rattle.milter_mail.proofs.ChosenFit.{bytes, bytes_are, chosen_bytes}
use Rattle.milter_mail.proofs.Weights.{bytes-append, bytes-in_turn, bytes-one, len_of}

-- ---- the macros of a stage

packet_bytes : (code : ℕ) (p : Pair) (pairs : List Pair)
    → bytes_of (macro_step (Some code) (p ∷ pairs)) ≡ bytes (p ∷ pairs) + 6
packet_bytes code p pairs =
    let one = bytes-one (commands.Macro code (p ∷ pairs)) in
    let len = len_of (commands.Macro code (p ∷ pairs)) in
    let all = bytes_are (p ∷ pairs) in
    omega (arith, one, len, all)

-- a pair has two NULs
some_bytes : (p : Pair) (pairs : List Pair) → 1 ≤ bytes (p ∷ pairs)
some_bytes p pairs =
    let s = sum_by-cons (λ p. length (pair p)) p pairs in
    let l = length-append (p.name ++ 0 ∷ []) (p.value ++ 0 ∷ []) in
    let n = length-append p.name (0 ∷ []) in
    omega (arith, s, l, n)

fewer_pairs : (code : ℕ) (chosen pairs : List Pair) → bytes chosen ≤ bytes pairs
    → bytes_of (macro_step (Some code) chosen) ≤ bytes_of (macro_step (Some code) pairs)
fewer_pairs code [] pairs h = omega arith
fewer_pairs code (p ∷ chosen) [] h =
    let some = some_bytes p chosen in
    absurd (omega (arith, h, some))
fewer_pairs code (p ∷ chosen) (q ∷ pairs) h =
    let less = packet_bytes code p chosen in
    let more = packet_bytes code q pairs in
    omega (arith, h, less, more)

by_list : (code : ℕ) (list : Option SymList) (pairs : List Pair)
    → bytes_of (macro_step (Some code) (pairs_by list pairs)) ≤ bytes_of (macro_step (Some code) pairs)
by_list code None pairs = omega arith
by_list code (Some list) pairs = fewer_pairs code (pairs_by (Some list) pairs) pairs (chosen_bytes (names_of list.names) pairs)

-- ---- a command

if_sent : (sent : Bool) (packets : List Command) (command : Command)
    → bytes_of (if sent then packets ++ command ∷ [] else []) ≤ bytes_of packets + length (encoding command)
if_sent true packets command =
    let both = sum_by_push (λ c. length (encoding c)) packets command in
    omega (arith, both)
if_sent false packets command = omega arith

at_most : (sent : Bool) (code : ℕ) (list : Option SymList) (pairs : List Pair) (command : Command)
    → bytes_of (if sent then macro_step (Some code) (pairs_by list pairs) ++ command ∷ [] else [])
    ≤ bytes_of (macro_step (Some code) pairs ++ command ∷ [])
at_most sent code list pairs command =
    let sent = if_sent sent (macro_step (Some code) (pairs_by list pairs)) command in
    let fewer = by_list code list pairs in
    let all = sum_by_push (λ c. length (encoding c)) (macro_step (Some code) pairs) command in
    omega (arith, sent, fewer, all)

each_at_most : {X : Type 0} (f g : X → List Command) → ((x : X) → bytes_of (f x) ≤ bytes_of (g x)) → (xs : List X)
    → bytes_of (flat_map f xs) ≤ bytes_of (flat_map g xs)
each_at_most f g h [] = omega arith
each_at_most f g h (x ∷ xs) =
    let first = h x in
    let others = each_at_most f g h xs in
    let less = bytes-append (f x) (flat_map f xs) in
    let more = bytes-append (g x) (flat_map g xs) in
    rw (flat_map-cons f x xs, flat_map-cons g x xs) (omega (arith, first, others, less, more))

-- ---- a header field

by_first : (b : Bool) (byte : ℕ) (value : List ℕ) → length (if b then value else byte ∷ value) ≤ length (byte ∷ value)
by_first true byte value = omega arith
by_first false byte value = omega arith

shorter : (value : List ℕ) → length (without_leading_space value) ≤ length value
shorter [] = omega arith
shorter (byte ∷ value) = by_first _ byte value

header_len : (header : Header) → length (encoding (commands.Header header)) ≡ length header.name + length header.value + 7
header_len header =
    let len = len_of (commands.Header header) in
    let both = length-append (header.name ++ 0 ∷ []) (header.value ++ 0 ∷ []) in
    let name = length-append header.name (0 ∷ []) in
    let value = length-append header.value (0 ∷ []) in
    omega (arith, len, both, name, value)

header_at_most : (leading_space : Bool) (header : Header)
    → length (encoding (commands.Header (sent_header leading_space header))) ≤ length (encoding (commands.Header header))
header_at_most true header = omega arith
header_at_most false header =
    let sent = header_len (sent_header false header) in
    let whole = header_len header in
    let less = shorter header.value in
    omega (arith, sent, whole, less)

header_step : (sent leading_space : Bool) (header : Header)
    → bytes_of (if sent then [] ++ commands.Header (sent_header leading_space header) ∷ [] else [])
    ≤ bytes_of (commands.Header header ∷ [])
header_step sent leading_space header =
    let one = if_sent sent [] (commands.Header (sent_header leading_space header)) in
    let less = header_at_most leading_space header in
    let whole = bytes-one (commands.Header header) in
    omega (arith, one, less, whole)

chunk_step : (sent : Bool) (chunk : List ℕ)
    → bytes_of (if sent then [] ++ commands.Body chunk ∷ [] else []) ≤ bytes_of (commands.Body chunk ∷ [])
chunk_step sent chunk =
    let one = if_sent sent [] (commands.Body chunk) in
    let whole = bytes-one (commands.Body chunk) in
    omega (arith, one, whole)

-- ---- the plan

pub plan_weight : (negotiated : Negotiated) (session : MailSession) (m : MailObject)
    → bytes_of (plan negotiated session m) ≤ weight session.client session.helo session.macros m
plan_weight negotiated session m =
    let macros = session.macros in
    let chosen = macros_of negotiated session in
    let lists = negotiated.lists in
    let c = at_most (is_sent negotiated stages.Connect) SMFIC_CONNECT (list_of SMFIM_CONNECT lists) macros.connect (commands.Connect session.client) in
    let h = at_most (is_sent negotiated stages.Helo) SMFIC_HELO (list_of SMFIM_HELO lists) macros.helo (commands.Helo session.helo) in
    let s = at_most (is_sent negotiated stages.Mail) SMFIC_MAIL (list_of SMFIM_ENVFROM lists) macros.mail (commands.Mail m.sender) in
    let r = each_at_most (λ recipient. step negotiated chosen stages.Rcpt (commands.Rcpt recipient))
    (λ recipient. macro_step (Some SMFIC_RCPT) macros.rcpt ++ commands.Rcpt recipient ∷ [])
    (λ recipient. at_most (is_sent negotiated stages.Rcpt) SMFIC_RCPT (list_of SMFIM_ENVRCPT lists) macros.rcpt (commands.Rcpt recipient))
    m.recipients in
    let d = at_most (is_sent negotiated stages.DataCmd) SMFIC_DATA (list_of SMFIM_DATA lists) macros.data_cmd commands.DataCmd in
    let l = each_at_most (λ header. step negotiated chosen stages.Header (commands.Header (sent_header (has_leading_space negotiated) header)))
    (λ header. commands.Header header ∷ [])
    (λ header. header_step (is_sent negotiated stages.Header) (has_leading_space negotiated) header)
    m.headers in
    let n = at_most (is_sent negotiated stages.Eoh) SMFIC_EOH (list_of SMFIM_EOH lists) macros.eoh commands.Eoh in
    let b = each_at_most (λ chunk. step negotiated chosen stages.Body (commands.Body chunk))
    (λ chunk. commands.Body chunk ∷ [])
    (λ chunk. chunk_step (is_sent negotiated stages.Body) chunk)
    (chunks_of m.body) in
    let e = at_most (is_sent negotiated stages.Eob) SMFIC_BODYEOB (list_of SMFIM_EOM lists) macros.eom (commands.Eob []) in
    let sent = bytes-in_turn
    (step negotiated chosen stages.Connect (commands.Connect session.client))
    (step negotiated chosen stages.Helo (commands.Helo session.helo))
    (step negotiated chosen stages.Mail (commands.Mail m.sender))
    (flat_map (λ recipient. step negotiated chosen stages.Rcpt (commands.Rcpt recipient)) m.recipients)
    (step negotiated chosen stages.DataCmd commands.DataCmd)
    (flat_map (λ header. step negotiated chosen stages.Header (commands.Header (sent_header (has_leading_space negotiated) header))) m.headers)
    (step negotiated chosen stages.Eoh commands.Eoh)
    (flat_map (λ chunk. step negotiated chosen stages.Body (commands.Body chunk)) (chunks_of m.body))
    (step negotiated chosen stages.Eob (commands.Eob [])) in
    let all = bytes-in_turn
    (macro_step (Some SMFIC_CONNECT) macros.connect ++ commands.Connect session.client ∷ [])
    (macro_step (Some SMFIC_HELO) macros.helo ++ commands.Helo session.helo ∷ [])
    (macro_step (Some SMFIC_MAIL) macros.mail ++ commands.Mail m.sender ∷ [])
    (flat_map (λ recipient. macro_step (Some SMFIC_RCPT) macros.rcpt ++ commands.Rcpt recipient ∷ []) m.recipients)
    (macro_step (Some SMFIC_DATA) macros.data_cmd ++ commands.DataCmd ∷ [])
    (flat_map (λ header. commands.Header header ∷ []) m.headers)
    (macro_step (Some SMFIC_EOH) macros.eoh ++ commands.Eoh ∷ [])
    (flat_map (λ chunk. commands.Body chunk ∷ []) (chunks_of m.body))
    (macro_step (Some SMFIC_BODYEOB) macros.eom ++ commands.Eob [] ∷ []) in
    omega (arith, c, h, s, r, d, l, n, b, e, sent, all)
