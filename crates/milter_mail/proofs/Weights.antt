-- The weight of a message is the sum of its parts' weights.
use Rattle.std.proofs.Common.{◌≡◌, ℕ, zero, suc, ◌+◌, ◌*◌, ◌≤◌, All, List, [], ◌∷◌, ◌++◌, length, min, map, drop, Some, refl, sym, subst, ◌∙◌, arith}
use Rattle.std.specs.List.{flat_map, range_with_len, sum_by}
use Rattle.std.proofs.lemmas.List.{length-take, length-drop}
use Rattle.std.proofs.lemmas.List.Concat.{flat_map-cons}
use Rattle.std.proofs.lemmas.List.Elements.{All-weaker}
use Rattle.std.proofs.lemmas.List.FromFn.{sum_by-map-range_with_len_more}
use Rattle.std.proofs.lemmas.List.Sums.{sum_by-append, sum_by-cons, sum_by_push}
use Rattle.milter_message.specs.declared.message.TheConstants.{CHUNK_LEN}
use Rattle.milter_message.specs.declared.message.TheConstants.{WEIGHT_MAX}
use Rattle.milter_wire.specs.declared.codes.TheConstants.{SMFIC_BODYEOB, SMFIC_CONNECT, SMFIC_DATA, SMFIC_EOH, SMFIC_HELO, SMFIC_MAIL, SMFIC_RCPT}
use Rattle.milter_fields.specs.declared.client.Client.{Client}
use Rattle.milter_wire.specs.declared.command.Command.{Command}
use Rattle.milter_wire.specs.declared.command.Command.TheVariants as commands
use Rattle.milter_fields.specs.declared.header.Header.{Header}
use Rattle.milter_fields.specs.declared.pair.Pair.{Pair}
use Rattle.milter_fields.specs.declared.path.Path.{Path}
use Rattle.milter_wire.specs.Command.{bytes_of, payload_of, encoding}
use Rattle.milter_fields.specs.Number.{number}
use Rattle.milter_mail.specs.Macros.{Macros}
use Rattle.milter_message.specs.MailObject.{MailObject}
use Rattle.milter_mail.specs.MailSession.{IsSendable}
use Rattle.milter_message.specs.Chunks.{chunk_at, chunk_count, chunks_of}
use Rattle.milter_mail.specs.Steps.{macro_step}
use Rattle.milter_mail.specs.Weight.{weight}
use Rattle.milter_mail.specs.declared.weight.Overhead.{Overhead}
use Rattle.milter_mail.specs.WeightParts.{body_weight, common_weight, macros_weight, opening_weight, parts_weight, IsOverhead, IsSendableWith}

len : Command → ℕ
len command = length (encoding command)

-- the length and the code are five bytes
pub len_of : (command : Command) → length (encoding command) ≡ length (payload_of command) + 5
unfolding number
len_of command = omega arith

pub bytes-append : (xs ys : List Command) → bytes_of (xs ++ ys) ≡ bytes_of xs + bytes_of ys
bytes-append xs ys = sum_by-append (λ command. length (encoding command)) xs ys

bytes-each : {X : Type 0} (f : X → List Command) (g : X → ℕ) → ((x : X) → bytes_of (f x) ≡ g x) → (xs : List X) → bytes_of (flat_map f xs) ≡ sum_by g xs
bytes-each f g e [] = refl
bytes-each f g e (x ∷ xs) =
    rw (flat_map-cons f x xs, bytes-append (f x) (flat_map f xs), sum_by-cons g x xs, bytes-each f g e xs, e x) refl

pub bytes-one : (command : Command) → bytes_of (command ∷ []) ≡ length (encoding command)
bytes-one command = omega arith

-- a command after its macros
bytes-step : (code : ℕ) (pairs : List Pair) (command : Command) → bytes_of (macro_step (Some code) pairs ++ command ∷ []) ≡ macros_weight code pairs + length (encoding command)
bytes-step code pairs command = sum_by_push (λ c. length (encoding c)) (macro_step (Some code) pairs) command

-- ---- the chunks of a body

first_chunks : (body : List ℕ) (n : ℕ) → sum_by (λ chunk. length (encoding (commands.Body chunk))) (map (chunk_at body) (range_with_len 0 n)) ≡ min (CHUNK_LEN * n) (length body) + 5 * n
first_chunks body zero = omega arith
first_chunks body (suc n) =
    let more = sum_by-map-range_with_len_more (λ chunk. length (encoding (commands.Body chunk))) (chunk_at body) 0 n n (omega arith) in
    let before = first_chunks body n in
    let one = len_of (commands.Body (chunk_at body n)) in
    let taken = length-take CHUNK_LEN (drop (CHUNK_LEN * n) body) in
    let dropped = length-drop (CHUNK_LEN * n) body in
    let next : suc n ≡ n + 1 = omega arith in
    subst (λ k. sum_by (λ chunk. length (encoding (commands.Body chunk))) (map (chunk_at body) (range_with_len 0 k)) ≡ min (CHUNK_LEN * k) (length body) + 5 * k)
    (sym next)
    (omega (arith, more, before, one, taken, dropped))

body-bytes : (body : List ℕ) → bytes_of (flat_map (λ chunk. commands.Body chunk ∷ []) (chunks_of body)) ≡ body_weight (length body)
body-bytes body =
    let each = bytes-each (λ chunk. commands.Body chunk ∷ []) (λ chunk. length (encoding (commands.Body chunk))) (λ chunk. bytes-one (commands.Body chunk)) (chunks_of body) in
    each ∙ first_chunks body (chunk_count (length body)) ∙ omega arith

-- ---- the whole

recipients-bytes : (macros : Macros) (paths : List Path) → bytes_of (flat_map (λ path. macro_step (Some SMFIC_RCPT) macros.rcpt ++ commands.Rcpt path ∷ []) paths) ≡ sum_by (λ path. macros_weight SMFIC_RCPT macros.rcpt + length (encoding (commands.Rcpt path))) paths
recipients-bytes macros paths =
    bytes-each (λ path. macro_step (Some SMFIC_RCPT) macros.rcpt ++ commands.Rcpt path ∷ []) (λ path. macros_weight SMFIC_RCPT macros.rcpt + length (encoding (commands.Rcpt path))) (λ path. bytes-step SMFIC_RCPT macros.rcpt (commands.Rcpt path)) paths

headers-bytes : (headers : List Header) → bytes_of (flat_map (λ header. commands.Header header ∷ []) headers) ≡ sum_by (λ header. length (encoding (commands.Header header))) headers
headers-bytes headers = bytes-each (λ header. commands.Header header ∷ []) (λ header. length (encoding (commands.Header header))) (λ header. bytes-one (commands.Header header)) headers

pub bytes-in_turn : (o p a b c d e f g : List Command) → bytes_of (o ++ p ++ (a ++ b ++ c ++ d ++ e ++ f ++ g)) ≡ bytes_of o + bytes_of p + bytes_of a + bytes_of b + bytes_of c + bytes_of d + bytes_of e + bytes_of f + bytes_of g
bytes-in_turn o p a b c d e f g =
    let h0 = bytes-append (o ++ p) (a ++ b ++ c ++ d ++ e ++ f ++ g) in
    let h1 = bytes-append o p in
    let h2 = bytes-append (a ++ b ++ c ++ d ++ e ++ f) g in
    let h3 = bytes-append (a ++ b ++ c ++ d ++ e) f in
    let h4 = bytes-append (a ++ b ++ c ++ d) e in
    let h5 = bytes-append (a ++ b ++ c) d in
    let h6 = bytes-append (a ++ b) c in
    let h7 = bytes-append a b in
    omega (arith, h0, h1, h2, h3, h4, h5, h6, h7)

pub weight-sum : (client : Client) (helo : List ℕ) (macros : Macros) (m : MailObject) → weight client helo macros m ≡ (opening_weight client helo macros + common_weight macros) + parts_weight (macros_weight SMFIC_RCPT macros.rcpt) m
weight-sum client helo macros m =
    let step1 = bytes-step SMFIC_CONNECT macros.connect (commands.Connect client) in
    let step2 = bytes-step SMFIC_HELO macros.helo (commands.Helo helo) in
    let step3 = bytes-step SMFIC_MAIL macros.mail (commands.Mail m.sender) in
    let step4 = recipients-bytes macros m.recipients in
    let step5 = bytes-step SMFIC_DATA macros.data_cmd commands.DataCmd in
    let step6 = headers-bytes m.headers in
    let step7 = bytes-step SMFIC_EOH macros.eoh commands.Eoh in
    let step8 = body-bytes m.body in
    let step9 = bytes-step SMFIC_BODYEOB macros.eom (commands.Eob []) in
    let data_cmd = len_of commands.DataCmd in
    let eoh = len_of commands.Eoh in
    let eom = len_of (commands.Eob []) in
    bytes-in_turn
    (macro_step (Some SMFIC_CONNECT) macros.connect ++ commands.Connect client ∷ [])
    (macro_step (Some SMFIC_HELO) macros.helo ++ commands.Helo helo ∷ [])
    (macro_step (Some SMFIC_MAIL) macros.mail ++ commands.Mail m.sender ∷ [])
    (flat_map (λ path. macro_step (Some SMFIC_RCPT) macros.rcpt ++ commands.Rcpt path ∷ []) m.recipients)
    (macro_step (Some SMFIC_DATA) macros.data_cmd ++ commands.DataCmd ∷ [])
    (flat_map (λ header. commands.Header header ∷ []) m.headers)
    (macro_step (Some SMFIC_EOH) macros.eoh ++ commands.Eoh ∷ [])
    (flat_map (λ chunk. commands.Body chunk ∷ []) (chunks_of m.body))
    (macro_step (Some SMFIC_BODYEOB) macros.eom ++ commands.Eob [] ∷ [])
    ∙ omega (arith, step1, step2, step3, step4, step5, step6, step7, step8, step9, data_cmd, eoh, eom)

-- ---- a session

sendable_with : (client : Client) (helo : List ℕ) (macros : Macros) (o : Overhead) → IsOverhead client helo macros o → (m : MailObject) → IsSendable client helo macros m → IsSendableWith o m
sendable_with client helo macros o h m sendable =
    let sum = weight-sum client helo macros m in
    record {
      whole = sendable.whole;
      has_recipient = sendable.has_recipient;
      whole_fields = sendable.whole_fields;
      weight = rw (h.recipient_is, h.message_is) (omega (arith, sum, sendable.weight_fits));
    }

sendable : (client : Client) (helo : List ℕ) (macros : Macros) (o : Overhead) → IsOverhead client helo macros o → (m : MailObject) → IsSendableWith o m → IsSendable client helo macros m
sendable client helo macros o h m with_overhead =
    let sum = weight-sum client helo macros m in
    let fits : o.message + parts_weight (macros_weight SMFIC_RCPT macros.rcpt) m ≤ WEIGHT_MAX = subst (λ n. o.message + parts_weight n m ≤ WEIGHT_MAX) h.recipient_is with_overhead.weight in
    record {
      whole = with_overhead.whole;
      has_recipient = with_overhead.has_recipient;
      whole_fields = with_overhead.whole_fields;
      weight_fits = omega (arith, sum, h.message_is, fits);
    }

pub all_sendable_with : (client : Client) (helo : List ℕ) (macros : Macros) (o : Overhead) (messages : List MailObject) → IsOverhead client helo macros o
    → All (IsSendable client helo macros) messages → All (IsSendableWith o) messages
all_sendable_with client helo macros o messages h = All-weaker (IsSendable client helo macros) (IsSendableWith o) (sendable_with client helo macros o h) messages

pub all_sendable : (client : Client) (helo : List ℕ) (macros : Macros) (o : Overhead) (messages : List MailObject) → IsOverhead client helo macros o
    → All (IsSendableWith o) messages → All (IsSendable client helo macros) messages
all_sendable client helo macros o messages h = All-weaker (IsSendableWith o) (IsSendable client helo macros) (sendable client helo macros o h) messages
