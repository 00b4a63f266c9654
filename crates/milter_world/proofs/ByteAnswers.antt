-- A filter answers over bytes as it does over commands.
use Rattle.std.proofs.Common.{◌≡◌, ℕ, ◌+◌, ◌-◌, ◌≤◌, ◌<◌, List, [], ◌∷◌, ◌++◌, map, Ok, refl, sym, ◌∙◌, ap, subst, arith, length, take, drop, append-nil, length-append, length-drop, take-append-drop, take_all, All, rules}
use Rattle.std.proofs.lemmas.List.Elements.{All-nil}
use Rattle.std.specs.List.{flat_map}
use Rattle.std.proofs.lemmas.Bool.{le-leb, lt-leb}
use Rattle.std.proofs.lemmas.List.{take-append-le}
use Rattle.std.proofs.lemmas.List.Concat.{flat_map-cons, flat_map-append}
use Rattle.std.proofs.Math.Seq.{take-append-add}
use Rattle.milter_fields.specs.Stream.{Division, IsUnfinished, divide, length_fault}
use Rattle.milter_fields.proofs.StreamLaws.{divide-unfinished, length_fault-unfinished, prefix-unfinished}
use Rattle.milter_wire.specs.declared.command.Command.{Command}
use Rattle.milter_wire.specs.Command.{Fits, encoding}
use Rattle.milter_wire.specs.Frames.{command_frame, frame_command, frames_and}
use Rattle.milter_wire.specs.Reply as replied
use Rattle.milter_protocol.specs.declared.stage_order.CommandOrder.{CommandOrder}
use Rattle.milter_protocol.specs.Aborts.{AreTakenAlike}
use Rattle.milter_protocol.specs.Behavior.{Behavior}
use Rattle.milter_protocol.specs.FilterEnds.{FilterEnd, Received, after, next, replies, replies_at, start}
use Rattle.milter_protocol.specs.declared.filter_fault.FilterState.{FilterState}
use Rattle.milter_protocol.specs.declared.filter_fault.FilterState.TheVariants.{Failed, Quit, Serving}
use Rattle.milter_protocol.specs.OrderStates.{OrderState, fresh, fresh_in, order_state_after, order_state_at, order_state_of, order_state_replies}
use Rattle.milter_mta.specs.Lines.{Line}
use Rattle.milter_filter_stream.specs.Streams.{fault_after, received_in}
use Rattle.milter_world.specs.ByteCounts.{owed, to_filter, to_mta}
use Rattle.milter_world.proofs.CountedBytes.{by_lt}
use Rattle.milter_world.specs.Answered.{AnswersLines, Replies}

take-past : {A : Type 0} (xs ys : List A) (n : ℕ) → length xs ≤ n → take n (xs ++ ys) ≡ xs ++ take (n - length xs) ys
take-past xs ys n le =
    let i : n ≡ length xs + (n - length xs) = omega arith in
    ap (λ k. take k (xs ++ ys)) i ∙ take-append-add xs ys (n - length xs)

-- ---- what is received

-- the laws of the wire
abbrev pub FramesCompute : Type 0
FramesCompute = (cs : List Command) (more : List ℕ) → All Fits cs → divide (flat_map encoding cs ++ more) ≡ frames_and (map command_frame cs) more

abbrev pub FramesReadBack : Type 0
FramesReadBack = (c : Command) → Fits c → frame_command (command_frame c) ≡ Ok c

nothing-received : (bytes : List ℕ) → IsUnfinished bytes → received_in bytes ≡ []
nothing-received bytes u =
    ap (λ (d : Division). map frame_command d.frames ++ fault_after (length_fault d.rest)) (divide-unfinished bytes u)
    ∙ ap fault_after (length_fault-unfinished bytes u)

-- some bytes are left of a packet
part-unfinished : (c : Command) → Fits c → (n : ℕ) → n < length (encoding c) → IsUnfinished (take n (encoding c))
part-unfinished c fits n less = by_rest (drop n (encoding c)) refl
  where
    by_rest : (rest : List ℕ) → drop n (encoding c) ≡ rest → IsUnfinished (take n (encoding c))
    by_rest [] e = let d = length-drop n (encoding c) in let k = ap length e in absurd (let h : 0 < 0 = omega arith in omega arith)
    by_rest (y ∷ more) e =
        prefix-unfinished (take n (encoding c)) (y ∷ more) (command_frame c) fits.payload (λ none. absurd cc)
        (ap (λ (l : List ℕ). take n (encoding c) ++ l) (sym e) ∙ take-append-drop n (encoding c))

module _ (compute : FramesCompute) (read_back : FramesReadBack) where
  one-received : (c : Command) → Fits c → (more : List ℕ) → received_in (encoding c ++ more) ≡ Ok c ∷ received_in more
  one-received c fits more =
      let one : flat_map encoding (c ∷ []) ++ more ≡ encoding c ++ more =
      ap (λ (l : List ℕ). l ++ more) (flat_map-cons encoding c [] ∙ append-nil (encoding c)) in
      let d : divide (encoding c ++ more) ≡ frames_and (command_frame c ∷ []) more = ap divide (sym one) ∙ compute (c ∷ []) more (All-one c fits) in
      ap (λ (d : Division). map frame_command d.frames ++ fault_after (length_fault d.rest)) d
      ∙ ap (λ (r : Received). r ∷ (map frame_command (divide more).frames ++ fault_after (length_fault (divide more).rest))) (read_back c fits)
    where
      All-one : (c : Command) → Fits c → All Fits (c ∷ [])
      All-one c fits = search (rules, fits, All-nil Fits)

  -- ---- byte by byte

  module _ (b : Behavior) where
    abbrev written : FilterEnd → List ℕ → List ℕ
    written c bytes = flat_map replied.encoding (replies b c (received_in bytes))

    none-written : (c : FilterEnd) (bytes : List ℕ) → received_in bytes ≡ [] → written c bytes ≡ []
    none-written c bytes e = ap (λ (r : List Received). flat_map replied.encoding (replies b c r)) e

    one-written : (c : FilterEnd) (command : Command) → Fits command → (more : List ℕ)
        → written c (encoding command ++ more) ≡ flat_map replied.encoding (replies_at b c (Ok command)) ++ written (next b c (Ok command)) more
    one-written c command fits more =
        ap (λ (r : List Received). flat_map replied.encoding (replies b c r)) (one-received command fits more)
        ∙ flat_map-append replied.encoding (replies_at b c (Ok command)) (replies b (next b c (Ok command)) (received_in more))

    pub record AnswersAt (c : FilterEnd) (lines : List Line) (taken : ℕ) : Type 0 where
      pub replied : written c (take taken (to_filter lines)) ≡ take (owed lines taken) (to_mta lines)
      pub serves : taken < length (to_filter lines) → (after b c (received_in (take taken (to_filter lines)))).state ≡ Serving
      pub alike : AreTakenAlike b c (received_in (take taken (to_filter lines)))

    pub answers : (lines : List Line) (c new : FilterEnd) → Replies b c lines new → (taken : ℕ) → AnswersAt c lines taken
    answers [] c new r taken =
        let none : take taken [] ≡ [] = take_all {A = ℕ} taken [] (omega arith) in
        record {
          replied = none-written c (take taken []) (ap received_in none ∙ nothing-received [] tt);
          serves = λ less. absurd (let h : taken < 0 = less in omega arith);
          alike = subst (AreTakenAlike b c) (sym (ap received_in none ∙ nothing-received [] tt)) tt;
        }
    answers (line ∷ lines) c new r taken =
        let x = r.0 in
        let rest = answers lines (next b c (Ok x.command)) new r.1 (taken - length line.out) in
        let out = flat_map-cons (λ l. l.out) line lines in
        let back = flat_map-cons (λ l. l.back) line lines in
        let same = ap length x.out_is in
        by_lt taken (length line.out)
        (λ less.
        let part : take taken (to_filter (line ∷ lines)) ≡ take taken (encoding x.command) =
        ap (take taken) out ∙ take-append-le taken line.out (to_filter lines) (omega arith) ∙ ap (take taken) x.out_is in
        let none : received_in (take taken (to_filter (line ∷ lines))) ≡ [] =
        ap received_in part ∙ nothing-received (take taken (encoding x.command)) (part-unfinished x.command x.fits taken (omega arith)) in
        let owes : owed (line ∷ lines) taken ≡ 0 = rw (lt-leb (length line.out) taken less) refl in
        record {
          replied = none-written c (take taken (to_filter (line ∷ lines))) none ∙ ap (λ (n : ℕ). take n (to_mta (line ∷ lines))) (sym owes);
          serves = λ some. ap (λ (r : List Received). (after b c r).state) none ∙ x.serving;
          alike = subst (AreTakenAlike b c) (sym none) tt;
        })
        (λ whole.
        let more = take (taken - length line.out) (to_filter lines) in
        let part : take taken (to_filter (line ∷ lines)) ≡ encoding x.command ++ more =
        ap (take taken) out ∙ take-past line.out (to_filter lines) taken whole ∙ ap (λ (l : List ℕ). l ++ more) x.out_is in
        let owes : owed (line ∷ lines) taken ≡ length line.back + owed lines (taken - length line.out) = rw (le-leb (length line.out) taken whole) refl in
        let n : length line.back + owed lines (taken - length line.out) - length line.back ≡ owed lines (taken - length line.out) = omega arith in
        record {
          replied =
              ap (written c) part
              ∙ one-written c x.command x.fits more
              ∙ ap (λ (l : List ℕ). l ++ written (next b c (Ok x.command)) more) (sym x.back_is)
              ∙ ap (λ (l : List ℕ). line.back ++ l) rest.replied
              ∙ ap (λ (k : ℕ). line.back ++ take k (to_mta lines)) (sym n)
              ∙ sym (take-past line.back (to_mta lines) (length line.back + owed lines (taken - length line.out)) (omega arith))
              ∙ ap (λ (k : ℕ). take k (line.back ++ to_mta lines)) (sym owes)
              ∙ ap (take (owed (line ∷ lines) taken)) (sym back);
          serves = λ some.
              ap (λ (l : List ℕ). (after b c (received_in l)).state) part
              ∙ ap (λ (r : List Received). (after b c r).state) (one-received x.command x.fits more)
              ∙ rest.serves (let k = ap length out in let a = length-append line.out (to_filter lines) in omega arith);
          alike = subst (AreTakenAlike b c) (sym (ap received_in part ∙ one-received x.command x.fits more))
              (x.alike, rest.alike);
        })

    -- ---- as a filter's core keeps it

    abbrev pub OrderStateIs : Type 0
    OrderStateIs = (b : Behavior) (c : FilterEnd) (received : List Received) → order_state_of b (after b c received) ≡ order_state_after b (order_state_of b c) received

    abbrev pub OrderStateReplies : Type 0
    OrderStateReplies = (b : Behavior) (c : FilterEnd) (received : List Received) → replies b c received ≡ order_state_replies b (order_state_of b c) received

    state-of : (c : FilterEnd) → (order_state_of b c).state ≡ c.state
    state-of c = by_state c.state
      where
        by_state : (s : FilterState) → (order_state_at b c.transcript s).state ≡ s
        by_state Serving = refl
        by_state Quit = refl
        by_state (Failed fault) = refl

    -- in both orders the same
    pub record AreTheSame : Type 0 where
      pub state : (order : CommandOrder) (received : List Received) → AreTakenAlike b start received
          → (order_state_after b (fresh_in order) received).state ≡ (order_state_after b fresh received).state
      pub replies : (order : CommandOrder) (received : List Received) → AreTakenAlike b start received → order_state_replies b (fresh_in order) received ≡ order_state_replies b fresh received

    pub answers-lines : OrderStateIs → OrderStateReplies → order_state_of b start ≡ fresh → AreTheSame
        → (order : CommandOrder) (lines : List Line) (new : FilterEnd) → Replies b start lines new → AnswersLines order b lines
    answers-lines order_state_is replies_are begins same order lines new r =
        record {
          replied = λ taken.
              ap (flat_map replied.encoding) (same.replies order (received_in (take taken (to_filter lines))) (answers lines start new r taken).alike)
              ∙ ap (λ (s : OrderState). flat_map replied.encoding (order_state_replies b s (received_in (take taken (to_filter lines))))) (sym begins)
              ∙ ap (flat_map replied.encoding) (sym (replies_are b start (received_in (take taken (to_filter lines)))))
              ∙ (answers lines start new r taken).replied;
          serves = λ taken less.
              same.state order (received_in (take taken (to_filter lines))) (answers lines start new r taken).alike
              ∙ ap (λ (s : OrderState). (order_state_after b s (received_in (take taken (to_filter lines)))).state) (sym begins)
              ∙ ap (λ (s : OrderState). s.state) (sym (order_state_is b start (received_in (take taken (to_filter lines)))))
              ∙ state-of (after b start (received_in (take taken (to_filter lines))))
              ∙ (answers lines start new r taken).serves less;
        }
