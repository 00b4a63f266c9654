-- What is negotiated of the least that rules want: what the rules need is sent and answered as before, and nothing else
-- is new.
use Rattle.std.proofs.Common.{◌≡◌, ℕ, ◌==◌, min, max, Bool, true, false, not, ◌&&◌, ◌||◌, List, [], ◌∷◌, bit_and, bit_or, fold, Option, None, Some, refl, sym, ap, ◌∙◌, subst, arith, eqb-true, eq-eqb, if◌then◌else◌}
use Rattle.std.specs.Int.Bits.{and_zero_l, or_add_and}
use Rattle.std.specs.List.{list_all}
use Rattle.std.proofs.lemmas.Bool.{and_parts, not-false, not-true, not_from_true, not_from_false, true≢false}
use Rattle.std.proofs.lemmas.Nat.{and_assoc, and_comm, and_le_l, and_le_r, and_or_apart}
use Rattle.std.proofs.lemmas.Nat.Bits.{bit_at_and, bit_at_or, same_from_bits}
use Rattle.std.specs.Int.{bit_at}
use Rattle.milter_wire.specs.declared.options.Options.{Options}
use Rattle.milter_wire.specs.declared.options.Protocol.{Protocol}
use Rattle.milter_wire.specs.declared.options.TheConstants.Protocol.{HDR_LEADSPC, SKIP}
use Rattle.milter_wire.specs.declared.negotiation.Negotiated.{Negotiated}
use Rattle.milter_wire.specs.declared.stage.Stage.{Stage}
use Rattle.milter_wire.specs.declared.stage.Stage.TheVariants.{Connect, Helo, Mail, Rcpt, DataCmd, Header, Eoh, Body, Eob}
use Rattle.milter_wire.specs.Negotiation.{has, has_bit, is_answered, is_of_version, is_sent, negotiate}
use Rattle.milter_wire.specs.Stages.{all_stages, not_answered_of, not_sent_of}
use Rattle.milter_filter_rules.specs.declared.rule_list.StageRules.{StageRules}
use Rattle.milter_filter_rules.specs.LeastWants.{bit_unless, is_least_asked, is_least_sent, least_protocol, least_wants, left_out_at, unknown_left_out}
use Rattle.milter_filter_rules.specs.RuleSet.{RuleSet}
use Rattle.milter_filter_rules.specs.StageRules.{is_stage}

-- ---- sets of bits

least_of_most : (x y z : ℕ) → min x (max y z) ≡ max (min x y) (min x z)
least_of_most x y z = omega arith

and_or : (set a b : ℕ) → bit_and set (bit_or a b) ≡ bit_or (bit_and set a) (bit_and set b)
and_or set a b =
    same_from_bits (bit_and set (bit_or a b)) (bit_or (bit_and set a) (bit_and set b)) (λ i.
    bit_at_and set (bit_or a b) i
    ∙ ap (λ n. min (bit_at set i) n) (bit_at_or a b i)
    ∙ least_of_most (bit_at set i) (bit_at a i) (bit_at b i)
    ∙ sym (
    bit_at_or (bit_and set a) (bit_and set b) i
    ∙ ap (λ n. max n (bit_at (bit_and set b) i)) (bit_at_and set a i)
    ∙ ap (λ n. max (min (bit_at set i) (bit_at a i)) n) (bit_at_and set b i)
    ))

or_none : (a b : ℕ) → bit_or a b ≡ 0 → a ≡ 0
or_none a b e = let sum = or_add_and a b in let l = and_le_l a b in let r = and_le_r a b in omega (arith, e, sum, l, r)

-- a part of a set that has none of these bits where the set has none
less_none : (a b mask : ℕ) → bit_and (bit_or a b) mask ≡ 0 → bit_and a mask ≡ 0
less_none a b mask e =
    and_comm a mask
    ∙ or_none (bit_and mask a) (bit_and mask b) (sym (and_or mask a b) ∙ and_comm mask (bit_or a b) ∙ e)

-- two sets that have none of these bits have none together
none_together : (a b mask : ℕ) → bit_and a mask ≡ 0 → bit_and b mask ≡ 0 → bit_and (bit_or a b) mask ≡ 0
none_together a b mask e f = and_or_apart mask a b f ∙ e

module _ (also_sent : List Stage) (rules : StageRules) where
  abbrev more : ℕ → List Stage → ℕ
  more bits these = fold (λ bits stage. bit_or bits (left_out_at also_sent rules stage)) bits these

  fold_none : (mask bits : ℕ) (these : List Stage) → bit_and (more bits these) mask ≡ 0 → bit_and bits mask ≡ 0
  fold_none mask bits [] e = e
  fold_none mask bits (stage ∷ these) e =
      less_none bits (left_out_at also_sent rules stage) mask
      (fold_none mask (bit_or bits (left_out_at also_sent rules stage)) these e)

  fold_apart : (mask : ℕ) → ((stage : Stage) → bit_and (left_out_at also_sent rules stage) mask ≡ 0) → (bits : ℕ)
      (these : List Stage) → bit_and (more bits these) mask ≡ bit_and bits mask
  fold_apart mask apart bits [] = refl
  fold_apart mask apart bits (stage ∷ these) =
      fold_apart mask apart (bit_or bits (left_out_at also_sent rules stage)) these
      ∙ and_or_apart mask bits (left_out_at also_sent rules stage) (apart stage)

-- ---- the bit of one stage is no other's

abbrev is_apart : ℕ → Option Protocol → Bool
is_apart mask None = true
is_apart mask (Some bit) = bit_and bit.0 mask == 0

abbrev bit_of : Option Protocol → ℕ
bit_of bit = bit_unless false bit

unless_apart : (mask : ℕ) (needed : Bool) (bit : Option Protocol) → is_apart mask bit ≡ true
    → bit_and (bit_unless needed bit) mask ≡ 0
unless_apart mask true bit e = and_zero_l mask
unless_apart mask false None e = and_zero_l mask
unless_apart mask false (Some bit) e = eqb-true _ 0 e

needed_apart : (mask : ℕ) (needed : Bool) (bit : Option Protocol) → needed ≡ true
    → bit_and (bit_unless needed bit) mask ≡ 0
needed_apart mask needed bit e = ap (λ (b : Bool). bit_and (bit_unless b bit) mask) e ∙ and_zero_l mask

at_each : (test : Stage → Bool) → list_all test all_stages ≡ true → (stage : Stage) → test stage ≡ true
at_each test all stage =
    let c1 = and_parts (test Connect) _ all in
    let c2 = and_parts (test Helo) _ c1.1 in
    let c3 = and_parts (test Mail) _ c2.1 in
    let c4 = and_parts (test Rcpt) _ c3.1 in
    let c5 = and_parts (test DataCmd) _ c4.1 in
    let c6 = and_parts (test Header) _ c5.1 in
    let c7 = and_parts (test Eoh) _ c6.1 in
    let c8 = and_parts (test Body) _ c7.1 in
    let c9 = and_parts (test Eob) _ c8.1 in
    by_stage c1.0 c2.0 c3.0 c4.0 c5.0 c6.0 c7.0 c8.0 c9.0 stage
  where
    by_stage : test Connect ≡ true → test Helo ≡ true → test Mail ≡ true → test Rcpt ≡ true → test DataCmd ≡ true
        → test Header ≡ true → test Eoh ≡ true → test Body ≡ true → test Eob ≡ true → (stage : Stage)
        → test stage ≡ true
    by_stage a b c d e f g h i Connect = a
    by_stage a b c d e f g h i Helo = b
    by_stage a b c d e f g h i Mail = c
    by_stage a b c d e f g h i Rcpt = d
    by_stage a b c d e f g h i DataCmd = e
    by_stage a b c d e f g h i Header = f
    by_stage a b c d e f g h i Eoh = g
    by_stage a b c d e f g h i Body = h
    by_stage a b c d e f g h i Eob = i

same_stage : (one other : Stage) → is_stage one other ≡ true → one ≡ other
same_stage Connect Connect e = refl
same_stage Helo Helo e = refl
same_stage Mail Mail e = refl
same_stage Rcpt Rcpt e = refl
same_stage DataCmd DataCmd e = refl
same_stage Header Header e = refl
same_stage Eoh Eoh e = refl
same_stage Body Body e = refl
same_stage Eob Eob e = refl
same_stage one other e = absurd (true≢false (sym e))

abbrev apart_unsent : Stage → Stage → Bool
apart_unsent one other =
    (is_stage one other || is_apart (bit_of (not_sent_of one)) (not_sent_of other))
    && is_apart (bit_of (not_sent_of one)) (not_answered_of other)

abbrev apart_unanswered : Stage → Stage → Bool
apart_unanswered one other =
    is_apart (bit_of (not_answered_of one)) (not_sent_of other)
    && (is_stage one other || is_apart (bit_of (not_answered_of one)) (not_answered_of other))

unsent_apart : (one : Stage) → list_all (apart_unsent one) all_stages ≡ true
unsent_apart Connect = refl
unsent_apart Helo = refl
unsent_apart Mail = refl
unsent_apart Rcpt = refl
unsent_apart DataCmd = refl
unsent_apart Header = refl
unsent_apart Eoh = refl
unsent_apart Body = refl
unsent_apart Eob = refl

unanswered_apart : (one : Stage) → list_all (apart_unanswered one) all_stages ≡ true
unanswered_apart Connect = refl
unanswered_apart Helo = refl
unanswered_apart Mail = refl
unanswered_apart Rcpt = refl
unanswered_apart DataCmd = refl
unanswered_apart Header = refl
unanswered_apart Eoh = refl
unanswered_apart Body = refl
unanswered_apart Eob = refl

unknown_apart : (one : Stage)
    → (bit_and unknown_left_out (bit_of (not_sent_of one)) ≡ 0) ×
    (bit_and unknown_left_out (bit_of (not_answered_of one)) ≡ 0)
unknown_apart Connect = (refl, refl)
unknown_apart Helo = (refl, refl)
unknown_apart Mail = (refl, refl)
unknown_apart Rcpt = (refl, refl)
unknown_apart DataCmd = (refl, refl)
unknown_apart Header = (refl, refl)
unknown_apart Eoh = (refl, refl)
unknown_apart Body = (refl, refl)
unknown_apart Eob = (refl, refl)

-- ---- what both ends have

module _ (also_sent : List Stage) (set : RuleSet) (offer : Options) where
  abbrev pub as_it_is : Negotiated
  as_it_is = negotiate offer set.options set.lists

  abbrev pub least : Negotiated
  least = negotiate offer (least_wants also_sent set) set.lists

  abbrev own_bits : ℕ
  own_bits = set.options.protocol.0

  abbrev least_bits : ℕ
  least_bits = (least_protocol also_sent set.options.protocol set.rules).0

  -- none of these bits is among those that were added
  same_bits : (mask : ℕ) → bit_and unknown_left_out mask ≡ 0
      → ((stage : Stage) → bit_and (left_out_at also_sent set.rules stage) mask ≡ 0)
      → bit_and least_bits mask ≡ bit_and own_bits mask
  same_bits mask unknown apart =
      fold_apart also_sent set.rules mask apart (bit_or own_bits unknown_left_out) all_stages
      ∙ and_or_apart mask own_bits unknown_left_out unknown

  -- and so it was negotiated as before
  same_bit : (mask : ℕ) → bit_and unknown_left_out mask ≡ 0
      → ((stage : Stage) → bit_and (left_out_at also_sent set.rules stage) mask ≡ 0)
      → has_bit least.options.protocol.0 mask ≡ has_bit as_it_is.options.protocol.0 mask
  same_bit mask unknown apart =
      ap (λ (n : ℕ). not (n == 0))
      (and_assoc mask offer.protocol.0 least_bits
      ∙ ap (bit_and offer.protocol.0) (same_bits mask unknown apart)
      ∙ sym (and_assoc mask offer.protocol.0 own_bits))

  -- a bit that was negotiated before is negotiated still
  no_bit : (mask : ℕ) → bit_and least.options.protocol.0 mask ≡ 0 → bit_and as_it_is.options.protocol.0 mask ≡ 0
  no_bit mask e =
      turned own_bits
      ∙ less_none own_bits unknown_left_out (bit_and offer.protocol.0 mask)
      (fold_none also_sent set.rules (bit_and offer.protocol.0 mask) (bit_or own_bits unknown_left_out) all_stages
      (sym (turned least_bits) ∙ e))
    where
      turned : (wanted : ℕ) → bit_and (bit_and offer.protocol.0 wanted) mask
          ≡ bit_and wanted (bit_and offer.protocol.0 mask)
      turned wanted =
          ap (λ n. bit_and n mask) (and_comm offer.protocol.0 wanted) ∙ and_assoc mask wanted offer.protocol.0

  has_not : (bit : Option Protocol) → has least bit ≡ false → has as_it_is bit ≡ false
  has_not None e = refl
  has_not (Some bit) e =
      not_from_true (bit_and as_it_is.options.protocol.0 bit.0 == 0)
      (eq-eqb (bit_and as_it_is.options.protocol.0 bit.0) 0 (no_bit bit.0
      (eqb-true (bit_and least.options.protocol.0 bit.0) 0
      (not-false (bit_and least.options.protocol.0 bit.0 == 0) e))))

  -- ---- stages

  needed_sent : (stage : Stage) → is_least_sent also_sent set.rules stage ≡ true → (other : Stage)
      → bit_and (left_out_at also_sent set.rules other) (bit_of (not_sent_of stage)) ≡ 0
  needed_sent stage needed other =
      let mask = bit_of (not_sent_of stage) in
      let both = and_parts (is_stage stage other || is_apart mask (not_sent_of other)) _
      (at_each (apart_unsent stage) (unsent_apart stage) other) in
      none_together _ _ mask (by_same (is_stage stage other) refl both.0)
      (unless_apart mask (is_least_asked set.rules other) (not_answered_of other) both.1)
    where
      by_same : (same : Bool) → is_stage stage other ≡ same
          → (same || is_apart (bit_of (not_sent_of stage)) (not_sent_of other)) ≡ true
          → bit_and (bit_unless (is_least_sent also_sent set.rules other) (not_sent_of other))
          (bit_of (not_sent_of stage)) ≡ 0
      by_same true e apart =
          needed_apart (bit_of (not_sent_of stage)) (is_least_sent also_sent set.rules other) (not_sent_of other)
          (subst (λ (s : Stage). is_least_sent also_sent set.rules s ≡ true) (same_stage stage other e) needed)
      by_same false e apart =
          unless_apart (bit_of (not_sent_of stage)) (is_least_sent also_sent set.rules other) (not_sent_of other) apart

  needed_asked : (stage : Stage) → is_least_asked set.rules stage ≡ true → (other : Stage)
      → bit_and (left_out_at also_sent set.rules other) (bit_of (not_answered_of stage)) ≡ 0
  needed_asked stage needed other =
      let mask = bit_of (not_answered_of stage) in
      let both = and_parts (is_apart mask (not_sent_of other)) _
      (at_each (apart_unanswered stage) (unanswered_apart stage) other) in
      none_together _ _ mask (unless_apart mask (is_least_sent also_sent set.rules other) (not_sent_of other) both.0)
      (by_same (is_stage stage other) refl both.1)
    where
      by_same : (same : Bool) → is_stage stage other ≡ same
          → (same || is_apart (bit_of (not_answered_of stage)) (not_answered_of other)) ≡ true
          → bit_and (bit_unless (is_least_asked set.rules other) (not_answered_of other))
          (bit_of (not_answered_of stage)) ≡ 0
      by_same true e apart =
          needed_apart (bit_of (not_answered_of stage)) (is_least_asked set.rules other) (not_answered_of other)
          (subst (λ (s : Stage). is_least_asked set.rules s ≡ true) (same_stage stage other e) needed)
      by_same false e apart =
          unless_apart (bit_of (not_answered_of stage)) (is_least_asked set.rules other) (not_answered_of other) apart

  has_as_before : (bit : Option Protocol) → bit_and unknown_left_out (bit_of bit) ≡ 0
      → ((stage : Stage) → bit_and (left_out_at also_sent set.rules stage) (bit_of bit) ≡ 0)
      → has least bit ≡ has as_it_is bit
  has_as_before None unknown apart = refl
  has_as_before (Some bit) unknown apart = same_bit bit.0 unknown apart

  pub sent_as_before : (stage : Stage) → is_least_sent also_sent set.rules stage ≡ true
      → is_sent least stage ≡ is_sent as_it_is stage
  sent_as_before stage needed =
      sent_by stage (has_as_before (not_sent_of stage) (unknown_apart stage).0 (needed_sent stage needed))
    where
      sent_by : (stage : Stage) → has least (not_sent_of stage) ≡ has as_it_is (not_sent_of stage)
          → is_sent least stage ≡ is_sent as_it_is stage
      sent_by DataCmd e = ap (λ (b : Bool). if b then false else is_of_version as_it_is DataCmd) e
      sent_by Connect e = ap (λ (b : Bool). if b then false else true) e
      sent_by Helo e = ap (λ (b : Bool). if b then false else true) e
      sent_by Mail e = ap (λ (b : Bool). if b then false else true) e
      sent_by Rcpt e = ap (λ (b : Bool). if b then false else true) e
      sent_by Header e = ap (λ (b : Bool). if b then false else true) e
      sent_by Eoh e = ap (λ (b : Bool). if b then false else true) e
      sent_by Body e = ap (λ (b : Bool). if b then false else true) e
      sent_by Eob e = refl

  pub answered_as_before : (stage : Stage) → is_least_asked set.rules stage ≡ true
      → is_answered least stage ≡ is_answered as_it_is stage
  answered_as_before stage needed =
      ap not (has_as_before (not_answered_of stage) (unknown_apart stage).1 (needed_asked stage needed))

  version_as_before : (stage : Stage) → is_of_version least stage ≡ is_of_version as_it_is stage
  version_as_before DataCmd = refl
  version_as_before other = refl

  pub sent_before : (stage : Stage) → is_sent least stage ≡ true → is_sent as_it_is stage ≡ true
  sent_before stage e = by_bit (has least (not_sent_of stage)) refl e
    where
      by_bit : (bit : Bool) → has least (not_sent_of stage) ≡ bit
          → (if bit then false else is_of_version least stage) ≡ true → is_sent as_it_is stage ≡ true
      by_bit true is sent = absurd (true≢false (sym sent))
      by_bit false is sent =
          ap (λ (b : Bool). if b then false else is_of_version as_it_is stage) (has_not (not_sent_of stage) is)
          ∙ sym (version_as_before stage) ∙ sent

  pub answered_before : (stage : Stage) → is_answered least stage ≡ true → is_answered as_it_is stage ≡ true
  answered_before stage e =
      not_from_false _ (has_not (not_answered_of stage) (not-true (has least (not_answered_of stage)) e))

  -- ---- bits that stay

  abbrev apart_from_all : ℕ → Stage → Bool
  apart_from_all mask stage = is_apart mask (not_sent_of stage) && is_apart mask (not_answered_of stage)

  other_bit : (mask : ℕ) → list_all (apart_from_all mask) all_stages ≡ true → (stage : Stage)
      → bit_and (left_out_at also_sent set.rules stage) mask ≡ 0
  other_bit mask all stage =
      let both = and_parts (is_apart mask (not_sent_of stage)) _ (at_each (apart_from_all mask) all stage) in
      none_together _ _ mask (unless_apart mask (is_least_sent also_sent set.rules stage) (not_sent_of stage) both.0)
      (unless_apart mask (is_least_asked set.rules stage) (not_answered_of stage) both.1)

  pub skip_as_before : has least (Some SKIP) ≡ has as_it_is (Some SKIP)
  skip_as_before = same_bit SKIP.0 refl (other_bit SKIP.0 refl)

  pub space_as_before : has least (Some HDR_LEADSPC) ≡ has as_it_is (Some HDR_LEADSPC)
  space_as_before = same_bit HDR_LEADSPC.0 refl (other_bit HDR_LEADSPC.0 refl)
