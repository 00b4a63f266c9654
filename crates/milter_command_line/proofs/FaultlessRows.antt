-- Each argument that words without a fault use has a value.
use Rattle.std.proofs.Common.{◌≡◌, ◌<◌, ◌&&◌, ◌⊎◌, ℕ, Bool, cond, true, false, zero, suc, refl, sym, ap, arith, List, [], ◌∷◌, ◌++◌, length, drop, Option, Some, None, IfSome, inl, inr, is_some, true≢false, nat_lt, ◌==◌, length-append}
use Rattle.std.specs.Prelude.{encode_utf8, find, slice_get}
use Rattle.std.specs.Option.{option_map_or}
use Rattle.std.specs.Str.{bytes_eq, chars}
use Rattle.clap.specs.Values.{is_request}
use Rattle.clap.specs.Facts.{unwrap_or_range}
use Rattle.clap.specs.Walk.{Held, Outcome, done, Row, Rule, Text, action_of, arg_by_id, arg_by_short, at_row, attached_value, bundle_met, bundle_step, flag_met, long_met, more_values, most_values, option_met, reacted, settled, settled_rows, short_met, takes_values, used, used_as, used_by_id, values_or_missing, with_values, without, reading_by}
use Rattle.clap.specs.Kinds.{Kinds, or_else, range_kinds}
use Rattle.clap.specs.Faults.{bundle_step_fault, flags_fault, long_fault, option_fault, react_fault, settle_fault, short_fault, use_fault}
use Rattle.clap.specs.declared.builder.action.ArgAction.{ArgAction}
use Rattle.clap.specs.declared.builder.action.ArgAction.TheVariants as action
use Rattle.clap.specs.declared.builder.value_parser.Reading.{Reading}
use Rattle.clap.specs.declared.error.kind.ErrorKind.{ErrorKind}
use Rattle.clap.specs.declared.error.kind.ErrorKind.TheVariants.{TooManyValues}
use Rattle.clap.specs.declared.parser.matches.ValueSource.{ValueSource}
use Rattle.clap.specs.declared.parser.matches.ValueSource.TheVariants.{CommandLine}

-- ---- lists, and two steps without a fault

abbrev pub Each : {X : Type 0} → (X → Type 0) → List X → Type 0
Each P [] = Unit {0}
Each P (x ∷ xs) = P x × Each P xs

pub find_each : {X : Type 0} (P : X → Type 0) (test : X → Bool) (xs : List X) → Each P xs → IfSome (find test xs) P
find_each P test [] h = tt
find_each P test (x ∷ xs) h = go (test x) (find_each P test xs h.1)
  where
    go : (b : Bool) → IfSome (find test xs) P → IfSome (cond b (Some x) (find test xs)) P
    go true rest = h.0
    go false rest = rest

each_append : {X : Type 0} (P : X → Type 0) (xs ys : List X) → Each P xs → Each P ys → Each P (xs ++ ys)
each_append P [] ys a b = b
each_append P (x ∷ xs) ys a b = (a.0, each_append P xs ys a.1 b)

pub some_fault : (k : ErrorKind) (ks : Kinds) → k ∷ ks ≡ [] → ⊥
some_fault k ks e = let n : suc (length ks) ≡ 0 = ap length e in omega (arith, n)

pub no_faults : (a b : Kinds) → or_else a b ≡ [] → (a ≡ []) × (b ≡ [])
no_faults [] b e = (refl, e)
no_faults (k ∷ ks) b e = absurd (some_fault k ks e)

no_first : (b : Bool) (k : ErrorKind) (rest : Kinds) → b ≡ true → cond b (k ∷ []) rest ≡ [] → ⊥
no_first true k rest is e = some_fault k [] e
no_first false k rest is e = true≢false (sym is)

-- ---- rows with a value

abbrev pub IsFilled : Row → Type 0
IsFilled r = 0 < length r.values

abbrev pub AreFilled : List Row → Type 0
AreFilled = Each IsFilled

-- a use of the argument answers with help, or has a value, or one stands for it where it has none
abbrev pub Fills : Rule → Type 0
Fills a =
    (is_request (action_of a) ≡ true)
    ⊎ ((nat_lt 0 (unwrap_or_range a.range).start_inclusive ≡ true) ⊎ (nat_lt 0 (length a.missing) ≡ true))

at_row_filled : (id : Text) (change : Row → List Row) (missing rows : List Row) → ((r : Row) → IsFilled r → AreFilled (change r)) → AreFilled missing → AreFilled rows → AreFilled (at_row id change missing rows)
at_row_filled id change missing [] f m h = m
at_row_filled id change missing (r ∷ rs) f m h = go (bytes_eq r.id id) (at_row_filled id change missing rs f m h.1)
  where
    go : (b : Bool) → AreFilled (at_row id change missing rs) → AreFilled (cond b (change r ++ rs) (r ∷ at_row id change missing rs))
    go true rest = each_append IsFilled (change r) rs (f r h.0) h.1
    go false rest = (h.0, rest)

without_filled : (id : Text) (rows : List Row) → AreFilled rows → AreFilled (without id rows)
without_filled id rows h = at_row_filled id (λ _. []) [] rows (λ r f. tt) tt h

pub with_values_filled : (id : Text) (how : Reading) (s : ValueSource) (v : Text) (vs : List Text) (rows : List Row) → AreFilled rows → AreFilled (with_values id how s (v ∷ vs) rows)
with_values_filled id how s v vs rows h =
    at_row_filled id (more_values s (v ∷ vs)) _ rows (λ r f. (let n = length-append r.values (v ∷ vs) in omega (arith, n, f), tt)) (omega arith, tt) h

used_as_filled : (x : ArgAction) (id : Text) (how : Reading) (v : Text) (vs : List Text) (rows : List Row) → AreFilled rows → AreFilled (used_as x id how (v ∷ vs) rows)
used_as_filled action.Set id how v vs rows h = with_values_filled id how CommandLine v vs _ (without_filled id rows h)
used_as_filled action.Append id how v vs rows h = with_values_filled id how CommandLine v vs _ h
used_as_filled action.SetTrue id how v vs rows h = with_values_filled id how CommandLine v vs _ (without_filled id rows h)
used_as_filled action.SetFalse id how v vs rows h = with_values_filled id how CommandLine v vs _ (without_filled id rows h)
used_as_filled action.Count id how v vs rows h = with_values_filled id how CommandLine v vs _ (without_filled id rows h)
used_as_filled action.Help id how v vs rows h = h
used_as_filled action.HelpShort id how v vs rows h = h
used_as_filled action.HelpLong id how v vs rows h = h
used_as_filled action.Version id how v vs rows h = h

request_filled : (x : ArgAction) (id : Text) (how : Reading) (values : List Text) (rows : List Row) → is_request x ≡ true → AreFilled rows → AreFilled (used_as x id how values rows)
request_filled action.Set id how values rows is h = absurd (true≢false (sym is))
request_filled action.Append id how values rows is h = absurd (true≢false (sym is))
request_filled action.SetTrue id how values rows is h = absurd (true≢false (sym is))
request_filled action.SetFalse id how values rows is h = absurd (true≢false (sym is))
request_filled action.Count id how values rows is h = absurd (true≢false (sym is))
request_filled action.Help id how values rows is h = h
request_filled action.HelpShort id how values rows is h = h
request_filled action.HelpLong id how values rows is h = h
request_filled action.Version id how values rows is h = h

module _ (c : List Rule) (again : Bool) (fills : Each Fills c) where
  use_filled : (a : Rule) (values : List Text) (rows : List Row) → Fills a → use_fault again a values rows ≡ [] → AreFilled rows → AreFilled (used a values rows)
  use_filled a values rows (inl request) e h = request_filled (action_of a) a.id (reading_by a) (values_or_missing a values) rows request h
  use_filled a [] rows (inr (inr missing)) e h = missing_filled a.missing missing
    where
      missing_filled : (values : List Text) → nat_lt 0 (length values) ≡ true → AreFilled (used_as (action_of a) a.id (reading_by a) values rows)
      missing_filled [] some = absurd (true≢false (sym some))
      missing_filled (v ∷ vs) some = used_as_filled (action_of a) a.id (reading_by a) v vs rows h
  use_filled a [] rows (inr (inl least)) e h =
      let first = (no_faults (range_kinds (unwrap_or_range a.range).start_inclusive (most_values a) 0) _ e).0 in
      absurd (no_first _ _ _ (ap (λ b. b && (0 == 0)) least) first)
  use_filled a (v ∷ vs) rows (inr some) e h = used_as_filled (action_of a) a.id (reading_by a) v vs rows h

  used_by_id_filled : (o : Option Rule) (values : List Text) (rows : List Row) → IfSome o Fills → option_map_or (λ a. use_fault again a values rows) o [] ≡ [] → AreFilled rows
      → AreFilled (used_by_id o values rows)
  used_by_id_filled None values rows f e h = h
  used_by_id_filled (Some a) values rows f e h = use_filled a values rows f e h

  by_id : (id : Text) → IfSome (arg_by_id c id) Fills
  by_id id = find_each Fills (λ a. bytes_eq a.id id) c fills

  pub settled_filled : (h : Held) → settle_fault c again h ≡ [] → AreFilled h.rows → AreFilled (settled c h).rows
  settled_filled h e f = go h.pending e
    where
      go : (p : Option (Text × List Text)) → option_map_or (λ p. option_map_or (λ a. use_fault again a p.1 h.rows) (arg_by_id c p.0) []) p [] ≡ [] → AreFilled (settled_rows c p h.rows)
      go None e = f
      go (Some p) e = used_by_id_filled (arg_by_id c p.0) p.1 h.rows (by_id p.0) e f

  reacted_filled : (a : Rule) (values : List Text) (h : Held) → Fills a → react_fault c again a values h ≡ [] → AreFilled h.rows → AreFilled (reacted c a values h).rows
  reacted_filled a values h fa e f =
      let parts = no_faults (settle_fault c again h) (use_fault again a values (settled c h).rows) e in
      use_filled a values (settled c h).rows fa parts.1 (settled_filled h parts.0 f)

  option_filled : (a : Rule) (v : Option Text) (h : Held) → Fills a → option_fault c again a v h ≡ [] → AreFilled h.rows → AreFilled (option_met c a v h).0.rows
  option_filled a (Some v) h fa e f = reacted_filled a (v ∷ []) h fa e f
  option_filled a None h fa e f = settled_filled h e f

  flag_filled : (a : Rule) (v : Option Text) (k : ErrorKind) (h : Held) → Fills a → cond (is_some v) (k ∷ []) (react_fault c again a [] h) ≡ [] → AreFilled h.rows → AreFilled (flag_met c a v h).0.rows
  flag_filled a (Some v) k h fa e f = f
  flag_filled a None k h fa e f = reacted_filled a [] h fa e f

  pub long_filled : (o : Option Rule) (v : Option Text) (h : Held) → IfSome o Fills → long_fault c again o v h ≡ [] → AreFilled h.rows → AreFilled (long_met c o v h).0.rows
  long_filled None v h fo e f = f
  long_filled (Some a) v h fa e f = go (takes_values a) e
    where
      go : (b : Bool) → cond b (option_fault c again a v h) (cond (is_some v) (TooManyValues ∷ []) (react_fault c again a [] h)) ≡ [] → AreFilled (cond b (option_met c a v h) (flag_met c a v h)).0.rows
      go true e = option_filled a v h fa e f
      go false e = flag_filled a v TooManyValues h fa e f

  short_filled : (o : Option Rule) (met : Text → Held → Held × Outcome) (fault : Text → Held → Kinds) (rest : Text) (h : Held) → IfSome o Fills
      → ((after : Held) → fault rest after ≡ [] → AreFilled after.rows → AreFilled (met rest after).0.rows) → short_fault c again o rest h (fault rest) ≡ [] → AreFilled h.rows
      → AreFilled (short_met c o rest h (met rest)).0.rows
  short_filled None met fault rest h fo more e f = f
  short_filled (Some a) met fault rest h fa more e f = go (takes_values a) e
    where
      go : (b : Bool) → cond b (option_fault c again a (attached_value rest) h) (or_else (react_fault c again a [] h) (fault rest (reacted c a [] h))) ≡ []
          → AreFilled (cond b (option_met c a (attached_value rest) h) (met rest (reacted c a [] h))).0.rows
      go true e = option_filled a (attached_value rest) h fa e f
      go false e =
          let parts = no_faults (react_fault c again a [] h) _ e in
          more (reacted c a [] h) parts.1 (reacted_filled a [] h fa parts.0 f)

  pub flags_filled : (k : ℕ) (flags : Text) (skip : ℕ) (so_far : Outcome) (h : Held) → flags_fault c again k flags skip h ≡ [] → AreFilled h.rows → AreFilled (bundle_met c k flags skip so_far h).0.rows
  unfolding flags_fault bundle_met
  flags_filled zero flags skip so_far h e f = f
  flags_filled (suc k) flags skip so_far h e f = step (slice_get (chars flags) 0) skip (flags_filled k) e
    where
      step : (o : Option ℕ) (skip : ℕ)
          → ((flags : Text) (skip : ℕ) (so_far : Outcome) (h : Held) → flags_fault c again k flags skip h ≡ [] → AreFilled h.rows → AreFilled (bundle_met c k flags skip so_far h).0.rows)
          → bundle_step_fault c again o flags skip h (flags_fault c again k) ≡ [] → AreFilled (bundle_step c o flags skip so_far h (bundle_met c k)).0.rows
      step None skip more e = f
      step (Some x) zero more e =
          let rest = drop (length (encode_utf8 x)) flags in
          short_filled (arg_by_short c x) (λ t. bundle_met c k t 0 done) (λ t. flags_fault c again k t 0) rest h (find_each Fills _ c fills) (λ after. more rest 0 done after) e f
      step (Some x) (suc skip) more e = more (drop (length (encode_utf8 x)) flags) skip so_far h e f
