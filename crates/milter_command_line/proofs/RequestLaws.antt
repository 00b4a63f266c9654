-- The request of a command line.
use Rattle.std.proofs.Common.{◌≡◌, ◌<◌, ◌≤◌, ◌-◌, ◌^◌, ◌⊎◌, ℕ, Bor, Bool, cond, true, false, not, ◌||◌, List, [], ◌∷◌, Option, None, Some, IfSome, IsSome, is_some, subst, inl, inr, refl, sym, ap, ◌∙◌, codes, length, arith, true≢false, option_map}
use Rattle.std.proofs.lemmas.Option.{none-some}
use Rattle.std.proofs.lemmas.Slice.Eq.{bytes_eq-Decides}
use Rattle.std.proofs.lemmas.Bool.Decides.{not_from_Decides}
use Rattle.std.specs.Prelude.{find, slice_get}
use Rattle.std.specs.Option.{option_and_then, option_map_or, unwrap_or}
use Rattle.std.specs.Str.{bytes_eq}
use Rattle.clap.specs.Facts.{explicit_source}
use Rattle.clap.specs.Words.{App, Row, Shape, Text, built, fault_of, all_of, first_of, first_value, matched_of, raw_values, rows_of, subcommand_of, subcommand_rows_of}
use Rattle.clap.specs.Walk.{answers_to, finished, nothing_held, rows_after, settled, texts, walk, walk_from}
use Rattle.clap.specs.Simple.{argument_words, built_leaf, entered, help_shape, inherited, label_of, marked_built, names_of, rows_at, with_leaf_noted}
use Rattle.clap.specs.Takes.{is_given}
use Rattle.clap.specs.Kinds.{Kinds}
use Rattle.clap.specs.Faults.{check_fault, defaults_fault, entered_fault, level_fault, settle_fault, walk_fault}
use Rattle.clap.proofs.WalkLemmas.{first_value-rows, raw_values-rows}
use Rattle.clap.specs.declared.error.kind.ErrorKind.{ErrorKind}
use Rattle.clap.specs.declared.parser.matches.Found.{Found}
use Rattle.clap.specs.declared.parser.matches.ArgMatches.{ArgMatches}
use Rattle.milter_command_line.specs.declared.request.Request.{Request}
use Rattle.milter_command_line.specs.Subcommands.{answer_app, filter_app, load_app, mta_app, play_app, probe_app, record_app, replay_app, rules_app, serve_app, session_app, tool_app, trace_app}
use Rattle.milter_command_line.specs.Words.{BorrowedWords}
use Rattle.milter_command_line.specs.CommandLine.{HasMatches, IsFlag, IsNumber, IsNumberOr, IsRequestOf, IsUnasked, given_values, text_of}
use Rattle.milter_command_line.proofs.FaultlessRows.{AreFilled, Each, Fills, IsFilled, find_each, no_faults, settled_filled, some_fault}
use Rattle.milter_command_line.proofs.FaultlessWalk.{StopsBeforeHelp, defaults_filled, walk_rows, walk_stops}

pub value_given : (f : Found) (id value : Text) → Some value ≡ first_value f id → first_of id (rows_of f) ≡ Some value
value_given f id value is = sym (is ∙ first_value-rows f id)

pub text_given : (f : Found) (id : Text) (o : Option (Bor Text)) → text_of o ≡ first_value f id → first_of id (rows_of f) ≡ text_of o
text_given f id o is = sym (is ∙ first_value-rows f id)

-- what holds of the text that is given
pub holds_of : (P : Option Text → Type 0) (f : Found) (id : Text) (o : Option (Bor Text)) → text_of o ≡ first_value f id → P (text_of o) → P (first_of id (rows_of f))
holds_of P f id o is h = subst P (is ∙ first_value-rows f id) h

-- a number that fits 32 bits, within closer bounds
within : (default least most : ℕ) (t : Option Text) (n : ℕ) → most ≤ 2 ^ 32 - 1 → IsNumberOr default 0 (2 ^ 32 - 1) t n → IsNumberOr default least most t n
within default least most None n low h = h
within default least most (Some text) n low h = λ h-in. h (h-in.0, h-in.1, omega arith, omega (arith, low, h-in.3))

pub number_given : (default least most : ℕ) (f : Found) (id : Text) (o : Option (Bor Text)) (n : ℕ) → most ≤ 2 ^ 32 - 1 → text_of o ≡ first_value f id → IsNumberOr default 0 (2 ^ 32 - 1) (text_of o) n
    → IsNumberOr default least most (first_of id (rows_of f)) n
number_given default least most f id o n low is h = holds_of (λ t. IsNumberOr default least most t n) f id o is (within default least most (text_of o) n low h)

-- a number that fits 32 bits, within closer bounds, where it is given
known_within : (least most : ℕ) (t : Option Text) (n : Option ℕ) → most ≤ 2 ^ 32 - 1 → IsNumber 0 (2 ^ 32 - 1) t n → IsNumber least most t n
known_within least most None n low h = h
known_within least most (Some text) n low h = λ h-in. h (h-in.0, h-in.1, omega arith, omega (arith, low, h-in.3))

pub number_known : (least most : ℕ) (f : Found) (id : Text) (o : Option (Bor Text)) (n : Option ℕ) → most ≤ 2 ^ 32 - 1 → text_of o ≡ first_value f id → IsNumber 0 (2 ^ 32 - 1) (text_of o) n
    → IsNumber least most (first_of id (rows_of f)) n
number_known least most f id o n low is h = holds_of (λ t. IsNumber least most t n) f id o is (known_within least most (text_of o) n low h)

pub flag_given : (f : Found) (id : Text) (o : Option (Bor Text)) (flag : Bool) → text_of o ≡ first_value f id → IsFlag (text_of o) flag → IsFlag (first_of id (rows_of f)) flag
flag_given f id o flag is h = holds_of (λ t. IsFlag t flag) f id o is h

pub no_value : (f : Found) (id : Text) → None ≡ first_value f id → first_of id (rows_of f) ≡ None
no_value f id none = sym (none ∙ first_value-rows f id)

-- the values that are given
pub values_given : (f : Found) (id : Text) (values : List Text) → Some values ≡ option_map raw_values (matched_of f id) → all_of id (rows_of f) ≡ Some values
values_given f id values is = sym (is ∙ raw_values-rows f id)

-- the values of an argument that may be given any number of times
pub any_values_given : (f : Found) (id : Text) (o : Option BorrowedWords) (default : BorrowedWords) → default.now ≡ [] → option_map (λ s. texts s.now) o ≡ option_map raw_values (matched_of f id)
    → given_values id (rows_of f) ≡ texts (unwrap_or o default).now
any_values_given f id None default none is = ap (λ given. option_map_or (λ values. values) given []) (sym (is ∙ raw_values-rows f id)) ∙ sym (ap texts none)
any_values_given f id (Some s) default none is = ap (λ given. option_map_or (λ values. values) given []) (sym (is ∙ raw_values-rows f id))

pub no_values : (f : Found) (id : Text) → None ≡ option_map raw_values (matched_of f id) → first_of id (rows_of f) ≡ None
no_values f id none = go (find (λ r. bytes_eq r.id id) (rows_of f)) (sym (none ∙ raw_values-rows f id))
  where
    go : (o : Option Row) → option_map (λ r. r.values) o ≡ None → option_and_then (λ r. slice_get r.values 0) o ≡ None
    go None e = refl
    go (Some r) e = absurd (none-some _ (sym e))

-- texts that differ aren't the same
differ : {X : Type 0} {a b : Text} → bytes_eq a b ≡ false → a ≡ b → X
differ {a = a} {b = b} other same = absurd (not_from_Decides _ (bytes_eq-Decides a b) other same)

pub no_session : (f : Found) → None ≡ first_value f (codes "file") → IsUnasked (codes "session", rows_of f)
no_session f none =
    (differ refl, differ refl, (λ e. no_value f (codes "file") none), differ refl, differ refl, differ refl, differ refl, differ refl, differ refl, differ refl, differ refl, differ refl)

pub no_rules : (f : Found) → None ≡ first_value f (codes "file") → IsUnasked (codes "rules", rows_of f)
no_rules f none =
    (differ refl, differ refl, differ refl, (λ e. no_value f (codes "file") none), differ refl, differ refl, differ refl, differ refl, differ refl, differ refl, differ refl, differ refl)

pub no_filter : (f : Found) → None ≡ first_value f (codes "address") → IsUnasked (codes "filter", rows_of f)
no_filter f none =
    (differ refl, differ refl, differ refl, differ refl, (λ e. no_value f (codes "address") none), differ refl, differ refl, differ refl, differ refl, differ refl, differ refl, differ refl)

pub no_serve : (f : Found) → None ≡ option_map raw_values (matched_of f (codes "address")) → IsUnasked (codes "serve", rows_of f)
no_serve f none =
    (differ refl, differ refl, differ refl, differ refl, differ refl, (λ e. no_values f (codes "address") none), differ refl, differ refl, differ refl, differ refl, differ refl, differ refl)

pub no_mta : (f : Found) → (first_of (codes "address") (rows_of f) ≡ None) ⊎ (first_of (codes "session") (rows_of f) ≡ None) → IsUnasked (codes "mta", rows_of f)
no_mta f none =
    (differ refl, differ refl, differ refl, differ refl, differ refl, differ refl, (λ e. none), differ refl, differ refl, differ refl, differ refl, differ refl)

pub no_play : (f : Found) → None ≡ first_value f (codes "session") → IsUnasked (codes "play", rows_of f)
no_play f none =
    (differ refl, differ refl, differ refl, differ refl, differ refl, differ refl, differ refl, (λ e. no_value f (codes "session") none), differ refl, differ refl, differ refl, differ refl)

pub no_replay : (f : Found) → (first_of (codes "address") (rows_of f) ≡ None) ⊎ (first_of (codes "trace") (rows_of f) ≡ None) → IsUnasked (codes "replay", rows_of f)
no_replay f none =
    (differ refl, differ refl, differ refl, differ refl, differ refl, differ refl, differ refl, differ refl, (λ e. none), differ refl, differ refl, differ refl)

pub no_load : (f : Found) → (first_of (codes "address") (rows_of f) ≡ None) ⊎ (first_of (codes "session") (rows_of f) ≡ None) → IsUnasked (codes "load", rows_of f)
no_load f none =
    (differ refl, differ refl, differ refl, differ refl, differ refl, differ refl, differ refl, differ refl, differ refl, (λ e. none), differ refl, differ refl)

pub no_probe : (f : Found) → (first_of (codes "address") (rows_of f) ≡ None) ⊎ (first_of (codes "session") (rows_of f) ≡ None) → IsUnasked (codes "probe", rows_of f)
no_probe f none =
    (differ refl, differ refl, differ refl, differ refl, differ refl, differ refl, differ refl, differ refl, differ refl, differ refl, (λ e. none), differ refl)

pub no_record : (f : Found) → (first_of (codes "listen") (rows_of f) ≡ None) ⊎ (first_of (codes "address") (rows_of f) ≡ None) ⊎ (first_of (codes "directory") (rows_of f) ≡ None) → IsUnasked (codes "record", rows_of f)
no_record f none =
    (differ refl, differ refl, differ refl, differ refl, differ refl, differ refl, differ refl, differ refl, differ refl, differ refl, differ refl, (λ e. none))

first_given : (o : Option Row) → option_map_or (λ r. explicit_source r.source) o false ≡ true → IfSome o IsFilled → option_and_then (λ r. slice_get r.values 0) o ≡ None → ⊥
first_given None given f none = true≢false (sym given)
first_given (Some r) given f none = go r.values f none
  where
    go : (values : List Text) → 0 < length values → slice_get values 0 ≡ None → ⊥
    go [] f none = omega (arith, f)
    go (v ∷ vs) f none = none-some _ (sym none)

-- an argument that is required has a value
is_there : (id : Text) (s : Shape) (words : List Text) → Each Fills s.rules → ((rows : List Row) → check_fault s rows false ≡ [] → is_given id rows ≡ true) → level_fault s [] nothing_held words false [] ≡ []
    → first_of id (rows_after s.rules [] words) ≡ None → ⊥
is_there id s words fills required e none =
    let end = (walk s.rules [] nothing_held words).held in
    let walked = no_faults (walk_fault s [] (walk_from nothing_held) words) _ e in
    let rest = no_faults (settle_fault s.rules s.args_override_self end) _ walked.1 in
    let checked = no_faults (defaults_fault (settled s.rules end).rows s.rules) _ rest.1 in
    let rows = finished s.rules end in
    let filled : AreFilled rows = defaults_filled s.rules (settled s.rules end).rows
    (settled_filled s.rules s.args_override_self fills end rest.0 (walk_rows s fills [] (walk_from nothing_held) words walked.0 tt)) in
    first_given (find (λ r. bytes_eq r.id id) rows) (required rows checked.1) (find_each IsFilled _ rows filled) none

required_here : (b : Bool) (k : ErrorKind) → cond (not b || false) (k ∷ []) [] ≡ [] → b ≡ true
required_here true k e = refl
required_here false k e = absurd (some_fault k [] e)

both_here : (a b : Bool) (k : ErrorKind) → cond (not a || (not b || false)) (k ∷ []) [] ≡ [] → (a ≡ true) × (b ≡ true)
both_here true true k e = (refl, refl)
both_here true false k e = absurd (some_fault k [] e)
both_here false b k e = absurd (some_fault k [] e)

three_here : (a b c : Bool) (k : ErrorKind) → cond (not a || (not b || (not c || false))) (k ∷ []) [] ≡ [] → (a ≡ true) × (b ≡ true) × (c ≡ true)
three_here true true true k e = (refl, refl, refl)
three_here true true false k e = absurd (some_fault k [] e)
three_here true false c k e = absurd (some_fault k [] e)
three_here false b c k e = absurd (some_fault k [] e)

-- one of two arguments that are required has no value
both_there : (a b : Text) (s : Shape) (words : List Text) → Each Fills s.rules → ((rows : List Row) → check_fault s rows false ≡ [] → (is_given a rows ≡ true) × (is_given b rows ≡ true)) → level_fault s [] nothing_held words false [] ≡ []
    → (first_of a (rows_after s.rules [] words) ≡ None) ⊎ (first_of b (rows_after s.rules [] words) ≡ None) → ⊥
both_there a b s words fills required below (inl none) = is_there a s words fills (λ rows e. (required rows e).0) below none
both_there a b s words fills required below (inr none) = is_there b s words fills (λ rows e. (required rows e).1) below none

or_false : (b : Bool) → b || false ≡ true → b ≡ true
or_false true e = refl
or_false false e = e

-- the subcommand help isn't entered without a fault
never_help : (name : Text) → bytes_eq name (codes "help") ≡ false → bytes_eq (codes "help") name || false ≡ true → ⊥
never_help name other named =
    let is : codes "help" ≡ name = (bytes_eq-Decides (codes "help") name).0 (or_false _ named) in
    true≢false (ap (λ x. bytes_eq x (codes "help")) is ∙ other)

module _ (losses : BorrowedWords) where
  -- the shape that a subcommand of the program has once it is built
  abbrev leaf_of : App → Shape
  leaf_of app = built_leaf (inherited (with_leaf_noted (marked_built (tool_app losses).top)) app.top)

  mta_fills : Each Fills (leaf_of (mta_app losses)).rules
  mta_fills = (inr (inl refl), (inr (inl refl), (inr (inl refl), (inr (inl refl), (inr (inl refl), (inr (inl refl), (inr (inl refl), (inr (inl refl), (inr (inr refl), (inr (inl refl), (inr (inl refl), (inr (inr refl), (inl refl, tt)))))))))))))

  serve_fills : Each Fills (leaf_of serve_app).rules
  serve_fills = (inr (inl refl), (inr (inl refl), (inr (inl refl), (inr (inl refl), (inr (inl refl), (inr (inr refl), (inr (inr refl), (inr (inr refl), (inr (inr refl), (inl refl, tt))))))))))

  play_fills : Each Fills (leaf_of (play_app losses)).rules
  play_fills = (inr (inl refl), (inr (inl refl), (inr (inr refl), (inr (inr refl), (inr (inl refl), (inr (inl refl), (inr (inl refl), (inr (inl refl), (inr (inl refl), (inr (inr refl), (inl refl, tt)))))))))))

  replay_fills : Each Fills (leaf_of replay_app).rules
  replay_fills = (inr (inl refl), (inr (inl refl), (inr (inl refl), (inr (inl refl), (inr (inr refl), (inl refl, tt))))))

  load_fills : Each Fills (leaf_of load_app).rules
  load_fills = (inr (inl refl), (inr (inl refl), (inr (inl refl), (inr (inl refl), (inr (inl refl), (inr (inl refl), (inr (inl refl), (inr (inr refl), (inr (inr refl), (inl refl, tt))))))))))

  probe_fills : Each Fills (leaf_of probe_app).rules
  probe_fills = (inr (inl refl), (inr (inl refl), (inr (inl refl), (inr (inl refl), (inr (inl refl), (inr (inr refl), (inl refl, tt)))))))

  record_fills : Each Fills (leaf_of record_app).rules
  record_fills = (inr (inl refl), (inr (inl refl), (inr (inl refl), (inr (inl refl), (inr (inr refl), (inl refl, tt))))))

  -- the shape of the subcommand whose test is the first to hold
  abbrev pick : List (Bool × Shape) → Option Shape
  pick [] = None
  pick (t ∷ tests) = cond t.0 (Some t.1) (pick tests)

  abbrev shapes : (trace session rules answer filter serve mta play replay load probe recording help : Bool) → List (Bool × Shape)
  shapes trace session rules answer filter serve mta play replay load probe recording help =
      (trace, leaf_of trace_app) ∷ (session, leaf_of session_app) ∷ (rules, leaf_of rules_app) ∷ (answer, leaf_of answer_app) ∷ (filter, leaf_of filter_app) ∷ (serve, leaf_of serve_app)
      ∷ (mta, leaf_of (mta_app losses)) ∷ (play, leaf_of (play_app losses)) ∷ (replay, leaf_of replay_app) ∷ (load, leaf_of load_app) ∷ (probe, leaf_of probe_app) ∷ (recording, leaf_of record_app)
      ∷ (help, built_leaf help_shape) ∷ []

  abbrev asked_below : Option Shape → List Text → Kinds
  asked_below o words = option_map_or (λ s. level_fault s [] nothing_held words false []) o []

  abbrev entered_by : Option Shape → List Text → Option (Text × List Row)
  entered_by o words = option_map (λ s. rows_at s words) o

  record_asks : (words : List Text) → level_fault (leaf_of record_app) [] nothing_held words false [] ≡ []
      → (first_of (codes "listen") (rows_after (leaf_of record_app).rules [] words) ≡ None) ⊎ (first_of (codes "address") (rows_after (leaf_of record_app).rules [] words) ≡ None)
      ⊎ (first_of (codes "directory") (rows_after (leaf_of record_app).rules [] words) ≡ None) → ⊥
  record_asks words below (inl none) = is_there (codes "listen") (leaf_of record_app) words record_fills (λ rows e. (three_here _ _ _ _ e).0) below none
  record_asks words below (inr (inl none)) = is_there (codes "address") (leaf_of record_app) words record_fills (λ rows e. (three_here _ _ _ _ e).1) below none
  record_asks words below (inr (inr none)) = is_there (codes "directory") (leaf_of record_app) words record_fills (λ rows e. (three_here _ _ _ _ e).2) below none

  -- a subcommand that is entered without a fault asks for something
  picked_asks : (words : List Text) (rows : List Row) (trace session rules answer filter serve mta play replay load probe recording help : Bool) → (help ≡ true → ⊥) → asked_below (pick (shapes trace session rules answer filter serve mta play replay load probe recording help)) words ≡ []
      → check_fault (built (tool_app losses)).top rows (is_some (entered_by (pick (shapes trace session rules answer filter serve mta play replay load probe recording help)) words)) ≡ [] → IsRequestOf (entered_by (pick (shapes trace session rules answer filter serve mta play replay load probe recording help)) words) None → ⊥
  picked_asks words rows true session rules answer filter serve mta play replay load probe recording help none below check unasked = unasked.0 refl
  picked_asks words rows false true rules answer filter serve mta play replay load probe recording help none below check unasked =
      is_there (codes "file") (leaf_of session_app) words (inr (inl refl), (inr (inr refl), (inl refl, tt))) (λ rows e. required_here _ _ e) below (unasked.2 refl)
  picked_asks words rows false false true answer filter serve mta play replay load probe recording help none below check unasked =
      is_there (codes "file") (leaf_of rules_app) words (inr (inl refl), (inr (inr refl), (inr (inr refl), (inl refl, tt)))) (λ rows e. required_here _ _ e) below (unasked.3 refl)
  picked_asks words rows false false false true filter serve mta play replay load probe recording help none below check unasked = unasked.1 refl
  picked_asks words rows false false false false true serve mta play replay load probe recording help none below check unasked =
      is_there (codes "address") (leaf_of filter_app) words (inr (inl refl), (inr (inl refl), (inr (inl refl), (inr (inr refl), (inr (inr refl), (inr (inr refl), (inr (inr refl), (inl refl, tt)))))))) (λ rows e. required_here _ _ e) below (unasked.4 refl)
  picked_asks words rows false false false false false true mta play replay load probe recording help none below check unasked =
      is_there (codes "address") (leaf_of serve_app) words serve_fills (λ rows e. required_here _ _ e) below (unasked.5 refl)
  picked_asks words rows false false false false false false true play replay load probe recording help none below check unasked =
      both_there (codes "address") (codes "session") (leaf_of (mta_app losses)) words mta_fills (λ rows e. both_here _ _ _ e) below (unasked.6 refl)
  picked_asks words rows false false false false false false false true replay load probe recording help none below check unasked =
      is_there (codes "session") (leaf_of (play_app losses)) words play_fills (λ rows e. required_here _ _ e) below (unasked.7 refl)
  picked_asks words rows false false false false false false false false true load probe recording help none below check unasked =
      both_there (codes "address") (codes "trace") (leaf_of replay_app) words replay_fills (λ rows e. both_here _ _ _ e) below (unasked.8 refl)
  picked_asks words rows false false false false false false false false false true probe recording help none below check unasked =
      both_there (codes "address") (codes "session") (leaf_of load_app) words load_fills (λ rows e. both_here _ _ _ e) below (unasked.9 refl)
  picked_asks words rows false false false false false false false false false false true recording help none below check unasked =
      both_there (codes "address") (codes "session") (leaf_of probe_app) words probe_fills (λ rows e. both_here _ _ _ e) below (unasked.10 refl)
  picked_asks words rows false false false false false false false false false false false true help none below check unasked = record_asks words below (unasked.11 refl)
  picked_asks words rows false false false false false false false false false false false false true none below check unasked = none refl
  picked_asks words rows false false false false false false false false false false false false false none below check unasked = some_fault _ _ check

  entered_asks : (stop : Option (Text × List Text)) (rows : List Row) → StopsBeforeHelp stop → entered_fault (built (tool_app losses)) stop ≡ []
      → check_fault (built (tool_app losses)).top rows (is_some (entered (built (tool_app losses)) stop)) ≡ [] → IsRequestOf (entered (built (tool_app losses)) stop) None → ⊥
  entered_asks None rows other below check unasked = some_fault _ _ check
  entered_asks (Some p) rows other below check unasked =
      picked_asks p.1 rows (answers_to p.0 (label_of (leaf_of trace_app))) (answers_to p.0 (label_of (leaf_of session_app))) (answers_to p.0 (label_of (leaf_of rules_app))) (answers_to p.0 (label_of (leaf_of answer_app)))
      (answers_to p.0 (label_of (leaf_of filter_app))) (answers_to p.0 (label_of (leaf_of serve_app))) (answers_to p.0 (label_of (leaf_of (mta_app losses)))) (answers_to p.0 (label_of (leaf_of (play_app losses)))) (answers_to p.0 (label_of (leaf_of replay_app))) (answers_to p.0 (label_of (leaf_of load_app))) (answers_to p.0 (label_of (leaf_of probe_app))) (answers_to p.0 (label_of (leaf_of record_app))) (answers_to p.0 (label_of (built_leaf help_shape)))
      (never_help p.0 other) below check unasked

  -- words without a fault ask for something
  pub asks : (words : List Text) → fault_of (tool_app losses) words ≡ [] → IsRequestOf (subcommand_of (tool_app losses) words) None → ⊥
  asks words e unasked =
      let a = built (tool_app losses) in
      let given = argument_words a words in
      let last = walk a.top.rules (names_of a) nothing_held given in
      let walked = no_faults (walk_fault a.top (names_of a) (walk_from nothing_held) given) _ e in
      let below = no_faults (entered_fault a last.stopped) _ walked.1 in
      let rest = no_faults (settle_fault a.top.rules a.top.args_override_self last.held) _ below.1 in
      let checked = no_faults (defaults_fault (settled a.top.rules last.held).rows a.top.rules) _ rest.1 in
      entered_asks last.stopped (finished a.top.rules last.held) (walk_stops a.top (names_of a) (walk_from nothing_held) given refl walked.0 tt) below.0 checked.1 unasked

  pub some_request : (words : List Text) (m : ArgMatches) (request : Option Request) → HasMatches losses words m → IsRequestOf (subcommand_rows_of m) request → IsSome request
  some_request words m None (faultless, is) unasked = absurd (asks words faultless (subst (λ o. IsRequestOf o None) is unasked))
  some_request words m (Some request) matches asked = refl
