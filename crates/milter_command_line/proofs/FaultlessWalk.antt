-- What a walk over words without a fault comes to.
use Rattle.std.proofs.Common.{◌≡◌, ◌&&◌, ℕ, Bool, cond, true, false, not, refl, sym, subst, List, [], ◌∷◌, length, Option, Some, None, IfSome, is_some, true≢false, codes, fold}
use Rattle.std.specs.Option.{option_map_or}
use Rattle.std.specs.Str.{bytes_eq}
use Rattle.clap.specs.Lexer.{long_of, short_of}
use Rattle.clap.specs.Walk.{Held, Names, Outcome, done, waits, plain, refused, Row, Rule, Step, next, trailing, subcommand, value, Text, Waiting, idle, option, positional, Walk, after_flag, after_step, arg_by_id, arg_by_index, arg_by_long, bundle, has_row, is_pending, long_met, long_or_other, option_word, plain_word, settled, short_or_plain, subcommand_met, subcommand_or_other, takes_several, to_positional, walked, walked_from, with_default, word_met, default_rows, reading_by}
use Rattle.clap.specs.Simple.{Shape}
use Rattle.clap.specs.Kinds.{or_else}
use Rattle.clap.specs.Faults.{bundle_fault, flag_word_fault, other_fault, positional_fault, settle_fault, step_fault, stray_fault, turn_fault, walk_fault, word_fault}
use Rattle.clap.specs.declared.error.kind.ErrorKind.TheVariants.{DisplayHelp, InvalidSubcommand}
use Rattle.milter_command_line.proofs.FaultlessRows.{AreFilled, Each, Fills, find_each, flags_filled, long_filled, no_faults, settled_filled, some_fault, with_values_filled}

-- ---- where the walk stops

-- it stopped at no subcommand, or at another than help
abbrev pub StopsBeforeHelp : Option (Text × List Text) → Type 0
StopsBeforeHelp stopped = IfSome stopped (λ p. bytes_eq p.0 (codes "help") ≡ false)

positional_stops : (c : List Rule) (a : Option Rule) (word : Text) (w : Walk) (h : Held) → w.stopped ≡ None → (to_positional c a word w h).stopped ≡ None
positional_stops c None word w h e = e
positional_stops c (Some a) word w h e = refl

plain_stops : (c : List Rule) (waiting : Waiting) (word : Text) (h : Held) (w : Walk) → w.stopped ≡ None → (after_step c word w (plain_word c waiting word h).0 (plain_word c waiting word h).1).stopped ≡ None
plain_stops c idle word h w e = positional_stops c (arg_by_index c w.position) word w h e
plain_stops c (option id) word h w e = e
plain_stops c positional word h w e = positional_stops c (arg_by_index c w.position) word w h e

flag_stops : (c : List Rule) (waiting : Waiting) (word : Text) (h : Held) (o : Outcome) (w : Walk) → w.stopped ≡ None
    → (after_step c word w (after_flag c waiting word h o).0 (after_flag c waiting word h o).1).stopped ≡ None
flag_stops c waiting word h done w e = e
flag_stops c waiting word h (waits id) w e = e
flag_stops c waiting word h plain w e = plain_stops c waiting word h w e
flag_stops c waiting word h refused w e = plain_stops c waiting word h w e

short_stops : (c : List Rule) (waiting : Waiting) (word : Text) (flags : Option Text) (h : Held) (w : Walk) → w.stopped ≡ None
    → (after_step c word w (short_or_plain c waiting word flags h).0 (short_or_plain c waiting word flags h).1).stopped ≡ None
short_stops c waiting word (Some flags) h w e = flag_stops c waiting word (bundle c flags h).0 (bundle c flags h).1 w e
short_stops c waiting word None h w e = plain_stops c waiting word h w e

long_stops : (c : List Rule) (waiting : Waiting) (word : Text) (long : Option (Text × Option Text)) (h : Held) (w : Walk) → w.stopped ≡ None
    → (after_step c word w (long_or_other c waiting word long h).0 (long_or_other c waiting word long h).1).stopped ≡ None
long_stops c waiting word (Some p) h w e = flag_stops c waiting word (long_met c (arg_by_long c p.0) p.1 h).0 (long_met c (arg_by_long c p.0) p.1 h).1 w e
long_stops c waiting word None h w e = short_stops c waiting word (short_of word) h w e

dash_stops : (c : List Rule) (waiting : Waiting) (position : ℕ) (word : Text) (h : Held) (w : Walk) (b : Bool) → w.stopped ≡ None
    → (after_step c word w (cond b (h, trailing position) (long_or_other c waiting word (long_of word) h)).0 (cond b (h, trailing position) (long_or_other c waiting word (long_of word) h)).1).stopped ≡ None
dash_stops c waiting position word h w true e = e
dash_stops c waiting position word h w false e = long_stops c waiting word (long_of word) h w e

not_help : (b off : Bool) → off ≡ false → cond (b && not off) (DisplayHelp ∷ InvalidSubcommand ∷ []) [] ≡ [] → b ≡ false
not_help false off is e = refl
not_help true true is e = absurd (true≢false is)
not_help true false is e = absurd (some_fault _ _ e)

before_none : (o : Option (Text × List Text)) → o ≡ None → StopsBeforeHelp o
before_none None e = tt
before_none (Some p) e = subst StopsBeforeHelp (sym e) tt

met_stops : (s : Shape) (met : Option Text) (waiting : Waiting) (position : ℕ) (word : Text) (h : Held) (w : Walk) → s.disable_help_subcommand ≡ false → w.stopped ≡ None → other_fault s met word h ≡ []
    → StopsBeforeHelp (after_step s.rules word w (subcommand_or_other s.rules met waiting position word h).0 (subcommand_or_other s.rules met waiting position word h).1).stopped
met_stops s (Some name) waiting position word h w on at e = not_help (bytes_eq name (codes "help")) s.disable_help_subcommand on e
met_stops s None waiting position word h w on at e = before_none _ (dash_stops s.rules waiting position word h w (bytes_eq word (45 ∷ 45 ∷ [])) at)

turn_stops : (s : Shape) (names : Names) (w : Walk) (word : Text) (stopped : Option (Text × List Text)) → stopped ≡ w.stopped → s.disable_help_subcommand ≡ false → turn_fault s names w word ≡ []
    → StopsBeforeHelp w.stopped → StopsBeforeHelp (walked_from s.rules names stopped w word).stopped
turn_stops s names w word (Some p) is on e h = subst StopsBeforeHelp (sym is) h
turn_stops s names w word None is on e h = trail w.is_trailing (no_faults _ _ now).0
  where
    met : Held × Step
    met = word_met s.rules names w.is_trailing w.waiting w.position word w.held

    now : or_else (word_fault s names w.is_trailing w.waiting word w.held) (step_fault s w.position met.0 met.1) ≡ []
    now = subst (λ (o : Option (Text × List Text)). cond (is_some o) [] (or_else (word_fault s names w.is_trailing w.waiting word w.held) (step_fault s w.position met.0 met.1)) ≡ []) (sym is) e

    m : Option Text
    m = subcommand_met names w.waiting word

    trail : (b : Bool) → cond b [] (other_fault s m word w.held) ≡ []
        → StopsBeforeHelp (after_step s.rules word w (cond b (w.held, value) (subcommand_or_other s.rules m w.waiting w.position word w.held)).0 (cond b (w.held, value) (subcommand_or_other s.rules m w.waiting w.position word w.held)).1).stopped
    trail true e = before_none _ (positional_stops s.rules (arg_by_index s.rules w.position) word w w.held (sym is))
    trail false e = met_stops s m w.waiting w.position word w.held w on (sym is) e

pub walk_stops : (s : Shape) (names : Names) (w : Walk) (words : List Text) → s.disable_help_subcommand ≡ false → walk_fault s names w words ≡ [] → StopsBeforeHelp w.stopped
    → StopsBeforeHelp (fold (walked s.rules names) w words).stopped
unfolding walk_fault walked
walk_stops s names w [] on e h = h
walk_stops s names w (word ∷ rest) on e h =
    let parts = no_faults (turn_fault s names w word) (walk_fault s names (walked s.rules names w word) rest) e in
    walk_stops s names (walked s.rules names w word) rest on parts.1 (turn_stops s names w word w.stopped refl on parts.0 h)

-- ---- the rows of the walk

plain_rows : (c : List Rule) (waiting : Waiting) (word : Text) (h : Held) → (plain_word c waiting word h).0.rows ≡ h.rows
plain_rows c idle word h = refl
plain_rows c positional word h = refl
plain_rows c (option id) word h = go (arg_by_id c id)
  where
    go : (o : Option Rule) → (option_word o id word h).0.rows ≡ h.rows
    go None = refl
    go (Some a) = refl

flag_rows : (c : List Rule) (waiting : Waiting) (word : Text) (h : Held) (o : Outcome) → (after_flag c waiting word h o).0.rows ≡ h.rows
flag_rows c waiting word h done = refl
flag_rows c waiting word h (waits id) = refl
flag_rows c waiting word h plain = plain_rows c waiting word h
flag_rows c waiting word h refused = plain_rows c waiting word h

filled_as : (a b : List Row) → a ≡ b → AreFilled b → AreFilled a
filled_as a b is f = subst AreFilled (sym is) f

module _ (s : Shape) (fills : Each Fills s.rules) where
  short_rows : (waiting : Waiting) (word : Text) (flags : Option Text) (h : Held) → option_map_or (λ flags. bundle_fault s.rules s.args_override_self flags h) flags [] ≡ [] → AreFilled h.rows
      → AreFilled (short_or_plain s.rules waiting word flags h).0.rows
  short_rows waiting word None h e f = filled_as _ _ (plain_rows s.rules waiting word h) f
  short_rows waiting word (Some flags) h e f = filled_as _ _ (flag_rows s.rules waiting word (bundle s.rules flags h).0 (bundle s.rules flags h).1)
      (flags_filled s.rules s.args_override_self fills (length flags) flags h.skip plain (record h { skip = 0 }) e f)

  long_rows : (waiting : Waiting) (word : Text) (long : Option (Text × Option Text)) (h : Held) → flag_word_fault s.rules s.args_override_self long word h ≡ [] → AreFilled h.rows
      → AreFilled (long_or_other s.rules waiting word long h).0.rows
  long_rows waiting word (Some p) h e f = filled_as _ _ (flag_rows s.rules waiting word (long_met s.rules (arg_by_long s.rules p.0) p.1 h).0 (long_met s.rules (arg_by_long s.rules p.0) p.1 h).1)
      (long_filled s.rules s.args_override_self fills (arg_by_long s.rules p.0) p.1 h (find_each Fills _ s.rules fills) e f)
  long_rows waiting word None h e f = short_rows waiting word (short_of word) h e f

  other_rows : (met : Option Text) (waiting : Waiting) (position : ℕ) (word : Text) (h : Held) → other_fault s met word h ≡ [] → AreFilled h.rows
      → AreFilled (subcommand_or_other s.rules met waiting position word h).0.rows
  other_rows (Some name) waiting position word h e f = f
  other_rows None waiting position word h e f = go (bytes_eq word (45 ∷ 45 ∷ [])) e
    where
      go : (b : Bool) → cond b [] (flag_word_fault s.rules s.args_override_self (long_of word) word h) ≡ [] → AreFilled (cond b (h, trailing position) (long_or_other s.rules waiting word (long_of word) h)).0.rows
      go true e = f
      go false e = long_rows waiting word (long_of word) h e f

  word_rows : (names : Names) (b : Bool) (waiting : Waiting) (position : ℕ) (word : Text) (h : Held) → word_fault s names b waiting word h ≡ [] → AreFilled h.rows
      → AreFilled (word_met s.rules names b waiting position word h).0.rows
  word_rows names true waiting position word h e f = f
  word_rows names false waiting position word h e f = other_rows (subcommand_met names waiting word) waiting position word h e f

  kept_rows : (b : Bool) (h : Held) → cond b [] (settle_fault s.rules s.args_override_self h) ≡ [] → AreFilled h.rows → AreFilled (cond b h (settled s.rules h)).rows
  kept_rows true h e f = f
  kept_rows false h e f = settled_filled s.rules s.args_override_self fills h e f

  step_rows : (word : Text) (w : Walk) (h : Held) (step : Step) → step_fault s w.position h step ≡ [] → AreFilled h.rows → AreFilled (after_step s.rules word w h step).held.rows
  step_rows word w h (next waiting) e f = f
  step_rows word w h (trailing position) e f = f
  step_rows word w h (subcommand name) e f = f
  step_rows word w h value e f = go (arg_by_index s.rules w.position) e
    where
      go : (o : Option Rule) → option_map_or (λ a. positional_fault s.rules s.args_override_self a h) o (stray_fault s) ≡ [] → AreFilled (to_positional s.rules o word w h).held.rows
      go None e = f
      go (Some a) e = kept_rows (is_pending a h.pending && takes_several a) h e f

  turn_rows : (names : Names) (w : Walk) (word : Text) (stopped : Option (Text × List Text)) → stopped ≡ w.stopped → turn_fault s names w word ≡ [] → AreFilled w.held.rows
      → AreFilled (walked_from s.rules names stopped w word).held.rows
  turn_rows names w word (Some p) is e f = f
  turn_rows names w word None is e f = step_rows word w met.0 met.1 parts.1 (word_rows names w.is_trailing w.waiting w.position word w.held parts.0 f)
    where
      met : Held × Step
      met = word_met s.rules names w.is_trailing w.waiting w.position word w.held

      now : or_else (word_fault s names w.is_trailing w.waiting word w.held) (step_fault s w.position met.0 met.1) ≡ []
      now = subst (λ (o : Option (Text × List Text)). cond (is_some o) [] (or_else (word_fault s names w.is_trailing w.waiting word w.held) (step_fault s w.position met.0 met.1)) ≡ []) (sym is) e

      parts : (word_fault s names w.is_trailing w.waiting word w.held ≡ []) × (step_fault s w.position met.0 met.1 ≡ [])
      parts = no_faults _ _ now

  pub walk_rows : (names : Names) (w : Walk) (words : List Text) → walk_fault s names w words ≡ [] → AreFilled w.held.rows → AreFilled (fold (walked s.rules names) w words).held.rows
  unfolding walk_fault walked
  walk_rows names w [] e f = f
  walk_rows names w (word ∷ rest) e f =
      let parts = no_faults (turn_fault s names w word) (walk_fault s names (walked s.rules names w word) rest) e in
      walk_rows names (walked s.rules names w word) rest parts.1 (turn_rows names w word w.stopped refl parts.0 f)

pub defaults_filled : (rules : List Rule) (rows : List Row) → AreFilled rows → AreFilled (fold with_default rows rules)
defaults_filled [] rows f = f
defaults_filled (a ∷ rest) rows f = defaults_filled rest (with_default rows a) (go (has_row a.id rows) a.defaults)
  where
    go : (b : Bool) (values : List Text) → AreFilled (cond b rows (default_rows a.id (reading_by a) values rows))
    go true values = f
    go false [] = f
    go false (v ∷ vs) = with_values_filled a.id (reading_by a) _ v vs rows f
