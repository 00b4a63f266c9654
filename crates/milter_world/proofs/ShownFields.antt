-- What rules look at is shown alike with and without commands that show nothing of it.
use Rattle.std.proofs.Common.{◌≡◌, ℕ, Bool, true, false, cond, List, [], ◌∷◌, ◌++◌, reverse, map, filter, filter_map, flat_map, is_some, length, nat_lt, Option, None, Some, refl, sym, ap, ◌∙◌}
use Rattle.std.specs.List.{concat, list_any}
use Rattle.std.specs.Option.{option_to_list}
use Rattle.std.proofs.lemmas.Bool.{true≢false}
use Rattle.std.proofs.lemmas.List.Concat.{flat_map-cons}
use Rattle.milter_fields.specs.declared.client.Client.{Client}
use Rattle.milter_fields.specs.declared.header.Header.{Header}
use Rattle.milter_fields.specs.declared.pair.Pair.{Pair}
use Rattle.milter_fields.specs.declared.path.Path.{Path}
use Rattle.milter_wire.specs.declared.command.Command.{Command}
use Rattle.milter_wire.specs.declared.command.Command.TheVariants as commands
use Rattle.milter_wire.specs.declared.stage.Stage.{Stage}
use Rattle.milter_wire.specs.declared.stage.Stage.TheVariants as stages
use Rattle.milter_wire.specs.Stages.{macro_stage_of}
use Rattle.milter_protocol.specs.Exchanges.{latest}
use Rattle.milter_protocol.specs.Seen.{Seen, chunk_in, client_in, header_in, helo_in, pairs_in, recipient_in, seen, sender_in, value_in}
use Rattle.milter_filter_rules.specs.declared.rule.Check.{Check}
use Rattle.milter_filter_rules.specs.declared.rule.Check.TheVariants as checks
use Rattle.milter_filter_rules.specs.declared.rule.Field.{Field}
use Rattle.milter_filter_rules.specs.declared.rule.Field.TheVariants as fields
use Rattle.milter_filter_rules.specs.declared.rule.Measure.TheVariants.{Size, Rcpts}
use Rattle.milter_filter_search.specs.Needles.{part_of}
use Rattle.milter_filter_rules.specs.Conditions.{check_holds, client_address, finds_some, is_within_some, last_recipient, passes, values_of}
use Rattle.milter_filter_rules.specs.ListedValues.{Matching}
use Rattle.milter_filter_rules.specs.LeastWants.{is_shown_by, looked_at, shown_at}
use Rattle.milter_filter_search.specs.Texts.{values_named}
use Rattle.milter_filter_rules.specs.StageRules.{is_stage}
use Rattle.milter_world.proofs.Places.{macros-stage, place_of}

-- ---- commands that are not kept show nothing

-- a command that isn't kept shows nothing of what this stage shows; without a stage, of macros
abbrev pub HidesNone : (Command → Bool) → Option Stage → List Command → Type 0
HidesNone keeps at [] = Unit {0}
HidesNone keeps at (command ∷ before) =
    (keeps command ≡ false → is_shown_by at (place_of command) ≡ false) × HidesNone keeps at before

module _ (keeps : Command → Bool) (at : Option Stage) where
  -- of what each command has of one kind, nothing is lost
  module _ {A : Type 0} (part : Command → Option A)
      (none : (command : Command) → keeps command ≡ false → is_shown_by at (place_of command) ≡ false
      → part command ≡ None) where
    parts-alike : (before : List Command) → HidesNone keeps at before
        → filter_map part (filter keeps before) ≡ filter_map part before
    parts-alike [] hides = refl
    parts-alike (command ∷ before) hides = by_kept (keeps command) refl (parts-alike before hides.1)
      where
        by_kept : (kept : Bool) → keeps command ≡ kept → filter_map part (filter keeps before) ≡ filter_map part before
            → filter_map part (cond kept (command ∷ filter keeps before) (filter keeps before))
            ≡ filter_map part (command ∷ before)
        by_kept true e rest = rw rest refl
        by_kept false e rest = let gone = none command e (hides.0 e) in rw (gone, rest) refl

  pairs-alike : ((command : Command) → is_shown_by at (place_of command) ≡ false → pairs_in command ≡ [])
      → (before : List Command) → HidesNone keeps at before
      → flat_map pairs_in (filter keeps before) ≡ flat_map pairs_in before
  pairs-alike none [] hides = refl
  pairs-alike none (command ∷ before) hides = by_kept (keeps command) refl (pairs-alike none before hides.1)
    where
      by_kept : (kept : Bool) → keeps command ≡ kept
          → flat_map pairs_in (filter keeps before) ≡ flat_map pairs_in before
          → flat_map pairs_in (cond kept (command ∷ filter keeps before) (filter keeps before))
          ≡ flat_map pairs_in (command ∷ before)
      by_kept true e rest =
          flat_map-cons pairs_in command (filter keeps before)
          ∙ ap (λ (l : List Pair). pairs_in command ++ l) rest
          ∙ sym (flat_map-cons pairs_in command before)
      by_kept false e rest =
          rest
          ∙ ap (λ (l : List Pair). l ++ flat_map pairs_in before) (sym (none command (hides.0 e)))
          ∙ sym (flat_map-cons pairs_in command before)

-- ---- what a stage doesn't show

no_client : (command : Command) → is_stage stages.Connect (place_of command) ≡ false → client_in command ≡ None
no_client (commands.Connect client) e = absurd (true≢false e)
no_client other e = refl

no_helo : (command : Command) → is_stage stages.Helo (place_of command) ≡ false → helo_in command ≡ None
no_helo (commands.Helo name) e = absurd (true≢false e)
no_helo other e = refl

no_sender : (command : Command) → is_stage stages.Mail (place_of command) ≡ false → sender_in command ≡ None
no_sender (commands.Mail sender) e = absurd (true≢false e)
no_sender other e = refl

no_recipient : (command : Command) → is_stage stages.Rcpt (place_of command) ≡ false → recipient_in command ≡ None
no_recipient (commands.Rcpt recipient) e = absurd (true≢false e)
no_recipient other e = refl

no_header : (command : Command) → is_stage stages.Header (place_of command) ≡ false → header_in command ≡ None
no_header (commands.Header header) e = absurd (true≢false e)
no_header other e = refl

no_pairs : (command : Command) → is_some (macro_stage_of (place_of command)) ≡ false → pairs_in command ≡ []
no_pairs (commands.Macro code pairs) e = absurd (true≢false (sym (macros-stage code) ∙ e))
no_pairs other e = refl

-- ---- the values of a field

-- the end of a message, which may have the last chunk, is kept
module _ (keeps : Command → Bool) (ends : (bytes : List ℕ) → keeps (commands.Eob bytes) ≡ true) where
  no_chunk : (command : Command) → keeps command ≡ false → is_stage stages.Body (place_of command) ≡ false
      → chunk_in command ≡ None
  no_chunk (commands.Body bytes) gone e = absurd (true≢false e)
  no_chunk (commands.Eob bytes) gone e = absurd (true≢false (sym (ends bytes) ∙ gone))
  no_chunk other gone e = refl

module _ (keeps : Command → Bool) (ends : (bytes : List ℕ) → keeps (commands.Eob bytes) ≡ true) (command : Command)
    (before : List Command) (space other_space : Bool) where
  abbrev all : Seen
  all = seen space (command ∷ before)

  abbrev some : Seen
  some = seen other_space (command ∷ filter keeps before)

  with_command : {A : Type 0} (part : Command → Option A)
      → filter_map part (filter keeps before) ≡ filter_map part before
      → filter_map part (command ∷ filter keeps before) ≡ filter_map part (command ∷ before)
  with_command part e = rw e refl

  client-alike : HidesNone keeps (Some stages.Connect) before → some.client ≡ all.client
  client-alike hides =
      ap latest (with_command client_in (parts-alike keeps (shown_at fields.Host) client_in (λ c gone. no_client c) before hides))

  pub headers-alike : HidesNone keeps (Some stages.Header) before → some.headers ≡ all.headers
  headers-alike hides =
      ap reverse (with_command header_in (parts-alike keeps (Some stages.Header) header_in (λ c gone. no_header c) before hides))

  pub values-alike : (field : Field) → HidesNone keeps (shown_at field) before → values_of field some ≡ values_of field all
  values-alike fields.Host hides =
      ap (λ (c : Option Client). map (λ client. client.host) (option_to_list c)) (client-alike hides)
  values-alike fields.Address hides =
      ap (λ (c : Option Client). client_address (record some { client = c })) (client-alike hides)
  values-alike fields.Helo hides =
      ap (λ (l : List (List ℕ)). option_to_list (latest l))
      (with_command helo_in (parts-alike keeps (shown_at fields.Helo) helo_in (λ c gone. no_helo c) before hides))
  values-alike (fields.Sender part) hides =
      ap (λ (l : List Path). map (part_of part) (option_to_list (latest l)))
      (with_command sender_in (parts-alike keeps (shown_at (fields.Sender part)) sender_in (λ c gone. no_sender c) before hides))
  values-alike (fields.Rcpt part) hides =
      ap (λ (l : List Path). map (part_of part)
      (option_to_list (last_recipient (record some { recipients = reverse l }))))
      (with_command recipient_in (parts-alike keeps (shown_at (fields.Rcpt part)) recipient_in (λ c gone. no_recipient c) before hides))
  values-alike (fields.Recipients part) hides =
      ap (λ (l : List Path). map (part_of part) (reverse l))
      (with_command recipient_in
      (parts-alike keeps (shown_at (fields.Recipients part)) recipient_in (λ c gone. no_recipient c) before hides))
  values-alike (fields.Header name) hides =
      ap (λ (l : List Header). values_named name (reverse l))
      (with_command header_in (parts-alike keeps (shown_at (fields.Header name)) header_in (λ c gone. no_header c) before hides))
  values-alike fields.Body hides =
      ap (λ (l : List (List ℕ)). concat (reverse l) ∷ [])
      (with_command chunk_in (parts-alike keeps (shown_at fields.Body) chunk_in (no_chunk keeps ends) before hides))
  values-alike (fields.Macro name) hides =
      ap (λ (l : List Pair). option_to_list (value_in l name))
      (flat_map-cons pairs_in command (filter keeps before)
      ∙ ap (λ (l : List Pair). pairs_in command ++ l) (pairs-alike keeps (shown_at (fields.Macro name)) no_pairs before hides)
      ∙ sym (flat_map-cons pairs_in command before))

  -- what a check looks at is shown alike
  pub check-alike : (m : Matching) (check : Check) → HidesNone keeps (looked_at check) before
      → check_holds m some check ≡ check_holds m all check
  check-alike m (checks.Text c) hides =
      ap (λ (values : List (List ℕ)). passes c.test (list_any (finds_some m.case c) values)) (values-alike c.field hides)
  check-alike m (checks.Within networks) hides =
      ap (λ (c : Option Client). list_any (is_within_some networks) (client_address (record some { client = c }))) (client-alike hides)
  check-alike m (checks.Over Size limit) hides =
      ap (λ (l : List (List ℕ)). nat_lt limit (length (concat (reverse l))))
      (with_command chunk_in (parts-alike keeps (Some stages.Body) chunk_in (no_chunk keeps ends) before hides))
  check-alike m (checks.Over Rcpts limit) hides =
      ap (λ (l : List Path). nat_lt limit (length (reverse l)))
      (with_command recipient_in
      (parts-alike keeps (Some stages.Rcpt) recipient_in (λ c gone. no_recipient c) before hides))
  check-alike m (checks.In field name) hides =
      ap (λ (values : List (List ℕ)). list_any (m.listed name) values) (values-alike field hides)
