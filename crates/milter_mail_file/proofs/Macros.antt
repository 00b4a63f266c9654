-- Macros of session files, one more at a time, and what the first of them have of what all of them have.
use Rattle.std.proofs.Common.{◌≡◌, ℕ, ◌+◌, ◌≤◌, Bool, true, false, List, [], ◌∷◌, ◌++◌, length, All, refl, sym, ap}
use Rattle.std.specs.Prelude.{if◌then◌else◌}
use Rattle.std.proofs.Common.{subst, ◌∙◌, append_assoc, arith}
use Rattle.std.specs.List.{filter_map, flat_map}
use Rattle.std.proofs.lemmas.Grind.{flat_map-append}
use Rattle.std.proofs.lemmas.List.{append-nil, length-append}
use Rattle.std.proofs.lemmas.List.Elements.{All-nil, All-cons, All-head, All-tail, filter_map-append}
use Rattle.milter_wire.specs.declared.command.Command.TheVariants as commands
use Rattle.milter_fields.specs.declared.pair.Pair.{Pair}
use Rattle.milter_wire.specs.Command.{Fits}
use Rattle.milter_fields.specs.Layout.{PairFits, pair}
use Rattle.milter_mail.specs.Macros.{Macros}
use Rattle.milter_mail.specs.MailSession.{MacrosFit}
use Rattle.milter_mail_file.specs.declared.session_macros.MacroLine.{MacroLine}
use Rattle.milter_wire.specs.declared.macro_stage.MacroStage.{MacroStage}
use Rattle.milter_wire.specs.declared.macro_stage.MacroStage.TheVariants.{Connect, Helo, Mail, Rcpt, DataCmd, Eom}
use Rattle.milter_wire.specs.declared.macro_stage.MacroStage.TheVariants.{Eoh}
use Rattle.milter_mail.specs.ByMacroStage.{at_stage, by_stage, changed_at, is_stage}
use Rattle.milter_mail_file.specs.SessionFile.{macros_of_lines, of_stage}

-- ---- one more macro

-- one more macro of a stage, as its last
abbrev pub with_macro : MacroStage → Pair → Macros → Macros
with_macro stage pair m = changed_at stage (λ pairs. pairs ++ pair ∷ []) m

-- the macros of the stage are those that were found, with this one
pub macro_added : (stage : MacroStage) (pair : Pair) (m : Macros)
    → changed_at stage (λ _. at_stage m stage ++ pair ∷ []) m ≡ with_macro stage pair m
macro_added Connect pair m = refl
macro_added Helo pair m = refl
macro_added Mail pair m = refl
macro_added Rcpt pair m = refl
macro_added DataCmd pair m = refl
macro_added Eom pair m = refl
macro_added Eoh pair m = refl

by_stage-same : (f g : MacroStage → List Pair) → ((stage : MacroStage) → f stage ≡ g stage) → by_stage f ≡ by_stage g
by_stage-same f g same = rw (same Connect, same Helo, same Mail, same Rcpt, same DataCmd, same Eom, same Eoh) refl

at_stage-by : (f : MacroStage → List Pair) (stage : MacroStage) → at_stage (by_stage f) stage ≡ f stage
at_stage-by f Connect = refl
at_stage-by f Helo = refl
at_stage-by f Mail = refl
at_stage-by f Rcpt = refl
at_stage-by f DataCmd = refl
at_stage-by f Eom = refl
at_stage-by f Eoh = refl

more_if : (stage : MacroStage) (lines : List MacroLine) (line : MacroLine) (same : Bool) → is_stage line.stage stage ≡ same
    → filter_map (of_stage stage) (lines ++ line ∷ []) ≡ (if same then filter_map (of_stage stage) lines ++ line.pair ∷ [] else filter_map (of_stage stage) lines)
more_if stage lines line true e = filter_map-append (of_stage stage) lines (line ∷ []) ∙ rw e refl
more_if stage lines line false e = filter_map-append (of_stage stage) lines (line ∷ []) ∙ rw e (append-nil (filter_map (of_stage stage) lines))

abbrev pairs_by : List MacroLine → MacroStage → List Pair
pairs_by lines stage = filter_map (of_stage stage) lines

more_at : (lines : List MacroLine) (line : MacroLine) (stage : MacroStage)
    → pairs_by (lines ++ line ∷ []) stage
    ≡ (if is_stage line.stage stage then at_stage (macros_of_lines lines) stage ++ line.pair ∷ [] else at_stage (macros_of_lines lines) stage)
more_at lines line stage =
    more_if stage lines line (is_stage line.stage stage) refl
    ∙ ap (λ (pairs : List Pair). if is_stage line.stage stage then pairs ++ line.pair ∷ [] else pairs) (sym (at_stage-by (pairs_by lines) stage))

pub macros_more : (lines : List MacroLine) (line : MacroLine) → macros_of_lines (lines ++ line ∷ []) ≡ with_macro line.stage line.pair (macros_of_lines lines)
macros_more lines line =
    by_stage-same (pairs_by (lines ++ line ∷ []))
    (λ stage. if is_stage line.stage stage then at_stage (macros_of_lines lines) stage ++ line.pair ∷ [] else at_stage (macros_of_lines lines) stage)
    (more_at lines line)

-- ---- the first macros fit where all do

all_prefix : {X : Type 0} (P : X → Type 0) (xs ys : List X) → All P (xs ++ ys) → All P xs
all_prefix P [] ys h = All-nil P
all_prefix P (x ∷ xs) ys h = All-cons P x xs (All-head P x (xs ++ ys) h) (all_prefix P xs ys (All-tail P x (xs ++ ys) h))

last_of : {X : Type 0} (P : X → Type 0) (xs : List X) (x : X) → All P (xs ++ x ∷ []) → P x
last_of P [] x h = All-head P x [] h
last_of P (y ∷ ys) x h = last_of P ys x (All-tail P y (ys ++ x ∷ []) h)

fits_prefix : (command : ℕ) (xs ys : List Pair) → Fits (commands.Macro command (xs ++ ys)) → Fits (commands.Macro command xs)
fits_prefix command xs ys h =
    let both = flat_map-append pair xs ys in
    let len = length-append (flat_map pair xs) (flat_map pair ys) in
    let whole : length (flat_map pair (xs ++ ys)) + 1 ≤ 65535 = omega (arith, h.payload) in
    let sum : length (flat_map pair (xs ++ ys)) ≡ length (flat_map pair xs) + length (flat_map pair ys) = ap length both ∙ len in
    record { fields = all_prefix PairFits xs ys h.fields; payload = omega (arith, whole, sum) }

stage_prefix : (command : ℕ) (stage : MacroStage) (lines more : List MacroLine) → Fits (commands.Macro command (pairs_by (lines ++ more) stage))
    → Fits (commands.Macro command (pairs_by lines stage))
stage_prefix command stage lines more h =
    fits_prefix command (pairs_by lines stage) (pairs_by more stage)
    (subst (λ pairs. Fits (commands.Macro command pairs)) (filter_map-append (of_stage stage) lines more) h)

macros_prefix : (lines more : List MacroLine) → MacrosFit (macros_of_lines (lines ++ more)) → MacrosFit (macros_of_lines lines)
macros_prefix lines more h =
    record {
      connect = stage_prefix 67 Connect lines more h.connect;
      helo = stage_prefix 72 Helo lines more h.helo;
      mail = stage_prefix 77 Mail lines more h.mail;
      rcpt = stage_prefix 82 Rcpt lines more h.rcpt;
      data_cmd = stage_prefix 84 DataCmd lines more h.data_cmd;
      eoh = stage_prefix 78 Eoh lines more h.eoh;
      eom = stage_prefix 69 Eom lines more h.eom;
    }

-- ---- the macro that comes next fits

pub next_macros_fit : (lines more : List MacroLine) (line : MacroLine) → MacrosFit (macros_of_lines (lines ++ line ∷ more)) → MacrosFit (with_macro line.stage line.pair (macros_of_lines lines))
next_macros_fit lines more line h =
    let whole = subst (λ l. MacrosFit (macros_of_lines l)) (sym (append_assoc lines (line ∷ []) more)) h in
    subst MacrosFit (macros_more lines line) (macros_prefix (lines ++ line ∷ []) more whole)

-- the macros of the stage fit a packet of some command
pub changed_fits : (stage : MacroStage) (pair : Pair) (m : Macros) → MacrosFit (with_macro stage pair m)
    → (command : ℕ) × Fits (commands.Macro command (at_stage m stage ++ pair ∷ []))
changed_fits Connect pair m h = (67, h.connect)
changed_fits Helo pair m h = (72, h.helo)
changed_fits Mail pair m h = (77, h.mail)
changed_fits Rcpt pair m h = (82, h.rcpt)
changed_fits DataCmd pair m h = (84, h.data_cmd)
changed_fits Eom pair m h = (69, h.eom)
changed_fits Eoh pair m h = (78, h.eoh)

pub next_pair_fits : (lines more : List MacroLine) (line : MacroLine) → MacrosFit (macros_of_lines (lines ++ line ∷ more)) → PairFits line.pair
next_pair_fits lines more line h =
    let before = macros_of_lines lines in
    let fits = changed_fits line.stage line.pair before (next_macros_fit lines more line h) in
    last_of PairFits (at_stage before line.stage) line.pair fits.1.fields
