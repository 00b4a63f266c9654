-- The reading of files and the printing of what they have.
use Rattle.std.proofs.Common.{◌≡◌, ℕ, ◌+◌, ◌≤◌, List, length, take, Option, None, Some, IfSome, Result, Ok, Err, IfErr, sym, ap, subst, ◌∙◌, arith}
use Rattle.std.specs.Prelude.{option_map}
use Rattle.std.proofs.lemmas.List.{length-take, take_all}
use Rattle.milter_cli.specs.declared.file_error.InputFile.{InputFile}
use Rattle.milter_cli.specs.declared.file_error.FileError.{FileError}
use Rattle.milter_cli.specs.declared.file_error.FileError.TheVariants.{Read, Fault, Write, NoMemory}
use Rattle.milter_cli.specs.FileRun.{HasNone, IsFaultOrMemory, IsFileFault, fault_error}

-- a fault without a line is no fault of the file
pub fault_error-none : (file : InputFile) (line : Option ℕ) (number : ℕ) → IsFileFault (fault_error file line number) → line ≡ None → ⊥
fault_error-none file line number h is = subst (λ (x : Option ℕ). IsFileFault (fault_error file x number)) is h

module _ {V : Type 0} (IsFile : List ℕ → V → Type 0) (input : Option (List ℕ)) (file : List ℕ) where
  pub has_none : IfSome input (λ bytes. file ≡ bytes) → ((v : V) → IsFile file v → ⊥) → HasNone IsFile input
  has_none is none = go input is
    where
      go : (i : Option (List ℕ)) → IfSome i (λ bytes. file ≡ bytes) → HasNone IsFile i
      go None is = tt
      go (Some bytes) is = λ v read. none v (subst (λ (x : List ℕ). IsFile x v) (sym is) read)

pub whole_file : (limit : ℕ) (input : Option (List ℕ)) (items : List ℕ) → IfSome (option_map (take limit) input) (λ xs. items ≡ xs) → length items + 1 ≤ limit
    → IfSome input (λ bytes. items ≡ bytes)
whole_file limit None items is short = tt
whole_file limit (Some xs) items is short = is ∙ take_all limit xs (omega (arith, ap length is, length-take limit xs))

-- bytes that have a value have no fault with a line
pub fault_or_memory : {V : Type 0} (IsFile : List ℕ → V → Type 0) (bytes : List ℕ) (file : InputFile) (line : Option ℕ) (number : ℕ)
    → ((v : V) → IsFile bytes v → line ≡ None) → IsFaultOrMemory IsFile bytes (fault_error file line number)
fault_or_memory IsFile bytes file None number unless = tt
fault_or_memory IsFile bytes file (Some line) number unless = λ v is. let has : Some line ≡ None = unless v is in cc

-- a fault of what was read is one of the input
pub fault_has_none : {V T : Type 0} (IsFile : List ℕ → V → Type 0) (input : Option (List ℕ)) (file : List ℕ) (result : Result T FileError)
    → IfSome input (λ bytes. file ≡ bytes) → IfErr result (IsFaultOrMemory IsFile file) → IfErr result (λ e. IsFileFault e → HasNone IsFile input)
fault_has_none IsFile input file (Ok value) is reason = tt
fault_has_none IsFile input file (Err (Read kind)) is reason = λ fault. absurd fault
fault_has_none IsFile input file (Err (Fault kind line number)) is reason = λ fault. has_none IsFile input file is reason
fault_has_none IsFile input file (Err Write) is reason = λ fault. absurd fault
fault_has_none IsFile input file (Err NoMemory) is reason = λ fault. absurd fault
