-- What the reading of a file, and the printing of what it has, leave, where the bytes of its reader and its writer are
-- known. A file has a value, as a session or rules, by a relation of its bytes with it.
use Rattle.std.specs.Prelude.{◌≡◌, ℕ, List, ◌++◌, Option, None, Some, IfSome, codes, decimal}
use Rattle.std.specs.Io.KnownBytes.{Appends}
use Rattle.std.specs.declared.io.ErrorKind.{ErrorKind}
use Rattle.std.specs.declared.io.ErrorKind.TheVariants.{OutOfMemory}
use Rattle.milter_text.specs.declared.text_fault.TextFault.{TextFault}
use Rattle.milter_text.specs.declared.text_fault.TextFault.TheVariants as texts
use Rattle.milter_cli.specs.declared.file_error.FileError.{FileError}
use Rattle.milter_cli.specs.declared.file_error.FileError.TheVariants.{Read, Fault, Write, NoMemory}
use Rattle.milter_cli.specs.declared.file_error.InputFile.{InputFile}
use Rattle.milter_cli.specs.declared.file_error.InputFile.TheVariants.{Session, Rules, Events, Reports, Trace, Capture}

-- the input has this value
abbrev pub Has : {V : Type 0} → (List ℕ → V → Type 0) → Option (List ℕ) → V → Type 0
Has IsFile input value = IfSome input (λ bytes. IsFile bytes value)

-- the input has none
abbrev pub HasNone : {V : Type 0} → (List ℕ → V → Type 0) → Option (List ℕ) → Type 0
HasNone IsFile input = IfSome input (λ bytes. (value : _) → ¬ IsFile bytes value)

-- the input has a value, and its canonical text was written and nothing else
abbrev pub WritesCanonical : {V : Type 0} → (List ℕ → V → Type 0) → (V → List ℕ) → Option (List ℕ) → Option (List ℕ)
    → Option (List ℕ) → Type 0
WritesCanonical IsFile text input before after =
    IfSome input (λ bytes. (value : _) × IsFile bytes value × Appends before after (text value))

-- the faults of the file's lines
abbrev pub IsFileFault : FileError → Type 0
IsFileFault (Read file) = ⊥
IsFileFault (Fault file line number) = Unit {0}
IsFileFault Write = ⊥
IsFileFault NoMemory = ⊥

-- a fault of the file's lines, where it has no value, or refused memory
abbrev pub IsFaultOrMemory : {V : Type 0} → (List ℕ → V → Type 0) → List ℕ → FileError → Type 0
IsFaultOrMemory IsFile bytes (Read file) = ⊥
IsFaultOrMemory IsFile bytes (Fault file line number) = HasNone IsFile (Some bytes)
IsFaultOrMemory IsFile bytes Write = ⊥
IsFaultOrMemory IsFile bytes NoMemory = Unit {0}

-- what names a file names this one
abbrev pub IsOf : InputFile → FileError → Type 0
IsOf file (Read named) = named ≡ file
IsOf file (Fault named line number) = named ≡ file
IsOf file Write = Unit {0}
IsOf file NoMemory = Unit {0}

-- a file isn't read where memory is refused, or where the system fails
abbrev pub read_error : InputFile → ErrorKind → FileError
read_error file OutOfMemory = NoMemory
read_error file _ = Read file

-- the line of a fault and its number, or that memory was refused
abbrev pub fault_error : InputFile → Option ℕ → ℕ → FileError
fault_error file (Some line) number = Fault file line number
fault_error file None number = NoMemory

abbrev pub text_error : TextFault → FileError
text_error texts.Write = Write
text_error texts.NoMemory = NoMemory

-- the word of a file in fault lines
abbrev pub file_word : InputFile → List ℕ
file_word Session = codes "session"
file_word Rules = codes "rules"
file_word Events = codes "events"
file_word Reports = codes "reports"
file_word Trace = codes "trace"
file_word Capture = codes "capture"

-- the line of an error
abbrev pub file_error_text : FileError → List ℕ
file_error_text (Read file) = codes "cannot read " ++ file_word file
file_error_text (Fault file line number) =
    file_word file ++ codes " line " ++ decimal line ++ codes ": fault " ++ decimal number
file_error_text Write = codes "write fault"
file_error_text NoMemory = codes "out of memory"
