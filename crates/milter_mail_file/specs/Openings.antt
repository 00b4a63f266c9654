-- A line that has a value begins with its keyword.
use Rattle.std.specs.Prelude.{◌≡◌, ℕ, Bool, true, false, ◌&&◌, List, [], ◌∷◌, codes, Option, None, Some, refl}
use Rattle.std.specs.Prelude.{if◌then◌else◌}
use Rattle.std.specs.Option.{option_map}
use Rattle.std.proofs.lemmas.Bool.{and_parts}
use Rattle.milter_fields.specs.declared.header.Header.{Header}
use Rattle.milter_fields.specs.declared.path.Path.{Path}
use Rattle.milter_text.specs.declared.word.Word.{Word}
use Rattle.milter_mail_file.specs.declared.session_macros.MacroLine.{MacroLine}
use Rattle.milter_text.specs.WordValues.{begins, is_keyword, text_of, texts_of}
use Rattle.milter_mail_file.specs.LineValues.{header_of, is_name, macro_of, macro_with, path_of, path_with, chunk_of}
use Rattle.milter_mail_file.specs.LineValues.{stage_of}

begins_if : {X : Type 0} (test : Bool) (value : Option X) (x : X) → (if test then value else None) ≡ Some x
    → test ≡ true
begins_if true value x e = refl
begins_if false value x e = absurd cc

pub path_begins : (text : List ℕ) (words : List Word) (x : Path) → path_of text words ≡ Some x
    → begins text words ≡ true
path_begins text [] x e = absurd cc
path_begins text (first ∷ words) x e = begins_if (is_keyword text first) (path_with (texts_of words)) x e

pub header_begins : (words : List Word) (x : Header) → header_of words ≡ Some x
    → begins (codes "header") words ≡ true
header_begins (first ∷ name ∷ value ∷ []) x e =
    (and_parts (is_keyword (codes "header") first) (name.quoted && (value.quoted && is_name name.text))
    (begins_if (is_keyword (codes "header") first && (name.quoted && (value.quoted && is_name name.text)))
    (Some (record { name = name.text; value = value.text })) x e)).0
header_begins _ x e = absurd cc

pub chunk_begins : (words : List Word) (x : List ℕ) → chunk_of words ≡ Some x → begins (codes "body") words ≡ true
chunk_begins (first ∷ text ∷ []) x e = begins_if (is_keyword (codes "body") first) (text_of text) x e
chunk_begins _ x e = absurd cc

pub macro_begins : (words : List Word) (x : MacroLine) → macro_of words ≡ Some x
    → begins (codes "macro") words ≡ true
macro_begins (first ∷ stage ∷ name ∷ value ∷ []) x e =
    (and_parts (is_keyword (codes "macro") first) (name.quoted && value.quoted)
    (begins_if (is_keyword (codes "macro") first && (name.quoted && value.quoted))
    (option_map (macro_with name.text value.text) (stage_of stage)) x e)).0
macro_begins _ x e = absurd cc
