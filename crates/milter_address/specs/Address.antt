-- The address of a MAIL FROM or RCPT TO command in the form in which addresses are compared.
use Rattle.std.specs.Prelude.{ℕ, Bool, ◌==◌, ◌||◌, List, [], ◌∷◌, Option, None, Some, unwrap_or, if◌then◌else◌}
use Rattle.std.specs.List.{after_last, list_any}
use Rattle.std.specs.Str.{str_to_ascii_lowercase}
use Rattle.milter_address.specs.Bytes.{is_at, is_dot, is_quote}
use Rattle.milter_address.specs.LocalPart.{quoted_rest}
use Rattle.milter_address.specs.Mailbox.{Mailbox, mailbox_text, path_mailbox}
use Rattle.milter_address.specs.Trimmed.{trimmed_end, trimmed_start}

abbrev pub opens : ℕ → Bool
opens byte = byte == 60

abbrev pub closes : ℕ → Bool
closes byte = byte == 62 || is_dot byte

-- without `<` at the start, and without `>` and dots at the end
abbrev pub bare : List ℕ → List ℕ
bare text = trimmed_end closes (trimmed_start opens text)

-- a mailbox in its canonical form, or bytes that are no mailbox as they are
abbrev pub text_or : List ℕ → Option Mailbox → List ℕ
text_or bytes None = bytes
text_or bytes (Some box) = mailbox_text box

-- a bare path in its canonical form
abbrev pub canonical_path : List ℕ → List ℕ
canonical_path bytes = text_or bytes (path_mailbox bytes)

-- in lower case, bare, and then a mailbox in its canonical form
abbrev pub canonical_address : List ℕ → List ℕ
canonical_address text = canonical_path (bare (str_to_ascii_lowercase text))

-- ---- the domain

-- the bytes behind the Quoted-string that an address begins with, or all where it begins with none
abbrev pub behind_quotes : List ℕ → List ℕ
behind_quotes [] = []
behind_quotes (byte ∷ bytes) =
    if is_quote byte then unwrap_or (quoted_rest bytes) (byte ∷ bytes) else byte ∷ bytes

-- the bytes behind the last `@`, or none where there is no `@`
abbrev pub behind_last_at : List ℕ → List ℕ
behind_last_at bytes = if list_any is_at bytes then after_last is_at bytes else []

-- the domain of an address
abbrev pub domain_of : List ℕ → List ℕ
domain_of address = behind_last_at (behind_quotes address)
