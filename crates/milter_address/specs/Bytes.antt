-- The bytes of mailboxes: RFC 5321, 4.1.2, and RFC 5322, 3.2.3, with those above 127, which RFC 6531, 3.3, adds.
use Rattle.std.specs.Prelude.{ℕ, Bool, ◌==◌, ◌||◌, nat_le, codes}
use Rattle.std.specs.Char.{is_ascii_alphanumeric}
use Rattle.std.specs.Int.{is_in_range}
use Rattle.std.specs.List.{list_any}

abbrev pub is_quote : ℕ → Bool
is_quote byte = byte == 34

abbrev pub is_comma : ℕ → Bool
is_comma byte = byte == 44

abbrev pub is_dot : ℕ → Bool
is_dot byte = byte == 46

abbrev pub is_colon : ℕ → Bool
is_colon byte = byte == 58

abbrev pub is_at : ℕ → Bool
is_at byte = byte == 64

abbrev pub is_backslash : ℕ → Bool
is_backslash byte = byte == 92

-- atext: letters, digits and these
abbrev pub is_atext : ℕ → Bool
is_atext byte =
    is_ascii_alphanumeric byte || list_any (λ sign. sign == byte) (codes "!#$%&'*+-/=?^_`{|}~") || nat_le 128 byte

-- qtextSMTP: a byte that stands for itself between quotes
abbrev pub is_qtext : ℕ → Bool
is_qtext byte = is_in_range 32 33 byte || is_in_range 35 91 byte || is_in_range 93 126 byte || nat_le 128 byte

-- the second byte of a quoted-pairSMTP
abbrev pub is_paired : ℕ → Bool
is_paired byte = is_in_range 32 126 byte
