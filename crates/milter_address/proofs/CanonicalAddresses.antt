-- A canonical address is its own canonical form, and its domain is that of its mailbox.
use Rattle.std.proofs.Common.{◌≡◌, ℕ, Bool, true, false, List, [], ◌∷◌, ◌++◌, ◌&&◌, Option, Some, None, map, refl, ap, ◌∙◌, sym, subst}
use Rattle.std.specs.Prelude.{◌||◌, if◌then◌else◌}
use Rattle.std.specs.Char.{to_ascii_lowercase}
use Rattle.std.specs.List.{flat_map, list_all}
use Rattle.std.specs.Str.{str_to_ascii_lowercase}
use Rattle.std.proofs.lemmas.List.Folds.{list_all-append}
use Rattle.std.proofs.lemmas.Str.Ascii.{lowercase-lowercase}
use Rattle.milter_address.specs.Address.{bare, canonical_address, canonical_path, closes, opens, text_or}
use Rattle.milter_address.specs.Bytes.{is_backslash, is_quote}
use Rattle.milter_address.specs.LocalPart.{is_dot_string, local_text, quoted_byte}
use Rattle.milter_address.specs.Mailbox.{Mailbox, mailbox_text, path_mailbox}
use Rattle.milter_address.specs.Trimmed.{trimmed_end, trimmed_start}
use Rattle.milter_address.proofs.EachByte.{Each, and_false, each_append}
use Rattle.milter_address.proofs.ReadMailboxes.{MailboxRead, path_read}
use Rattle.milter_address.proofs.WrittenMailboxes.{LocalHead, mailbox_again, mailbox_head}

-- ---- bytes in lower case

abbrev IsLower : ℕ → Type 0
IsLower byte = to_ascii_lowercase byte ≡ byte

lower_same : (bytes : List ℕ) → Each IsLower bytes → str_to_ascii_lowercase bytes ≡ bytes
lower_same [] each = refl
lower_same (byte ∷ bytes) each =
    ap (λ b. b ∷ map to_ascii_lowercase bytes) each.0 ∙ ap (λ bs. byte ∷ bs) (lower_same bytes each.1)

lower_each : (text : List ℕ) → Each IsLower (str_to_ascii_lowercase text)
lower_each [] = tt
lower_each (byte ∷ text) = (lowercase-lowercase byte, lower_each text)

quoted_byte_lower : (byte : ℕ) (special : Bool) → IsLower byte → Each IsLower (if special then 92 ∷ byte ∷ [] else byte ∷ [])
quoted_byte_lower byte true lower = (refl, (lower, tt))
quoted_byte_lower byte false lower = (lower, tt)

quoted_lower : (content : List ℕ) → Each IsLower content → Each IsLower (flat_map quoted_byte content)
quoted_lower [] each = tt
quoted_lower (byte ∷ content) each =
    each_append IsLower (quoted_byte byte) (flat_map quoted_byte content)
    (quoted_byte_lower byte (is_quote byte || is_backslash byte) each.0) (quoted_lower content each.1)

local_lower : (content : List ℕ) (dotted : Bool) → Each IsLower content
    → Each IsLower (if dotted then content else 34 ∷ flat_map quoted_byte content ++ 34 ∷ [])
local_lower content true each = each
local_lower content false each =
    (refl, each_append IsLower (flat_map quoted_byte content) (34 ∷ []) (quoted_lower content each) (refl, tt))

mailbox_lower : (box : Mailbox) → Each IsLower box.content → Each IsLower box.domain → Each IsLower (mailbox_text box)
mailbox_lower box content domain =
    each_append IsLower (local_text box.content) (64 ∷ box.domain) (local_lower box.content (is_dot_string box.content) content) (refl, domain)

-- ---- trimmed bytes

start_each : (P : ℕ → Type 0) (test : ℕ → Bool) (bytes : List ℕ) → Each P bytes → Each P (trimmed_start test bytes)
start_each P test [] each = tt
start_each P test (byte ∷ bytes) each =
    elim (test byte) as (λ v. Each P (if v then trimmed_start test bytes else byte ∷ bytes))
    [ true ↦ start_each P test bytes each.1 | false ↦ each ]

end_each : (P : ℕ → Type 0) (test : ℕ → Bool) (bytes : List ℕ) → Each P bytes → Each P (trimmed_end test bytes)
end_each P test [] each = tt
end_each P test (byte ∷ bytes) each =
    elim (list_all test (byte ∷ bytes)) as (λ v. Each P (if v then [] else byte ∷ trimmed_end test bytes))
    [ true ↦ tt | false ↦ (each.0, end_each P test bytes each.1) ]

-- all pass where all but those at the end do
end_all_at : (test : ℕ → Bool) (byte : ℕ) (bytes : List ℕ) (all : Bool) → list_all test (byte ∷ bytes) ≡ all
    → list_all test (trimmed_end test bytes) ≡ list_all test bytes
    → list_all test (if all then [] else byte ∷ trimmed_end test bytes) ≡ all
end_all_at test byte bytes true is same = refl
end_all_at test byte bytes false is same = ap (λ v. test byte && v) same ∙ is

end_all : (test : ℕ → Bool) (bytes : List ℕ) → list_all test (trimmed_end test bytes) ≡ list_all test bytes
end_all test [] = refl
end_all test (byte ∷ bytes) = end_all_at test byte bytes (list_all test (byte ∷ bytes)) refl (end_all test bytes)

end_again_at : (test : ℕ → Bool) (byte : ℕ) (bytes : List ℕ) (all : Bool) → list_all test (byte ∷ bytes) ≡ all
    → trimmed_end test (trimmed_end test bytes) ≡ trimmed_end test bytes
    → trimmed_end test (if all then [] else byte ∷ trimmed_end test bytes) ≡ (if all then [] else byte ∷ trimmed_end test bytes)
end_again_at test byte bytes true is same = refl
end_again_at test byte bytes false is same =
    let some : list_all test (byte ∷ trimmed_end test bytes) ≡ false = ap (λ v. test byte && v) (end_all test bytes) ∙ is in
    rw some (ap (λ bs. byte ∷ bs) same)

end_again : (test : ℕ → Bool) (bytes : List ℕ) → trimmed_end test (trimmed_end test bytes) ≡ trimmed_end test bytes
end_again test [] = refl
end_again test (byte ∷ bytes) =
    end_again_at test byte bytes (list_all test (byte ∷ bytes)) refl (end_again test bytes)

-- bytes without the first are trimmed at their end where all are
end_tail_at : (test : ℕ → Bool) (byte : ℕ) (bytes : List ℕ) (all : Bool)
    → (if all then [] else byte ∷ trimmed_end test bytes) ≡ byte ∷ bytes → trimmed_end test bytes ≡ bytes
end_tail_at test byte bytes true e = absurd cc
end_tail_at test byte bytes false e = cc

end_tail : (test : ℕ → Bool) (byte : ℕ) (bytes : List ℕ) → trimmed_end test (byte ∷ bytes) ≡ byte ∷ bytes → trimmed_end test bytes ≡ bytes
end_tail test byte bytes e = end_tail_at test byte bytes (list_all test (byte ∷ bytes)) e

end_kept : (test : ℕ → Bool) (lead back : List ℕ) → list_all test back ≡ false → trimmed_end test back ≡ back
    → trimmed_end test (lead ++ back) ≡ lead ++ back
end_kept test [] back some same = same
end_kept test (byte ∷ lead) back some same =
    let all : list_all test (byte ∷ (lead ++ back)) ≡ false =
    ap (λ v. test byte && v) (list_all-append test lead back ∙ ap (λ v. list_all test lead && v) some ∙ and_false (list_all test lead))
    ∙ and_false (test byte) in
    rw all (ap (λ bs. byte ∷ bs) (end_kept test lead back some same))

-- the first byte, if there is one, doesn't open a path
abbrev IsShut : List ℕ → Type 0
IsShut [] = Unit {0}
IsShut (byte ∷ bytes) = opens byte ≡ false

start_shut_at : (byte : ℕ) (bytes : List ℕ) (first : Bool) → opens byte ≡ first → IsShut (trimmed_start opens bytes)
    → IsShut (if first then trimmed_start opens bytes else byte ∷ bytes)
start_shut_at byte bytes true is shut = shut
start_shut_at byte bytes false is shut = is

start_shut : (bytes : List ℕ) → IsShut (trimmed_start opens bytes)
start_shut [] = tt
start_shut (byte ∷ bytes) = start_shut_at byte bytes (opens byte) refl (start_shut bytes)

end_shut : (bytes : List ℕ) → IsShut bytes → IsShut (trimmed_end closes bytes)
end_shut [] shut = tt
end_shut (byte ∷ bytes) shut =
    elim (list_all closes (byte ∷ bytes)) as (λ v. IsShut (if v then [] else byte ∷ trimmed_end closes bytes))
    [ true ↦ tt | false ↦ shut ]

shut_start : (bytes : List ℕ) → IsShut bytes → trimmed_start opens bytes ≡ bytes
shut_start [] shut = refl
shut_start (byte ∷ bytes) shut = rw shut refl

-- ---- bare paths

bare_same : (bytes : List ℕ) → IsShut bytes → trimmed_end closes bytes ≡ bytes → bare bytes ≡ bytes
bare_same bytes shut trimmed = ap (trimmed_end closes) (shut_start bytes shut) ∙ trimmed

bare_trimmed : (text : List ℕ) → trimmed_end closes (bare text) ≡ bare text
bare_trimmed text = end_again closes (trimmed_start opens text)

bare_again : (text : List ℕ) → bare (bare text) ≡ bare text
bare_again text = bare_same (bare text) (end_shut (trimmed_start opens text) (start_shut text)) (bare_trimmed text)

bare_lower : (text : List ℕ) → Each IsLower text → Each IsLower (bare text)
bare_lower text each = end_each IsLower closes (trimmed_start opens text) (start_each IsLower opens text each)

-- ---- mailboxes

-- bytes in lower case from whose end nothing is trimmed
record IsTail (bytes : List ℕ) : Type 0 where
  trimmed : trimmed_end closes bytes ≡ bytes
  lower : Each IsLower bytes

tail_tail : (byte : ℕ) (bytes : List ℕ) → IsTail (byte ∷ bytes) → IsTail bytes
tail_tail byte bytes tail = record { trimmed = end_tail closes byte bytes tail.trimmed; lower = tail.lower.1 }

head_shut : (bytes : List ℕ) → LocalHead bytes → IsShut bytes
head_shut bytes begin = subst IsShut (sym begin.is) begin.shut

canonical_mailbox : (box : Mailbox) → MailboxRead IsTail IsLower box → canonical_address (mailbox_text box) ≡ mailbox_text box
canonical_mailbox box read =
    let lower : str_to_ascii_lowercase (mailbox_text box) ≡ mailbox_text box =
    lower_same (mailbox_text box) (mailbox_lower box read.content read.domain.lower) in
    let trimmed : trimmed_end closes (mailbox_text box) ≡ mailbox_text box =
    end_kept closes (local_text box.content) (64 ∷ box.domain) refl (ap (λ bs. 64 ∷ bs) read.domain.trimmed) in
    let same : bare (mailbox_text box) ≡ mailbox_text box =
    bare_same (mailbox_text box) (head_shut (mailbox_text box) (mailbox_head box)) trimmed in
    ap (λ bs. canonical_path (bare bs)) lower ∙ ap canonical_path same
    ∙ ap (text_or (mailbox_text box)) (mailbox_again box read.is read.named)

canonical_text : (bytes : List ℕ) (found : Option Mailbox) → path_mailbox bytes ≡ found → bare bytes ≡ bytes → trimmed_end closes bytes ≡ bytes → Each IsLower bytes
    → canonical_address (text_or bytes found) ≡ text_or bytes found
canonical_text bytes None is same trimmed lower =
    ap (λ bs. canonical_path (bare bs)) (lower_same bytes lower) ∙ ap canonical_path same ∙ ap (text_or bytes) is
canonical_text bytes (Some box) is same trimmed lower =
    canonical_mailbox box (path_read IsTail IsLower tail_tail bytes box (record { trimmed = trimmed; lower = lower }) lower is)

pub canonical_again : (text : List ℕ) → canonical_address (canonical_address text) ≡ canonical_address text
canonical_again text =
    let lower = str_to_ascii_lowercase text in
    canonical_text (bare lower) (path_mailbox (bare lower)) refl (bare_again lower) (bare_trimmed lower) (bare_lower lower (lower_each text))
