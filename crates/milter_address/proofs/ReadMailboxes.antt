-- What the content and the domain of a mailbox have from the bytes in which it is read.
use Rattle.std.proofs.Common.{◌≡◌, ◌⊎◌, ℕ, Bool, true, false, List, [], ◌∷◌, ◌&&◌, Option, Some, None, drop, refl, subst, inl, inr, ◌+◌}
use Rattle.std.specs.Prelude.{◌||◌, if◌then◌else◌}
use Rattle.std.specs.List.{before_first, position_or_len}
use Rattle.std.proofs.lemmas.Bool.{or_left, or_right}
use Rattle.milter_address.specs.Bytes.{is_at, is_backslash, is_colon, is_paired, is_qtext, is_quote}
use Rattle.milter_address.specs.LocalPart.{LocalPart, dot_string, is_dot_string, local_part, onto, quoted_content}
use Rattle.milter_address.specs.Mailbox.{Mailbox, at_domain, behind_local_part, behind_route, is_domain, is_route, mailbox, path_mailbox, with_domain}
use Rattle.milter_address.proofs.EachByte.{Each, each_take, from_drop}

-- a byte that a Quoted-string may have
abbrev pub fits : ℕ → Bool
fits byte = is_qtext byte || is_paired byte

abbrev pub TailClosed : (List ℕ → Type 0) → Type 0
TailClosed P = (byte : ℕ) (bytes : List ℕ) → P (byte ∷ bytes) → P bytes

-- ---- Quoted-strings

pub record QuotedRead (P : List ℕ → Type 0) (Q : ℕ → Type 0) (part : LocalPart) : Type 0 where
  pub rest : P part.rest
  pub content : Each Q part.content
  pub fit : Each (λ byte. fits byte ≡ true) part.content

onto_read : (P : List ℕ → Type 0) (Q : ℕ → Type 0) (byte : ℕ) (part : LocalPart) (found : Option LocalPart)
    → ((inner : LocalPart) → found ≡ Some inner → QuotedRead P Q inner) → Q byte → fits byte ≡ true → onto byte found ≡ Some part
    → QuotedRead P Q part
onto_read P Q byte part None again q fit e = absurd cc
onto_read P Q byte part (Some inner) again q fit e =
    let read = again inner refl in
    let same : record { content = byte ∷ inner.content; rest = inner.rest } ≡ part = cc in
    subst (λ p. QuotedRead P Q p) same (record { rest = read.rest; content = (q, read.content); fit = (fit, read.fit) })

paired_read : (P : List ℕ → Type 0) (Q : ℕ → Type 0) (byte : ℕ) (bytes : List ℕ) (part : LocalPart) (test : Bool) → is_paired byte ≡ test
    → ((inner : LocalPart) → quoted_content false bytes ≡ Some inner → QuotedRead P Q inner) → Q byte
    → (if test then onto byte (quoted_content false bytes) else None) ≡ Some part → QuotedRead P Q part
paired_read P Q byte bytes part false is again q e = absurd cc
paired_read P Q byte bytes part true is again q e =
    onto_read P Q byte part (quoted_content false bytes) again q (or_right (is_qtext byte) (is_paired byte) is) e

bare_read : (P : List ℕ → Type 0) (Q : ℕ → Type 0) (byte : ℕ) (bytes : List ℕ) (part : LocalPart) (closes pairs test : Bool) → is_qtext byte ≡ test
    → P bytes → ((next : Bool) (inner : LocalPart) → quoted_content next bytes ≡ Some inner → QuotedRead P Q inner) → Q byte
    → (if closes then Some (record { content = []; rest = bytes }) else if pairs then quoted_content true bytes else if test then onto byte (quoted_content false bytes) else None) ≡ Some part
    → QuotedRead P Q part
bare_read P Q byte bytes part true pairs test is behind again q e =
    let same : record { content = []; rest = bytes } ≡ part = cc in
    subst (λ p. QuotedRead P Q p) same (record { rest = behind; content = tt; fit = tt })
bare_read P Q byte bytes part false true test is behind again q e = again true part e
bare_read P Q byte bytes part false false true is behind again q e =
    onto_read P Q byte part (quoted_content false bytes) (again false) q (or_left (is_qtext byte) (is_paired byte) is) e
bare_read P Q byte bytes part false false false is behind again q e = absurd cc

pub quoted_read : (P : List ℕ → Type 0) (Q : ℕ → Type 0) → TailClosed P → (paired : Bool) (bytes : List ℕ) (part : LocalPart)
    → P bytes → Each Q bytes → quoted_content paired bytes ≡ Some part → QuotedRead P Q part
quoted_read P Q tail paired [] part whole each e = absurd cc
quoted_read P Q tail true (byte ∷ bytes) part whole each e =
    paired_read P Q byte bytes part (is_paired byte) refl
    (λ inner same. quoted_read P Q tail false bytes inner (tail byte bytes whole) each.1 same) each.0 e
quoted_read P Q tail false (byte ∷ bytes) part whole each e =
    bare_read P Q byte bytes part (is_quote byte) (is_backslash byte) (is_qtext byte) refl (tail byte bytes whole)
    (λ next inner same. quoted_read P Q tail next bytes inner (tail byte bytes whole) each.1 same) each.0 e

-- ---- local parts

-- a content that has a canonical form
abbrev pub IsContent : List ℕ → Type 0
IsContent content = (is_dot_string content ≡ true) ⊎ Each (λ byte. fits byte ≡ true) content

pub record LocalRead (P : List ℕ → Type 0) (Q : ℕ → Type 0) (part : LocalPart) : Type 0 where
  pub rest : P part.rest
  pub content : Each Q part.content
  pub is : IsContent part.content

dotted_read : (P : List ℕ → Type 0) (Q : ℕ → Type 0) → TailClosed P → (bytes : List ℕ) (part : LocalPart) (test : Bool)
    → is_dot_string (before_first is_at bytes) ≡ test → P bytes → Each Q bytes
    → (if test then Some (record { content = before_first is_at bytes; rest = drop (position_or_len is_at bytes) bytes }) else None) ≡ Some part
    → LocalRead P Q part
dotted_read P Q tail bytes part false is whole each e = absurd cc
dotted_read P Q tail bytes part true is whole each e =
    let same : record { content = before_first is_at bytes; rest = drop (position_or_len is_at bytes) bytes } ≡ part = cc in
    subst (λ p. LocalRead P Q p) same (record {
      rest = from_drop P tail (position_or_len is_at bytes) bytes whole;
      content = each_take Q (position_or_len is_at bytes) bytes each;
      is = inl is;
    })

local_read_at : (P : List ℕ → Type 0) (Q : ℕ → Type 0) → TailClosed P → (byte : ℕ) (bytes : List ℕ) (part : LocalPart) (quote : Bool)
    → P (byte ∷ bytes) → Each Q (byte ∷ bytes)
    → (if quote then quoted_content false bytes else dot_string (byte ∷ bytes)) ≡ Some part → LocalRead P Q part
local_read_at P Q tail byte bytes part true whole each e =
    let read = quoted_read P Q tail false bytes part (tail byte bytes whole) each.1 e in
    record { rest = read.rest; content = read.content; is = inr read.fit }
local_read_at P Q tail byte bytes part false whole each e =
    dotted_read P Q tail (byte ∷ bytes) part (is_dot_string (before_first is_at (byte ∷ bytes))) refl whole each e

local_read : (P : List ℕ → Type 0) (Q : ℕ → Type 0) → TailClosed P → (bytes : List ℕ) (part : LocalPart)
    → P bytes → Each Q bytes → local_part bytes ≡ Some part → LocalRead P Q part
local_read P Q tail [] part whole each e = absurd cc
local_read P Q tail (byte ∷ bytes) part whole each e =
    local_read_at P Q tail byte bytes part (is_quote byte) whole each e

-- ---- mailboxes

pub record MailboxRead (P : List ℕ → Type 0) (Q : ℕ → Type 0) (box : Mailbox) : Type 0 where
  pub domain : P box.domain
  pub content : Each Q box.content
  pub is : IsContent box.content
  pub named : is_domain box.domain ≡ true

pub record DomainRead (P : List ℕ → Type 0) (domain : List ℕ) : Type 0 where
  pub whole : P domain
  pub named : is_domain domain ≡ true

domain_read_at : (P : List ℕ → Type 0) (bytes domain : List ℕ) (at test : Bool) → is_domain bytes ≡ test → P bytes
    → (if at && test then Some bytes else None) ≡ Some domain → DomainRead P domain
domain_read_at P bytes domain true true is whole e =
    let same : bytes ≡ domain = cc in subst (λ d. DomainRead P d) same (record { whole = whole; named = is })
domain_read_at P bytes domain true false is whole e = absurd cc
domain_read_at P bytes domain false test is whole e = absurd cc

domain_read : (P : List ℕ → Type 0) → TailClosed P → (bytes domain : List ℕ) → P bytes → at_domain bytes ≡ Some domain → DomainRead P domain
domain_read P tail [] domain whole e = absurd cc
domain_read P tail (byte ∷ bytes) domain whole e =
    domain_read_at P bytes domain (is_at byte) (is_domain bytes) refl (tail byte bytes whole) e

with_domain_read : (P : List ℕ → Type 0) (Q : ℕ → Type 0) → TailClosed P → (part : LocalPart) (box : Mailbox) (found : Option (List ℕ))
    → LocalRead P Q part → at_domain part.rest ≡ found → with_domain part.content found ≡ Some box → MailboxRead P Q box
with_domain_read P Q tail part box None read is e = absurd cc
with_domain_read P Q tail part box (Some domain) read is e =
    let same : record { content = part.content; domain = domain } ≡ box = cc in
    let named = domain_read P tail part.rest domain read.rest is in
    subst (λ b. MailboxRead P Q b) same
    (record { domain = named.whole; content = read.content; is = read.is; named = named.named })

behind_local_read : (P : List ℕ → Type 0) (Q : ℕ → Type 0) → TailClosed P → (bytes : List ℕ) (box : Mailbox) (found : Option LocalPart)
    → P bytes → Each Q bytes → local_part bytes ≡ found → behind_local_part found ≡ Some box → MailboxRead P Q box
behind_local_read P Q tail bytes box None whole each is e = absurd cc
behind_local_read P Q tail bytes box (Some part) whole each is e =
    with_domain_read P Q tail part box (at_domain part.rest) (local_read P Q tail bytes part whole each is) refl e

pub mailbox_read : (P : List ℕ → Type 0) (Q : ℕ → Type 0) → TailClosed P → (bytes : List ℕ) (box : Mailbox)
    → P bytes → Each Q bytes → mailbox bytes ≡ Some box → MailboxRead P Q box
mailbox_read P Q tail bytes box whole each e = behind_local_read P Q tail bytes box (local_part bytes) whole each refl e

pub behind_route_keeps : (P : List ℕ → Type 0) → TailClosed P → (bytes : List ℕ) → P bytes → P (behind_route bytes)
behind_route_keeps P tail bytes whole =
    elim (is_route (before_first is_colon bytes)) as (λ v. P (if v then drop (position_or_len is_colon bytes + 1) bytes else bytes))
    [ true ↦ from_drop P tail (position_or_len is_colon bytes + 1) bytes whole | false ↦ whole ]

each_tail : (Q : ℕ → Type 0) (byte : ℕ) (bytes : List ℕ) → Each Q (byte ∷ bytes) → Each Q bytes
each_tail Q byte bytes each = each.1

pub path_read : (P : List ℕ → Type 0) (Q : ℕ → Type 0) → TailClosed P → (bytes : List ℕ) (box : Mailbox)
    → P bytes → Each Q bytes → path_mailbox bytes ≡ Some box → MailboxRead P Q box
path_read P Q tail bytes box whole each e =
    mailbox_read P Q tail (behind_route bytes) box (behind_route_keeps P tail bytes whole)
    (behind_route_keeps (Each Q) (each_tail Q) bytes each) e
