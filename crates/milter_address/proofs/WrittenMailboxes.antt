-- A mailbox that is written in its canonical form is read again as the same.
use Rattle.std.proofs.Common.{◌≡◌, ℕ, Bool, true, false, List, [], ◌∷◌, ◌++◌, ◌&&◌, Some, length, take, drop, refl, ap, ◌∙◌, inl, inr, arith, append_assoc}
use Rattle.std.specs.Prelude.{◌||◌, ◌==◌, if◌then◌else◌, is_some, not}
use Rattle.std.specs.List.{before_first, flat_map, list_all, onto_first, position_or_len, slice_split}
use Rattle.std.proofs.lemmas.Bool.{eqb-true, false_from_ne_true, or_cases}
use Rattle.std.proofs.lemmas.Bool.Decides.{nat_tests}
use Rattle.std.proofs.lemmas.List.Sums.{take_while-cons}
use Rattle.std.proofs.Math.Seq.{drop-append_seam, take-append_seam}
use Rattle.milter_address.specs.Address.{opens}
use Rattle.milter_address.specs.Bytes.{is_at, is_atext, is_backslash, is_colon, is_comma, is_dot, is_paired, is_qtext, is_quote}
use Rattle.milter_address.specs.LocalPart.{dot_string, is_atom, is_dot_string, quoted_byte, quoted_content}
use Rattle.milter_address.specs.Mailbox.{Mailbox, at_domain, behind_local_part, behind_route, is_domain, is_route, mailbox, mailbox_text, path_mailbox}
use Rattle.milter_address.proofs.EachByte.{Each, both_passed}
use Rattle.milter_address.proofs.LabelSuffixes.{HasLabel, has_label}
use Rattle.milter_address.proofs.ReadMailboxes.{IsContent, fits}

-- ---- bytes

-- a byte of an Atom isn't one at which a test passes that passes at this other byte alone
pub atext_other : (byte other : ℕ) → is_atext byte ≡ true → is_atext other ≡ false → (byte == other) ≡ false
atext_other byte other atext unlike =
    false_from_ne_true (byte == other)
    (λ e. let same : byte ≡ other = eqb-true byte other e in let both : is_atext other ≡ true = rw same at atext in cc)

paired_special : (byte : ℕ) → (is_quote byte || is_backslash byte) ≡ true → is_paired byte ≡ true
paired_special byte e =
    elim (or_cases (is_quote byte) (is_backslash byte) e) [
      | inl quote ↦ rw (eqb-true byte 34 quote) refl
      | inr backslash ↦ rw (eqb-true byte 92 backslash) refl
    ]

qtext_plain : (byte : ℕ) → fits byte ≡ true → is_quote byte ≡ false → is_backslash byte ≡ false → is_qtext byte ≡ true
qtext_plain byte fit quote backslash = grind (arith, nat_tests)

-- ---- a Quoted-string

neither : (a b : Bool) → (a || b) ≡ false → (a ≡ false) × (b ≡ false)
neither false false e = (refl, refl)
neither false true e = absurd cc
neither true b e = absurd cc

reread_byte : (byte : ℕ) (content behind rest : List ℕ) (special : Bool) → (is_quote byte || is_backslash byte) ≡ special → fits byte ≡ true
    → quoted_content false behind ≡ Some (record { content = content; rest = rest })
    → quoted_content false ((if special then 92 ∷ byte ∷ [] else byte ∷ []) ++ behind) ≡ Some (record { content = byte ∷ content; rest = rest })
reread_byte byte content behind rest true is fit e = rw (paired_special byte is, e) refl
reread_byte byte content behind rest false is fit e =
    let other = neither (is_quote byte) (is_backslash byte) is in
    rw (other.0, other.1, qtext_plain byte fit other.0 other.1, e) refl

pub reread : (content rest : List ℕ) → Each (λ byte. fits byte ≡ true) content
    → quoted_content false (flat_map quoted_byte content ++ 34 ∷ rest) ≡ Some (record { content = content; rest = rest })
reread [] rest each = refl
reread (byte ∷ content) rest each =
    ap (quoted_content false) (append_assoc (quoted_byte byte) (flat_map quoted_byte content) (34 ∷ rest))
    ∙ reread_byte byte content (flat_map quoted_byte content ++ 34 ∷ rest) rest (is_quote byte || is_backslash byte) refl each.0 (reread content rest each.1)

-- ---- a Dot-string

parts_atext : (parts : List (List ℕ)) → list_all is_atom parts ≡ true → list_all (list_all is_atext) parts ≡ true
parts_atext [] e = refl
parts_atext (part ∷ parts) e =
    let both = both_passed (is_atom part) (list_all is_atom parts) e in
    let first = both_passed _ (list_all is_atext part) both.0 in
    rw (first.1, parts_atext parts both.1) refl

not_at_onto : (byte : ℕ) (bytes : List ℕ) (parts : List (List ℕ)) → HasLabel parts → list_all (list_all is_atext) (onto_first byte parts) ≡ true
    → (list_all (list_all is_atext) parts ≡ true → Each (λ b. is_at b ≡ false) bytes) → Each (λ b. is_at b ≡ false) (byte ∷ bytes)
not_at_onto byte bytes [] has e again = absurd (cc has.is)
not_at_onto byte bytes (part ∷ parts) has e again =
    let both = both_passed (is_atext byte && list_all is_atext part) (list_all (list_all is_atext) parts) e in
    let first = both_passed (is_atext byte) (list_all is_atext part) both.0 in
    (atext_other byte 64 first.0 refl, again (rw (first.1, both.1) refl))

not_at_cons : (byte : ℕ) (bytes : List ℕ) (dot : Bool) → is_dot byte ≡ dot
    → list_all (list_all is_atext) (if dot then [] ∷ slice_split is_dot bytes else onto_first byte (slice_split is_dot bytes)) ≡ true
    → (list_all (list_all is_atext) (slice_split is_dot bytes) ≡ true → Each (λ b. is_at b ≡ false) bytes) → Each (λ b. is_at b ≡ false) (byte ∷ bytes)
not_at_cons byte bytes true is e again =
    let same : byte ≡ 46 = eqb-true byte 46 is in
    let other : is_at byte ≡ false = rw same refl in (other, again e)
not_at_cons byte bytes false is e again = not_at_onto byte bytes (slice_split is_dot bytes) (has_label bytes) e again

each_not_at : (bytes : List ℕ) → list_all (list_all is_atext) (slice_split is_dot bytes) ≡ true → Each (λ b. is_at b ≡ false) bytes
each_not_at [] e = tt
each_not_at (byte ∷ bytes) e = not_at_cons byte bytes (is_dot byte) refl e (each_not_at bytes)

position_at : (content rest : List ℕ) → Each (λ b. is_at b ≡ false) content → position_or_len is_at (content ++ 64 ∷ rest) ≡ length content
position_at [] rest each = refl
position_at (byte ∷ content) rest each = rw (each.0, position_at content rest each.1) (omega arith)

dotted_again : (content domain : List ℕ) → is_dot_string content ≡ true → is_domain domain ≡ true
    → behind_local_part (dot_string (content ++ 64 ∷ domain)) ≡ Some (record { content = content; domain = domain })
dotted_again content domain dotted named =
    let at = position_at content domain (each_not_at content (parts_atext (slice_split is_dot content) dotted)) in
    let before : before_first is_at (content ++ 64 ∷ domain) ≡ content =
    ap (λ n. take n (content ++ 64 ∷ domain)) at ∙ take-append_seam content (64 ∷ domain) in
    let behind : drop (position_or_len is_at (content ++ 64 ∷ domain)) (content ++ 64 ∷ domain) ≡ 64 ∷ domain =
    ap (λ n. drop n (content ++ 64 ∷ domain)) at ∙ drop-append_seam content (64 ∷ domain) in
    rw (before, dotted, behind, named) refl

-- a Dot-string begins with a byte of an Atom
pub record DotHead (content : List ℕ) : Type 0 where
  pub head : ℕ
  pub rest : List ℕ
  pub is : content ≡ head ∷ rest
  pub atext : is_atext head ≡ true

onto_head : (byte : ℕ) (parts : List (List ℕ)) → HasLabel parts → list_all is_atom (onto_first byte parts) ≡ true → is_atext byte ≡ true
onto_head byte [] has e = absurd (cc has.is)
onto_head byte (part ∷ parts) has e =
    let both = both_passed (is_atom (byte ∷ part)) (list_all is_atom parts) e in
    let first = both_passed _ (is_atext byte && list_all is_atext part) both.0 in
    (both_passed (is_atext byte) (list_all is_atext part) first.1).0

dotted_head_at : (byte : ℕ) (bytes : List ℕ) (dot : Bool)
    → list_all is_atom (if dot then [] ∷ slice_split is_dot bytes else onto_first byte (slice_split is_dot bytes)) ≡ true → is_atext byte ≡ true
dotted_head_at byte bytes true e = absurd cc
dotted_head_at byte bytes false e = onto_head byte (slice_split is_dot bytes) (has_label bytes) e

pub dotted_head : (content : List ℕ) → is_dot_string content ≡ true → DotHead content
dotted_head [] e = absurd cc
dotted_head (byte ∷ bytes) e =
    record { head = byte; rest = bytes; is = refl; atext = dotted_head_at byte bytes (is_dot byte) e }

-- ---- a mailbox

unquoted : (bytes : List ℕ) (head : ℕ) (rest : List ℕ) → bytes ≡ head ∷ rest → is_quote head ≡ false → mailbox bytes ≡ behind_local_part (dot_string bytes)
unquoted bytes head rest is other = rw (is, other) refl

mailbox_again_at : (content domain : List ℕ) (dotted : Bool) → is_dot_string content ≡ dotted → IsContent content → is_domain domain ≡ true
    → mailbox ((if dotted then content else 34 ∷ flat_map quoted_byte content ++ 34 ∷ []) ++ 64 ∷ domain) ≡ Some (record { content = content; domain = domain })
mailbox_again_at content domain true is sound named =
    let begin = dotted_head content is in
    unquoted (content ++ 64 ∷ domain) begin.head (begin.rest ++ 64 ∷ domain) (ap (λ part. part ++ 64 ∷ domain) begin.is) (atext_other begin.head 34 begin.atext refl)
    ∙ dotted_again content domain is named
mailbox_again_at content domain false is (inl dotted) named = absurd cc
mailbox_again_at content domain false is (inr fit) named =
    ap (λ bytes. behind_local_part (quoted_content false bytes)) (append_assoc (flat_map quoted_byte content) (34 ∷ []) (64 ∷ domain))
    ∙ ap behind_local_part (reread content (64 ∷ domain) fit) ∙ rw named refl

-- ---- no source route

not_route_at : (byte : ℕ) (parts : List (List ℕ)) (comma : Bool) → is_at byte ≡ false
    → list_all (λ part. is_some (at_domain part)) (if comma then [] ∷ parts else onto_first byte parts) ≡ false
not_route_at byte parts true other = refl
not_route_at byte [] false other = rw other refl
not_route_at byte (part ∷ parts) false other = rw other refl

not_route : (byte : ℕ) (bytes : List ℕ) (same : Bool) → is_at byte ≡ false → is_route (if same then byte ∷ bytes else []) ≡ false
not_route byte bytes true other = not_route_at byte (slice_split is_comma bytes) (is_comma byte) other
not_route byte bytes false other = refl

no_route : (head : ℕ) (rest : List ℕ) → is_at head ≡ false → is_route (before_first is_colon (head ∷ rest)) ≡ false
no_route head rest other =
    ap is_route (take_while-cons (λ b. not (is_colon b)) head rest) ∙ not_route head (before_first is_colon rest) (not (is_colon head)) other

kept_route : (bytes : List ℕ) (head : ℕ) (rest : List ℕ) → bytes ≡ head ∷ rest → is_at head ≡ false → behind_route bytes ≡ bytes
kept_route bytes head rest is other = rw (is, no_route head rest other) refl

-- the first byte of a local part
pub record LocalHead (bytes : List ℕ) : Type 0 where
  pub head : ℕ
  pub rest : List ℕ
  pub is : bytes ≡ head ∷ rest
  pub shut : opens head ≡ false
  pub other : is_at head ≡ false

local_head_at : (content : List ℕ) (dotted : Bool) → is_dot_string content ≡ dotted
    → LocalHead (if dotted then content else 34 ∷ flat_map quoted_byte content ++ 34 ∷ [])
local_head_at content true is =
    let begin = dotted_head content is in record {
      head = begin.head;
      rest = begin.rest;
      is = begin.is;
      shut = atext_other begin.head 60 begin.atext refl;
      other = atext_other begin.head 64 begin.atext refl;
    }
local_head_at content false is =
    record { head = 34; rest = flat_map quoted_byte content ++ 34 ∷ []; is = refl; shut = refl; other = refl }

pub mailbox_head : (box : Mailbox) → LocalHead (mailbox_text box)
mailbox_head box =
    let begin = local_head_at box.content (is_dot_string box.content) refl in record {
      head = begin.head;
      rest = begin.rest ++ 64 ∷ box.domain;
      is = ap (λ part. part ++ 64 ∷ box.domain) begin.is;
      shut = begin.shut;
      other = begin.other;
    }

pub mailbox_again : (box : Mailbox) → IsContent box.content → is_domain box.domain ≡ true → path_mailbox (mailbox_text box) ≡ Some box
mailbox_again box sound named =
    let begin = mailbox_head box in
    ap mailbox (kept_route (mailbox_text box) begin.head begin.rest begin.is begin.other)
    ∙ mailbox_again_at box.content box.domain (is_dot_string box.content) refl sound named
