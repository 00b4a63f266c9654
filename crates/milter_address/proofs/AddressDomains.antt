-- The domain of a mailbox in its canonical form is behind the last `@` that isn't in quotes.
use Rattle.std.proofs.Common.{◌≡◌, ℕ, ◌-◌, ◌≤◌, ◌<◌, Bool, true, false, List, [], ◌∷◌, ◌++◌, Some, length, get_or, refl, ap, ◌∙◌, sym, inl, inr, arith, append_assoc}
use Rattle.std.proofs.Common.{length-append}
use Rattle.std.specs.Prelude.{if◌then◌else◌, nat_lt, not, option_map, unwrap_or}
use Rattle.std.specs.List.{flat_map, list_any}
use Rattle.std.proofs.lemmas.Bool.{not-true}
use Rattle.std.proofs.lemmas.List.{get_or-append_right}
use Rattle.std.proofs.lemmas.List.Folds.{list_any_at}
use Rattle.std.proofs.Math.Seq.{drop-append-add, get_or-append_seam}
use Rattle.memchr.specs.Find.{IsLastByte, is_byte}
use Rattle.milter_address.specs.Address.{behind_last_at, behind_quotes, domain_of, text_or}
use Rattle.milter_address.specs.Bytes.{is_at, is_quote}
use Rattle.milter_address.specs.LocalPart.{is_dot_string, quoted_byte, quoted_content}
use Rattle.milter_address.specs.Mailbox.{Mailbox, is_domain, mailbox_text, path_mailbox}
use Rattle.milter_address.proofs.EachByte.{Each, both_passed}
use Rattle.milter_address.proofs.LastAt.{behind_found}
use Rattle.milter_address.proofs.ReadMailboxes.{IsContent, MailboxRead, path_read}
use Rattle.milter_address.proofs.WrittenMailboxes.{atext_other, dotted_head, mailbox_again, reread}

no_at : (domain : List ℕ) → is_domain domain ≡ true → list_any is_at domain ≡ false
no_at domain named = not-true (list_any is_at domain) (both_passed (nat_lt 0 (length domain)) (not (list_any is_at domain)) named).1

behind_all : (lead domain : List ℕ) (i : ℕ) → list_any is_at domain ≡ false → length lead ≤ i → i < length (lead ++ domain)
    → is_at (get_or (lead ++ domain) i 0) ≡ true → ⊥
behind_all lead domain i none low high passes =
    let within : i - length lead < length domain = omega (arith, length-append lead domain) in
    let here : get_or (lead ++ domain) i 0 ≡ get_or domain (i - length lead) 0 =
    get_or-append_right lead domain (length lead) i 0 refl low in
    let found : list_any is_at domain ≡ true = list_any_at is_at domain (i - length lead) 0 within (rw here at passes) in
    cc

last_at : (lead domain : List ℕ) → is_domain domain ≡ true → IsLastByte (is_byte 64) (lead ++ 64 ∷ domain) (Some (length lead))
last_at lead domain named = (
  record {
    low = omega arith;
    high = omega (arith, length-append lead (64 ∷ domain));
    after = λ i low high passes.
        let whole : (lead ++ 64 ∷ []) ++ domain ≡ lead ++ 64 ∷ domain = append_assoc lead (64 ∷ []) domain in
        behind_all (lead ++ 64 ∷ []) domain i (no_at domain named) (omega (arith, low, length-append lead (64 ∷ [])))
        (rw whole high) (rw whole passes);
  },
  rw (get_or-append_seam lead 64 domain 0) refl,
)

behind_last : (lead domain : List ℕ) → is_domain domain ≡ true → behind_last_at (lead ++ 64 ∷ domain) ≡ domain
behind_last lead domain named =
    sym (behind_found (lead ++ 64 ∷ domain) (length lead) (last_at lead domain named)) ∙ drop-append-add lead (64 ∷ domain) 1

unquoted_all : (bytes : List ℕ) (head : ℕ) (rest : List ℕ) → bytes ≡ head ∷ rest → is_quote head ≡ false → behind_quotes bytes ≡ bytes
unquoted_all bytes head rest is other = rw (is, other) refl

domain_at : (content domain : List ℕ) (dotted : Bool) → is_dot_string content ≡ dotted → IsContent content → is_domain domain ≡ true
    → domain_of ((if dotted then content else 34 ∷ flat_map quoted_byte content ++ 34 ∷ []) ++ 64 ∷ domain) ≡ domain
domain_at content domain true is sound named =
    let begin = dotted_head content is in
    ap behind_last_at
    (unquoted_all (content ++ 64 ∷ domain) begin.head (begin.rest ++ 64 ∷ domain) (ap (λ part. part ++ 64 ∷ domain) begin.is)
    (atext_other begin.head 34 begin.atext refl))
    ∙ behind_last content domain named
domain_at content domain false is (inl dotted) named = absurd cc
domain_at content domain false is (inr fit) named =
    let all = 34 ∷ (flat_map quoted_byte content ++ 34 ∷ []) ++ 64 ∷ domain in
    ap (λ bytes. behind_last_at (unwrap_or (option_map (λ part. part.rest) (quoted_content false bytes)) all))
    (append_assoc (flat_map quoted_byte content) (34 ∷ []) (64 ∷ domain))
    ∙ ap (λ found. behind_last_at (unwrap_or (option_map (λ part. part.rest) found) all)) (reread content (64 ∷ domain) fit)
    ∙ behind_last [] domain named

-- ---- any text

anything : (byte : ℕ) (bytes : List ℕ) → Unit {0} → Unit {0}
anything byte bytes u = u

each_anything : (bytes : List ℕ) → Each (λ _. Unit {0}) bytes
each_anything [] = tt
each_anything (byte ∷ bytes) = (tt, each_anything bytes)

read_box : (bytes : List ℕ) (box : Mailbox) → path_mailbox bytes ≡ Some box → MailboxRead (λ _. Unit {0}) (λ _. Unit {0}) box
read_box bytes box e = path_read (λ _. Unit {0}) (λ _. Unit {0}) anything bytes box tt (each_anything bytes) e

pub box_again : (bytes : List ℕ) (box : Mailbox) → path_mailbox bytes ≡ Some box → path_mailbox (mailbox_text box) ≡ Some box
box_again bytes box e = let read = read_box bytes box e in mailbox_again box read.is read.named

pub box_domain : (bytes : List ℕ) (box : Mailbox) → path_mailbox bytes ≡ Some box → domain_of (text_or bytes (path_mailbox bytes)) ≡ box.domain
box_domain bytes box e =
    let read = read_box bytes box e in
    ap (λ found. domain_of (text_or bytes found)) e ∙ domain_at box.content box.domain (is_dot_string box.content) refl read.is read.named

-- mailboxes with one canonical form are the same
pub boxes_same : (first second : List ℕ) (a b : Mailbox) → path_mailbox first ≡ Some a → path_mailbox second ≡ Some b
    → text_or first (path_mailbox first) ≡ text_or second (path_mailbox second) → a ≡ b
boxes_same first second a b is-a is-b same =
    let texts : mailbox_text a ≡ mailbox_text b =
    ap (text_or first) (sym is-a) ∙ same ∙ ap (text_or second) is-b in
    let both : Some a ≡ Some b = sym (box_again first a is-a) ∙ ap path_mailbox texts ∙ box_again second b is-b in
    cc
