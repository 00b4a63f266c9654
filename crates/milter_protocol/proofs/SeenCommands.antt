-- What is shown with one command more.
use Rattle.std.proofs.Common.{◌≡◌, ℕ, Bool, true, false, List, [], ◌∷◌, ◌++◌, reverse, Some, option_map, find, refl, sym, ◌∙◌, ap, append_assoc, append-nil, filter_map, if◌then◌else◌}
use Rattle.std.specs.List.{concat}
use Rattle.std.specs.Option.{option_or}
use Rattle.std.specs.Str.{bytes_eq}
use Rattle.std.proofs.lemmas.Grind.{reverse_onto}
use Rattle.std.proofs.lemmas.List.Concat.{flat_map-cons}
use Rattle.milter_wire.specs.declared.command.Command.{Command}
use Rattle.milter_wire.specs.declared.command.Command.TheVariants as commands
use Rattle.milter_fields.specs.declared.pair.Pair.{Pair}
use Rattle.milter_protocol.specs.Seen.{header_in, pairs_in, chunk_in, recipient_in, seen, seen_with, value_in}

reverse-cons : {A : Type 0} (x : A) (xs : List A) → reverse (x ∷ xs) ≡ reverse xs ++ x ∷ []
reverse-cons x xs = reverse_onto xs x []

concat-push : (xss : List (List ℕ)) (xs : List ℕ) → concat (xss ++ xs ∷ []) ≡ concat xss ++ xs
concat-push [] xs = append-nil xs
concat-push (ys ∷ xss) xs = ap (λ zs. ys ++ zs) (concat-push xss xs) ∙ sym (append_assoc ys (concat xss) xs)

body-with : (xs : List ℕ) (xss : List (List ℕ)) → concat (reverse (xs ∷ xss)) ≡ concat (reverse xss) ++ xs
body-with xs xss = ap concat (reverse-cons xs xss) ∙ concat-push (reverse xss) xs

pub value-append : (xs ys : List Pair) (name : List ℕ) → value_in (xs ++ ys) name ≡ option_or (value_in xs name) (value_in ys name)
value-append [] ys name = refl
value-append (x ∷ xs) ys name = by_name (bytes_eq x.name name) (value-append xs ys name)
  where
    by_name : (is : Bool) → value_in (xs ++ ys) name ≡ option_or (value_in xs name) (value_in ys name)
        → option_map (λ (p : Pair). p.value) (if is then Some x else find (λ pair. bytes_eq pair.name name) (xs ++ ys))
        ≡ option_or (option_map (λ (p : Pair). p.value) (if is then Some x else find (λ pair. bytes_eq pair.name name) xs)) (value_in ys name)
    by_name true rest = refl
    by_name false rest = rest

pub seen-with : (leading_space : Bool) (c : Command) (before : List Command) → seen leading_space (c ∷ before) ≡ seen_with (seen leading_space before) c
seen-with ls (commands.Rcpt recipient) before =
    ap (λ rs. record (seen ls before) { recipients = rs }) (reverse-cons recipient (filter_map recipient_in before))
seen-with ls (commands.Header header) before =
    ap (λ hs. record (seen ls before) { headers = hs }) (reverse-cons header (filter_map header_in before))
seen-with ls (commands.Body bytes) before =
    ap (λ b. record (seen ls before) { body = b }) (body-with bytes (filter_map chunk_in before))
seen-with ls (commands.Eob bytes) before =
    ap (λ b. record (seen ls before) { body = b }) (body-with bytes (filter_map chunk_in before))
seen-with ls (commands.Macro command pairs) before =
    ap (λ ms. record (seen ls before) { macros = ms }) (flat_map-cons pairs_in (commands.Macro command pairs) before)
seen-with ls other before = refl
