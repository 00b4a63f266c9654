-- Patterns, and values that they stand for or don't.
use Rattle.std.proofs.Common.{◌≡◌, [], ◌∷◌, true, false, refl}
use Rattle.std.specs.Prelude.{codes}
use Rattle.milter_text.specs.declared.glob.TextCase.TheVariants.{Exact, Ignored}
use Rattle.milter_text.specs.Globs.{is_like}

below_a_domain : is_like Exact (codes "*.example.org") (codes "mail.example.org") ≡ true
below_a_domain = refl

not_the_domain : is_like Exact (codes "*.example.org") (codes "example.org") ≡ false
not_the_domain = refl

below_in_capitals : is_like Ignored (codes "*.example.org") (codes "MAIL.Example.Org") ≡ true
below_in_capitals = refl

capitals_differ : is_like Exact (codes "*.example.org") (codes "mail.Example.org") ≡ false
capitals_differ = refl

run_and_byte : is_like Exact (codes "a*b?c") (codes "aXXbYc") ≡ true
run_and_byte = refl

nothing_for_nothing : is_like Exact (codes "") (codes "") ≡ true
nothing_for_nothing = refl

nothing_for_a_byte : is_like Exact (codes "") (codes "a") ≡ false
nothing_for_a_byte = refl

run_for_nothing : is_like Exact (codes "*") (codes "") ≡ true
run_for_nothing = refl

byte_for_nothing : is_like Exact (codes "?") (codes "") ≡ false
byte_for_nothing = refl

byte_for_two : is_like Exact (codes "?") (codes "ab") ≡ false
byte_for_two = refl

two_runs : is_like Exact (codes "a**b") (codes "ab") ≡ true
two_runs = refl

last_of_two : is_like Exact (codes "*a") (codes "aa") ≡ true
last_of_two = refl

text_once : is_like Exact (codes "*ab*ab") (codes "ab") ≡ false
text_once = refl

text_twice : is_like Exact (codes "*ab*ab") (codes "abab") ≡ true
text_twice = refl

text_twice_later : is_like Exact (codes "*ab*ab") (codes "aabab") ≡ true
text_twice_later = refl

more_after_the_last : is_like Exact (codes "a*b") (codes "abc") ≡ false
more_after_the_last = refl

more_before_the_first : is_like Exact (codes "a*b") (codes "cab") ≡ false
more_before_the_first = refl

-- bytes above 0x7F, as in two letters of ISO 8859-1 that differ in case
above_ascii : is_like Ignored (0xC4 ∷ []) (0xE4 ∷ []) ≡ false
above_ascii = refl
