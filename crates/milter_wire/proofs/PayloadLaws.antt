-- What is decoded of the payload of options was encoded so, and what is encoded is decoded.
use Rattle.std.proofs.Common.{◌≡◌, ℕ, List, [], ◌++◌, Some, refl, sym, ap, subst, ◌∙◌, append_assoc, append-nil}
use Rattle.std.specs.List.{flat_map}
use Rattle.std.proofs.lemmas.Option.{same_Some}
use Rattle.milter_fields.specs.Number.{number, number_at, IsBytes}
use Rattle.milter_fields.proofs.StreamLaws.{number_at-number, number_takes}
use Rattle.milter_fields.specs.Bind.{◌>>=◌}
use Rattle.milter_fields.specs.Decoders.{ended}
use Rattle.milter_fields.proofs.Binds.{bind_some}
use Rattle.milter_fields.proofs.Steps.{ended_takes}
use Rattle.milter_wire.specs.declared.options.Options.{Options}
use Rattle.milter_wire.specs.declared.symbol_lists.SymList.{SymList}
use Rattle.milter_wire.specs.OptionsPayload.{options, OptionsFit, options_at, options_in, sym_list, sym_lists_in, options_with_lists, OptionsWithListsFit, options_with_lists_in}
use Rattle.milter_wire.proofs.SymListLaws.{sym_lists_take, sym_lists_in-sym_lists}

-- ---- options

pub options_at-options : (o : Options) (rest : List ℕ) → OptionsFit o → options_at (options o ++ rest) ≡ Some (o, rest)
unfolding options_at
options_at-options o rest h =
    let v = o.version in
    let a = o.actions.0 in
    let p = o.protocol.0 in
    let parts : options o ++ rest ≡ number v ++ (number a ++ (number p ++ rest)) =
    append_assoc (number v ++ number a) (number p) rest ∙ append_assoc (number v) (number a) (number p ++ rest) in
    ap options_at parts
    ∙ rw (number_at-number v (number a ++ (number p ++ rest)) h.version, number_at-number a (number p ++ rest) h.actions, number_at-number p rest h.protocol) refl

three_numbers : (bytes after_v after_a after_p : List ℕ) (v a p : ℕ) → bytes ≡ number v ++ after_v → after_v ≡ number a ++ after_a → after_a ≡ number p ++ after_p
    → bytes ≡ (number v ++ number a ++ number p) ++ after_p
three_numbers bytes after_v after_a after_p v a p h k l =
    rw (h, k, l) (sym (append_assoc (number v ++ number a) (number p) after_p ∙ append_assoc (number v) (number a) (number p ++ after_p)))

pub record TakesOptions (bytes : List ℕ) (o : Options) (rest : List ℕ) : Type 0 where
  pub bytes_are : bytes ≡ options o ++ rest
  pub fits : OptionsFit o
  pub rest_bytes : IsBytes rest

pub options_first : (bytes : List ℕ) (o : Options) (rest : List ℕ) → IsBytes bytes → options_at bytes ≡ Some (o, rest) → TakesOptions bytes o rest
unfolding options_at
options_first bytes o rest b e =
    let made : ℕ → ℕ → ℕ → Options = λ v a p. record { version = v; actions = record { 0 = a }; protocol = record { 0 = p } } in
    let v = bind_some (number_at bytes) (λ v. number_at v.1 >>= λ a. number_at a.1 >>= λ p. Some (made v.0 a.0 p.0, p.1)) (o, rest) e in
    let a = bind_some (number_at v.0.1) (λ a. number_at a.1 >>= λ p. Some (made v.0.0 a.0 p.0, p.1)) (o, rest) v.2 in
    let p = bind_some (number_at a.0.1) (λ p. Some (made v.0.0 a.0.0 p.0, p.1)) (o, rest) a.2 in
    let x = number_takes bytes v.0.0 v.0.1 b v.1 in
    let y = number_takes v.0.1 a.0.0 a.0.1 x.rest_bytes a.1 in
    let z = number_takes a.0.1 p.0.0 p.0.1 y.rest_bytes p.1 in
    subst (λ (x : Options × List ℕ). TakesOptions bytes x.0 x.1) {x = (made v.0.0 a.0.0 p.0.0, p.0.1)} (same_Some (made v.0.0 a.0.0 p.0.0, p.0.1) (o, rest) p.2)
    record {
      bytes_are = three_numbers bytes v.0.1 a.0.1 p.0.1 v.0.0 a.0.0 p.0.0 x.bytes_are y.bytes_are z.bytes_are;
      fits = record { version = x.fits; actions = y.fits; protocol = z.fits };
      rest_bytes = z.rest_bytes;
    }

pub options_in-options : (o : Options) → OptionsFit o → options_in (options o) ≡ Some o
unfolding options_in
options_in-options o h =
    let whole : options_at (options o) ≡ Some (o, []) = ap options_at (sym (append-nil (options o))) ∙ options_at-options o [] h in
    rw whole refl

pub options_take : (bytes : List ℕ) (o : Options) → IsBytes bytes → options_in bytes ≡ Some o → (bytes ≡ options o) × OptionsFit o
unfolding options_in
options_take bytes o b e =
    let p = bind_some (options_at bytes) (λ x. ended x.0 x.1) o e in
    let t = options_first bytes p.0.0 p.0.1 b p.1 in
    let end = ended_takes p.0.0 p.0.1 o p.2 in
    subst (λ (o : Options). (bytes ≡ options o) × OptionsFit o) {x = p.0.0} end.1
    (t.bytes_are ∙ rw end.0 (append-nil (options p.0.0)), t.fits)

-- ---- options with symbol lists

pub options_with_lists_take : (bytes : List ℕ) (x : Options × List SymList) → IsBytes bytes → options_with_lists_in bytes ≡ Some x → (bytes ≡ options_with_lists x.0 x.1) × OptionsWithListsFit x.0 x.1
unfolding options_with_lists_in
options_with_lists_take bytes x b e =
    let o = bind_some (options_at bytes) (λ o. sym_lists_in o.1 >>= λ lists. Some (o.0, lists)) x e in
    let l = bind_some (sym_lists_in o.0.1) (λ lists. Some (o.0.0, lists)) x o.2 in
    let t = options_first bytes o.0.0 o.0.1 b o.1 in
    let u = sym_lists_take o.0.1 l.0 t.rest_bytes l.1 in
    subst (λ (x : Options × List SymList). (bytes ≡ options_with_lists x.0 x.1) × OptionsWithListsFit x.0 x.1) (same_Some (o.0.0, l.0) x l.2)
    (t.bytes_are ∙ ap (λ (z : List ℕ). options o.0.0 ++ z) u.bytes_are, record { options = t.fits; lists = u.fit })

pub options_with_lists_in-encoded : (o : Options) (lists : List SymList) → OptionsWithListsFit o lists → options_with_lists_in (options_with_lists o lists) ≡ Some (o, lists)
unfolding options_with_lists_in
options_with_lists_in-encoded o lists fits = rw (options_at-options o (flat_map sym_list lists) fits.options, sym_lists_in-sym_lists lists fits.lists) refl
