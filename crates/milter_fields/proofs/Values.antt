-- The values that are decoded from payloads were encoded so, and values that are encoded are decoded.
use Rattle.std.proofs.Common.{◌≡◌, ℕ, ◌<◌, ◌^◌, true, List, [], ◌∷◌, ◌++◌, All, Option, Some, None, refl, sym, ap, subst, ◌∙◌, inl, inr, append-nil}
use Rattle.std.specs.Prelude.{◌==◌, if◌then◌else◌}
use Rattle.std.specs.List.{flat_map}
use Rattle.std.proofs.lemmas.Bool.{eqb-true}
use Rattle.std.proofs.lemmas.Option.{none-some, same_Some}
use Rattle.std.proofs.lemmas.List.Elements.{All-tail}
use Rattle.milter_fields.specs.declared.client.Client.{Client}
use Rattle.milter_fields.specs.declared.client.Origin.{Origin}
use Rattle.milter_fields.specs.declared.client.Origin.TheVariants.{Unknown, Unix, Inet, Inet6}
use Rattle.milter_fields.specs.declared.header.Header.{Header}
use Rattle.milter_fields.specs.declared.pair.Pair.{Pair}
use Rattle.milter_fields.specs.declared.path.Path.{Path}
use Rattle.milter_fields.specs.Number.{number, number_at, IsBytes}
use Rattle.milter_fields.specs.Field.{port, string, HasNoNul}
use Rattle.milter_fields.specs.Layout.{pair, PairFits, origin, OriginFits, EndpointFits, client, ClientFits, path, PathFits, header, HeaderFits, IndexedFits, arguments, ArgumentsFit, AddressedFits, is_reply_code, ReplyCodeFits}
use Rattle.milter_fields.specs.Bind.{◌>>=◌}
use Rattle.milter_fields.specs.Decoders.{ended, port_at, string_at, string_in, header_in, indexed_in, strings_in, pairs_in, macro_in, path_in, endpoint_in, origin_in, client_in, arguments_in, addressed_in, reply_code_in}
use Rattle.milter_fields.proofs.Binds.{bind_some}
use Rattle.milter_fields.proofs.Steps.{chosen, ended_takes}
use Rattle.milter_fields.proofs.StringFields.{string_takes, string_at-string, one_string_takes, string_in-string}
use Rattle.milter_fields.proofs.SequenceLaws.{strings_take, strings_in-strings, pairs_take, pairs_in-pairs}
use Rattle.milter_fields.proofs.StreamLaws.{number_takes, number_at-number}
use Rattle.milter_fields.proofs.PortFields.{bytes_after, port_takes, port_at-port}

-- ---- header fields

pub header_takes : (bytes : List ℕ) (h : Header) → header_in bytes ≡ Some h → (bytes ≡ header h) × HeaderFits h
unfolding header_in
header_takes bytes h e =
    let n = bind_some (string_at bytes) (λ n. string_at n.1 >>= λ v. ended (record { name = n.0; value = v.0 }) v.1) h e in
    let v = bind_some (string_at n.0.1) (λ v. ended (record { name = n.0.0; value = v.0 }) v.1) h n.2 in
    let x = string_takes bytes n.0.0 n.0.1 n.1 in
    let y = string_takes n.0.1 v.0.0 v.0.1 v.1 in
    let end = ended_takes (record { name = n.0.0; value = v.0.0 }) v.0.1 h v.2 in
    let last : n.0.1 ≡ string v.0.0 = y.bytes_are ∙ rw end.0 (append-nil (string v.0.0)) in
    subst (λ (h : Header). (bytes ≡ header h) × HeaderFits h) end.1
    (x.bytes_are ∙ ap (λ (z : List ℕ). string n.0.0 ++ z) last, record { name = x.no_nul; value = y.no_nul })

last_string : (text : List ℕ) → HasNoNul text → string_at (string text) ≡ Some (text, [])
last_string text h = ap string_at (sym (append-nil (string text))) ∙ string_at-string text [] h

pub header_in-header : (h : Header) → HeaderFits h → header_in (header h) ≡ Some h
unfolding header_in
header_in-header h fits = rw (string_at-string h.name (string h.value) fits.name, last_string h.value fits.value) refl

pub indexed_takes : (bytes : List ℕ) (x : ℕ × Header) → IsBytes bytes → indexed_in bytes ≡ Some x → (bytes ≡ number x.0 ++ header x.1) × IndexedFits x.0 x.1
unfolding indexed_in
indexed_takes bytes x b e =
    let n = bind_some (number_at bytes) (λ n. header_in n.1 >>= λ h. Some (n.0, h)) x e in
    let h = bind_some (header_in n.0.1) (λ h. Some (n.0.0, h)) x n.2 in
    let t = number_takes bytes n.0.0 n.0.1 b n.1 in
    let u = header_takes n.0.1 h.0 h.1 in
    subst (λ (x : ℕ × Header). (bytes ≡ number x.0 ++ header x.1) × IndexedFits x.0 x.1) (same_Some (n.0.0, h.0) x h.2)
    (t.bytes_are ∙ ap (λ (z : List ℕ). number n.0.0 ++ z) u.0, record { in_range = t.fits; header = u.1 })

pub indexed_in-indexed : (index : ℕ) (h : Header) → IndexedFits index h → indexed_in (number index ++ header h) ≡ Some (index, h)
unfolding indexed_in
indexed_in-indexed index h fits = rw (number_at-number index (header h) fits.in_range, header_in-header h fits.header) refl

-- ---- macros

pub macro_takes : (bytes : List ℕ) (m : ℕ × List Pair) → macro_in bytes ≡ Some m → (bytes ≡ m.0 ∷ flat_map pair m.1) × All PairFits m.1
unfolding macro_in
macro_takes [] m e = absurd cc
macro_takes (command ∷ rest) m e =
    let p = bind_some (pairs_in rest) (λ pairs. Some (command, pairs)) m e in
    let t = pairs_take rest p.0 p.1 in
    subst (λ (m : ℕ × List Pair). (command ∷ rest ≡ m.0 ∷ flat_map pair m.1) × All PairFits m.1) (same_Some (command, p.0) m p.2)
    (ap (λ (z : List ℕ). command ∷ z) t.bytes_are, t.fit)

pub macro_in-macro : (command : ℕ) (pairs : List Pair) → All PairFits pairs → macro_in (command ∷ flat_map pair pairs) ≡ Some (command, pairs)
unfolding macro_in
macro_in-macro command pairs fit = rw (pairs_in-pairs pairs fit) refl

-- ---- senders and recipients

pub path_takes : (bytes : List ℕ) (p : Path) → path_in bytes ≡ Some p → (bytes ≡ path p) × PathFits p
unfolding path_in
path_takes bytes p e =
    let a = bind_some (string_at bytes) (λ a. strings_in a.1 >>= λ ps. Some (record { address = a.0; params = ps })) p e in
    let q = bind_some (strings_in a.0.1) (λ ps. Some (record { address = a.0.0; params = ps })) p a.2 in
    let t = string_takes bytes a.0.0 a.0.1 a.1 in
    let u = strings_take a.0.1 q.0 q.1 in
    subst (λ (p : Path). (bytes ≡ path p) × PathFits p) (same_Some (record { address = a.0.0; params = q.0 }) p q.2)
    (t.bytes_are ∙ ap (λ (z : List ℕ). string a.0.0 ++ z) u.bytes_are, record { address = t.no_nul; params = u.no_nul })

pub path_in-path : (p : Path) → PathFits p → path_in (path p) ≡ Some p
unfolding path_in
path_in-path p fits = rw (string_at-string p.address (flat_map string p.params) fits.address, strings_in-strings p.params fits.params) refl

-- ---- clients

endpoint_takes : (bytes : List ℕ) (x : ℕ × List ℕ) → IsBytes bytes → endpoint_in bytes ≡ Some x → (bytes ≡ port x.0 ++ string x.1) × EndpointFits x.0 x.1
unfolding endpoint_in
endpoint_takes bytes x b e =
    let p = bind_some (port_at bytes) (λ p. string_in p.1 >>= λ a. Some (p.0, a)) x e in
    let a = bind_some (string_in p.0.1) (λ a. Some (p.0.0, a)) x p.2 in
    let t = port_takes bytes p.0.0 p.0.1 b p.1 in
    let u = one_string_takes p.0.1 a.0 a.1 in
    subst (λ (x : ℕ × List ℕ). (bytes ≡ port x.0 ++ string x.1) × EndpointFits x.0 x.1) (same_Some (p.0.0, a.0) x a.2)
    (t.bytes_are ∙ ap (λ (z : List ℕ). port p.0.0 ++ z) u.bytes_are, record { in_range = t.fits; no_nul = u.no_nul })

endpoint_in-endpoint : (at : ℕ) (address : List ℕ) → EndpointFits at address → endpoint_in (port at ++ string address) ≡ Some (at, address)
unfolding endpoint_in
endpoint_in-endpoint at address fits = rw (port_at-port at (string address) fits.in_range, string_in-string address fits.no_nul) refl

-- a family of addresses
inet_takes : (family : ℕ) (make : ℕ → List ℕ → Origin) → ((at : ℕ) (address : List ℕ) → origin (make at address) ≡ family ∷ (port at ++ string address))
    → ((at : ℕ) (address : List ℕ) → EndpointFits at address → OriginFits (make at address)) → (n : ℕ) (rest : List ℕ) (o : Origin) → (n == family) ≡ true → IsBytes rest
    → (endpoint_in rest >>= λ endpoint. Some (make endpoint.0 endpoint.1)) ≡ Some o → (n ∷ rest ≡ origin o) × OriginFits o
inet_takes family make encoded fit n rest o same b e =
    let p = bind_some (endpoint_in rest) (λ endpoint. Some (make endpoint.0 endpoint.1)) o e in
    let t = endpoint_takes rest p.0 b p.1 in
    subst (λ (o : Origin). (n ∷ rest ≡ origin o) × OriginFits o) (same_Some (make p.0.0 p.0.1) o p.2)
    (ap (λ (x : ℕ). x ∷ rest) (eqb-true n family same) ∙ ap (λ (z : List ℕ). family ∷ z) t.0 ∙ sym (encoded p.0.0 p.0.1), fit p.0.0 p.0.1 t.1)

unknown_takes : (n : ℕ) (rest : List ℕ) (o : Origin) → (n == 85) ≡ true → ended Unknown rest ≡ Some o → (n ∷ rest ≡ origin o) × OriginFits o
unknown_takes n rest o same e =
    let end = ended_takes Unknown rest o e in
    subst (λ (o : Origin). (n ∷ rest ≡ origin o) × OriginFits o) end.1 (ap (λ (x : ℕ). x ∷ rest) (eqb-true n 85 same) ∙ ap (λ (z : List ℕ). 85 ∷ z) end.0, tt)

origin_takes : (bytes : List ℕ) (o : Origin) → IsBytes bytes → origin_in bytes ≡ Some o → (bytes ≡ origin o) × OriginFits o
unfolding origin_in
origin_takes [] o b e = absurd cc
origin_takes (n ∷ rest) o b e =
    let after = All-tail (λ x. x < 2 ^ 8) n rest b in
    elim (chosen (n == 85) _ _ (Some o) e) [
      | inl u ↦ unknown_takes n rest o u.0 u.1
      | inr e ↦ elim (chosen (n == 76) _ _ (Some o) e.1) [
        | inl l ↦ inet_takes 76 Unix (λ at address. refl) (λ at address h. h) n rest o l.0 after l.1
        | inr e ↦ elim (chosen (n == 52) _ _ (Some o) e.1) [
          | inl i ↦ inet_takes 52 Inet (λ at address. refl) (λ at address h. h) n rest o i.0 after i.1
          | inr e ↦ elim (chosen (n == 54) _ _ (Some o) e.1) [
            | inl i ↦ inet_takes 54 Inet6 (λ at address. refl) (λ at address h. h) n rest o i.0 after i.1
            | inr e ↦ absurd (none-some o e.1)
          ]
        ]
      ]
    ]

origin_in-origin : (o : Origin) → OriginFits o → origin_in (origin o) ≡ Some o
unfolding origin_in
origin_in-origin Unknown fits = refl
origin_in-origin (Unix at address) fits = rw (endpoint_in-endpoint at address fits) refl
origin_in-origin (Inet at address) fits = rw (endpoint_in-endpoint at address fits) refl
origin_in-origin (Inet6 at address) fits = rw (endpoint_in-endpoint at address fits) refl

pub client_takes : (bytes : List ℕ) (c : Client) → IsBytes bytes → client_in bytes ≡ Some c → (bytes ≡ client c) × ClientFits c
unfolding client_in
client_takes bytes c b e =
    let h = bind_some (string_at bytes) (λ h. origin_in h.1 >>= λ o. Some (record { host = h.0; origin = o })) c e in
    let o = bind_some (origin_in h.0.1) (λ o. Some (record { host = h.0.0; origin = o })) c h.2 in
    let t = string_takes bytes h.0.0 h.0.1 h.1 in
    let after = bytes_after (string h.0.0) h.0.1 (subst IsBytes t.bytes_are b) in
    let u = origin_takes h.0.1 o.0 after o.1 in
    subst (λ (c : Client). (bytes ≡ client c) × ClientFits c) (same_Some (record { host = h.0.0; origin = o.0 }) c o.2)
    (t.bytes_are ∙ ap (λ (z : List ℕ). string h.0.0 ++ z) u.0, record { host = t.no_nul; origin = u.1 })

pub client_in-client : (c : Client) → ClientFits c → client_in (client c) ≡ Some c
unfolding client_in
client_in-client c fits = rw (string_at-string c.host (origin c.origin) fits.host, origin_in-origin c.origin fits.origin) refl

-- ---- addresses with arguments, or without

arguments_take : (bytes : List ℕ) (args : Option (List ℕ)) → arguments_in bytes ≡ Some args → (bytes ≡ arguments args) × ArgumentsFit args
unfolding arguments_in
arguments_take [] args e = subst (λ (a : Option (List ℕ)). ([] ≡ arguments a) × ArgumentsFit a) (same_Some None args e) (refl, tt)
arguments_take (byte ∷ rest) args e =
    let t = bind_some (string_in (byte ∷ rest)) (λ text. Some (Some text)) args e in
    let u = one_string_takes (byte ∷ rest) t.0 t.1 in
    subst (λ (a : Option (List ℕ)). (byte ∷ rest ≡ arguments a) × ArgumentsFit a) (same_Some (Some t.0) args t.2) (u.bytes_are, u.no_nul)

some_bytes : (text : List ℕ) → HasNoNul text → arguments_in (string text) ≡ Some (Some text)
unfolding arguments_in
some_bytes [] fits = rw (string_in-string [] fits) refl
some_bytes (byte ∷ text) fits = rw (string_in-string (byte ∷ text) fits) refl

arguments_in-arguments : (args : Option (List ℕ)) → ArgumentsFit args → arguments_in (arguments args) ≡ Some args
unfolding arguments_in
arguments_in-arguments None fits = refl
arguments_in-arguments (Some text) fits = some_bytes text fits

pub addressed_takes : (bytes : List ℕ) (x : List ℕ × Option (List ℕ)) → addressed_in bytes ≡ Some x → (bytes ≡ string x.0 ++ arguments x.1) × AddressedFits x.0 x.1
unfolding addressed_in
addressed_takes bytes x e =
    let a = bind_some (string_at bytes) (λ a. arguments_in a.1 >>= λ args. Some (a.0, args)) x e in
    let g = bind_some (arguments_in a.0.1) (λ args. Some (a.0.0, args)) x a.2 in
    let t = string_takes bytes a.0.0 a.0.1 a.1 in
    let u = arguments_take a.0.1 g.0 g.1 in
    subst (λ (x : List ℕ × Option (List ℕ)). (bytes ≡ string x.0 ++ arguments x.1) × AddressedFits x.0 x.1) (same_Some (a.0.0, g.0) x g.2)
    (t.bytes_are ∙ ap (λ (z : List ℕ). string a.0.0 ++ z) u.0, record { no_nul = t.no_nul; arguments = u.1 })

pub addressed_in-addressed : (address : List ℕ) (args : Option (List ℕ)) → AddressedFits address args → addressed_in (string address ++ arguments args) ≡ Some (address, args)
unfolding addressed_in
addressed_in-addressed address args fits = rw (string_at-string address (arguments args) fits.no_nul, arguments_in-arguments args fits.arguments) refl

-- ---- reply codes

pub reply_code_takes : (bytes text : List ℕ) → reply_code_in bytes ≡ Some text → (bytes ≡ string text) × ReplyCodeFits text
unfolding reply_code_in
reply_code_takes bytes text e =
    let t = bind_some (string_in bytes) (λ text. if is_reply_code text then Some text else None) text e in
    let u = one_string_takes bytes t.0 t.1 in
    elim (chosen (is_reply_code t.0) (Some t.0) None (Some text) t.2) [
      | inl form ↦ subst (λ (x : List ℕ). (bytes ≡ string x) × ReplyCodeFits x) (same_Some t.0 text form.1) (u.bytes_are, record { no_nul = u.no_nul; form = form.0 })
      | inr other ↦ absurd (none-some text other.1)
    ]

pub reply_code_in-string : (text : List ℕ) → ReplyCodeFits text → reply_code_in (string text) ≡ Some text
unfolding reply_code_in
reply_code_in-string text fits = rw (string_in-string text fits.no_nul, fits.form) refl
