-- Macros that are chosen of those that fit a packet fit one.
use Rattle.std.proofs.Common.{◌≡◌, ℕ, ◌+◌, ◌≤◌, not, List, [], ◌∷◌, length, All, Option, Some, None, refl, arith, inl, inr, length-append}
use Rattle.std.specs.List.{filter, flat_map, last_or, sum_by}
use Rattle.std.specs.Option.{option_to_list}
use Rattle.std.specs.Str.{bytes_eq}
use Rattle.std.proofs.lemmas.Bool.{cases_Bool}
use Rattle.std.proofs.lemmas.List.Concat.{flat_map-cons}
use Rattle.std.proofs.lemmas.List.Elements.{All-nil, All-cons, All-head, All-tail, All-append, All-filter}
use Rattle.std.proofs.lemmas.List.Sums.{sum_by-append, sum_by-cons}
use Rattle.milter_wire.specs.declared.codes.TheConstants.{SMFIC_BODYEOB, SMFIC_CONNECT, SMFIC_DATA, SMFIC_EOH, SMFIC_HELO, SMFIC_MAIL, SMFIC_RCPT}
use Rattle.milter_wire.specs.declared.macro_stage.TheConstants.{SMFIM_CONNECT, SMFIM_DATA, SMFIM_ENVFROM, SMFIM_ENVRCPT, SMFIM_EOH, SMFIM_EOM, SMFIM_HELO}
use Rattle.milter_wire.specs.declared.command.Command.TheVariants as commands
use Rattle.milter_fields.specs.declared.pair.Pair.{Pair}
use Rattle.milter_wire.specs.declared.symbol_lists.SymList.{SymList}
use Rattle.milter_wire.specs.Command.{Fits}
use Rattle.milter_fields.specs.Layout.{pair, PairFits}
use Rattle.milter_mail.specs.Macros.{Macros}
use Rattle.milter_mail.specs.ChosenMacros.{chosen_macros, chosen_pairs, last_pair, list_of, names_of, pairs_by, without_name}
use Rattle.milter_mail.specs.MailSession.{MacrosFit}

abbrev pub bytes : List Pair → ℕ
bytes pairs = sum_by (λ p. length (pair p)) pairs

pub bytes_are : (pairs : List Pair) → length (flat_map pair pairs) ≡ bytes pairs
bytes_are [] = refl
bytes_are (p ∷ pairs) =
    let e = bytes_are pairs in
    let l = length-append (pair p) (flat_map pair pairs) in
    let s = sum_by-cons (λ p. length (pair p)) p pairs in
    rw (flat_map-cons pair p pairs) (omega (arith, e, l, s))

-- the last pair of a name, and those of other names, are not more than all
last_and_others : (name : List ℕ) (start : Option Pair) (pairs : List Pair) → bytes (option_to_list (last_or start (filter (λ p. bytes_eq p.name name) pairs))) + bytes (without_name name pairs) ≤ bytes (option_to_list start) + bytes pairs
last_and_others name start [] = omega arith
last_and_others name start (p ∷ pairs) =
    let s = sum_by-cons (λ p. length (pair p)) p pairs in
    elim (cases_Bool (bytes_eq p.name name)) [
      | inl e ↦
          let h = last_and_others name (Some p) pairs in
          let one = sum_by-cons (λ p. length (pair p)) p [] in
          rw e (omega (arith, h, s, one))
      | inr e ↦
          let h = last_and_others name start pairs in
          let t = sum_by-cons (λ p. length (pair p)) p (without_name name pairs) in
          rw e (omega (arith, h, s, t))
    ]

pub chosen_bytes : (names : List (List ℕ)) (pairs : List Pair) → bytes (chosen_pairs names pairs) ≤ bytes pairs
chosen_bytes [] pairs = omega arith
chosen_bytes (name ∷ names) pairs =
    let h = chosen_bytes names (without_name name pairs) in
    let k = last_and_others name None pairs in
    let l = sum_by-append (λ p. length (pair p)) (option_to_list (last_pair name pairs)) (chosen_pairs names (without_name name pairs)) in
    omega (arith, h, k, l)

last_of_fitting : (start : Option Pair) (pairs : List Pair) → All PairFits (option_to_list start) → All PairFits pairs → All PairFits (option_to_list (last_or start pairs))
last_of_fitting start [] h k = h
last_of_fitting start (p ∷ pairs) h k = last_of_fitting (Some p) pairs (All-cons PairFits p [] (All-head PairFits p pairs k) (All-nil PairFits)) (All-tail PairFits p pairs k)

chosen_fit : (names : List (List ℕ)) (pairs : List Pair) → All PairFits pairs → All PairFits (chosen_pairs names pairs)
chosen_fit [] pairs h = All-nil PairFits
chosen_fit (name ∷ names) pairs h =
    All-append PairFits (option_to_list (last_pair name pairs)) (chosen_pairs names (without_name name pairs))
    (last_of_fitting None (filter (λ p. bytes_eq p.name name) pairs) (All-nil PairFits) (All-filter (λ p. bytes_eq p.name name) PairFits pairs h))
    (chosen_fit names (without_name name pairs) (All-filter (λ p. not (bytes_eq p.name name)) PairFits pairs h))

by_list_fits : (command : ℕ) (list : Option SymList) (pairs : List Pair) → Fits (commands.Macro command pairs) → Fits (commands.Macro command (pairs_by list pairs))
by_list_fits command None pairs h = h
by_list_fits command (Some list) pairs h = record {
  fields = chosen_fit (names_of list.names) pairs h.fields;
  payload =
      let p = h.payload in
      let fewer = chosen_bytes (names_of list.names) pairs in
      let all = bytes_are pairs in
      let chosen = bytes_are (chosen_pairs (names_of list.names) pairs) in
      omega arith;
}

pub chosen_macros_fit : (lists : List SymList) (macros : Macros) → MacrosFit macros → MacrosFit (chosen_macros lists macros)
chosen_macros_fit lists macros h = record {
  connect = by_list_fits SMFIC_CONNECT (list_of SMFIM_CONNECT lists) macros.connect h.connect;
  helo = by_list_fits SMFIC_HELO (list_of SMFIM_HELO lists) macros.helo h.helo;
  mail = by_list_fits SMFIC_MAIL (list_of SMFIM_ENVFROM lists) macros.mail h.mail;
  rcpt = by_list_fits SMFIC_RCPT (list_of SMFIM_ENVRCPT lists) macros.rcpt h.rcpt;
  data_cmd = by_list_fits SMFIC_DATA (list_of SMFIM_DATA lists) macros.data_cmd h.data_cmd;
  eoh = by_list_fits SMFIC_EOH (list_of SMFIM_EOH lists) macros.eoh h.eoh;
  eom = by_list_fits SMFIC_BODYEOB (list_of SMFIM_EOM lists) macros.eom h.eom;
}
