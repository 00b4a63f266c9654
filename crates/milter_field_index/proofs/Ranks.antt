-- Symbols in blocks, with their counts and with which of them are known, when the blocks change.
use Rattle.std.proofs.Common.{◌≡◌, ℕ, ◌+◌, ◌-◌, ◌<◌, ◌≤◌, List, ◌++◌, length, replicate, sym, ap, subst, ◌∙◌, arith}
use Rattle.std.specs.List.{insert, remove}
use Rattle.std.proofs.lemmas.List.{length-map}
use Rattle.std.proofs.lemmas.List.Edits.{length-insert, length-remove}
use Rattle.milter_field_index.specs.Blocks.{joined, lengths}
use Rattle.milter_field_index.specs.Counted.{Counted}
use Rattle.milter_field_index.specs.Symbols.{with_symbol, HasSymbols, IsRanked}
use Rattle.milter_field_index.specs.declared.symbols.Symbols.{Symbols}
use Rattle.milter_field_index.proofs.Counts.{counted-grow}
use Rattle.milter_field_index.proofs.OneSymbol.{symbols-inserted, symbols-removed}

-- rows of zeros more, one count for each block
pub counted-rows : (rows new bs : List (List ℕ)) (lens : List ℕ) → Counted rows bs → lens ≡ lengths bs
    → new ≡ rows ++ replicate (length new - length rows) (replicate (length lens) 0) → Counted new bs
counted-rows rows new bs lens counted is new_is =
    let blocks : length lens ≡ length bs = ap length is ∙ length-map bs (λ (b : List ℕ). length b) in
    counted-grow rows new bs (length new - length rows) counted
    (new_is ∙ ap (λ m. rows ++ replicate (length new - length rows) (replicate m 0)) blocks)

-- the same symbols in other blocks
pub ranked-same : (symbols : Symbols) (len : ℕ) (bs new_rows new : List (List ℕ)) → HasSymbols symbols (joined bs)
    → len ≡ length (joined bs) → Counted new_rows new → joined new ≡ joined bs → IsRanked symbols len new_rows new
ranked-same symbols len bs new_rows new known whole counted same =
    record {
      counted = counted;
      whole = whole ∙ ap length (sym same);
      known = subst (HasSymbols symbols) (sym same) known;
    }

-- one symbol more
pub ranked-inserted : (symbols with : Symbols) (len : ℕ) (new_rows new : List (List ℕ)) (xs : List ℕ) (k s : ℕ)
    → HasSymbols symbols xs → len ≡ length xs → k ≤ length xs → Counted new_rows new → joined new ≡ insert xs k s
    → with ≡ with_symbol s symbols → IsRanked with (len + 1) new_rows new
ranked-inserted symbols with len new_rows new xs k s known whole within counted is with_is =
    record {
      counted = counted;
      whole = omega (arith, whole, ap length is, length-insert xs k s within);
      known = subst (λ w. HasSymbols w (joined new)) (sym with_is)
          (subst (HasSymbols (with_symbol s symbols)) (sym is) (symbols-inserted symbols xs k s known));
    }

-- one symbol fewer
pub ranked-removed : (symbols : Symbols) (len : ℕ) (new_rows new : List (List ℕ)) (xs : List ℕ) (k : ℕ)
    → k < length xs → HasSymbols symbols xs → len ≡ length xs → Counted new_rows new → joined new ≡ remove xs k
    → IsRanked symbols (len - 1) new_rows new
ranked-removed symbols len new_rows new xs k within known whole counted is =
    record {
      counted = counted;
      whole = omega (arith, whole, ap length is, length-remove xs k within, within);
      known = subst (HasSymbols symbols) (sym is) (symbols-removed symbols xs k within known);
    }
