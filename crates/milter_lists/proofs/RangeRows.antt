-- Ranges that overlap, raised and searched.
use Rattle.std.proofs.Common.{◌≡◌, true, false, [], ◌∷◌, refl}
use Rattle.milter_lists.specs.Ranges.{has_number, raised}

-- a range up to 30 in which another lies, and one behind them
ends : raised 0 (record { first = 10; last = 30 } ∷ record { first = 12; last = 14 } ∷ record { first = 40; last = 49 } ∷ [])
    ≡ record { first = 10; last = 30 } ∷ record { first = 12; last = 30 } ∷ record { first = 40; last = 49 } ∷ []
ends = refl

within : has_number (record { first = 10; last = 30 } ∷ record { first = 12; last = 14 } ∷ []) 30 ≡ true
within = refl

after : has_number (record { first = 10; last = 30 } ∷ record { first = 12; last = 14 } ∷ []) 31 ≡ false
after = refl
