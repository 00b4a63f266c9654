-- The bytes of a direction in order.
use Rattle.std.specs.Prelude.{ℕ, ◌-◌, List, drop}

-- what is new of bytes that begin at an offset, where those before another one were given out
abbrev pub fresh : ℕ → ℕ → List ℕ → List ℕ
fresh offset taken bytes = drop (taken - offset) bytes
