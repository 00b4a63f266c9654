-- A piece that is passed on.
use Rattle.std.specs.Prelude.{ℕ, List, drop}
use Rattle.milter_record.specs.declared.piece.Piece.{Piece}

-- what is still to be written of it
abbrev pub rest_of : Piece → List ℕ
rest_of piece = drop piece.from piece.bytes.items
