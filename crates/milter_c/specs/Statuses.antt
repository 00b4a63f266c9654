-- What functions answer.
use Rattle.std.specs.Prelude.{ℤ, Option, None, Some}
use Rattle.milter_c_objects.specs.declared.status.TheConstants.{OK, WRONG_KIND}

-- of a function that does what it does to every object of its kind
abbrev pub kind_status : {X : Type 0} → Option X → ℤ
kind_status None = WRONG_KIND
kind_status (Some object) = OK
