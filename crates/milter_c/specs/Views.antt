-- What a caller reads by what it borrows.
use Rattle.std.specs.Prelude.{◌≡◌, ℤ, ℕ, List, Option, None, Some}
use Rattle.milter_fields.specs.Stream.{Frame}
use Rattle.milter_c_objects.specs.declared.status.TheConstants.{NOTHING, OK}
use Rattle.milter_c_objects.specs.Parts.{PartValue}
use Rattle.milter_c.specs.declared.view.PacketView.{PacketView}
use Rattle.milter_c.specs.declared.view.PartView.{PartView}
use Rattle.milter_c.specs.declared.view.View.{View}

-- the code and the payload of a packet
abbrev pub frame_in : PacketView → Frame
frame_in view = record { code = view.code; payload = view.payload.now }

-- the texts and the numbers of a part
abbrev pub part_in : PartView → PartValue
part_in view =
    record { first = view.first.now; second = view.second.now; kind = view.kind; number = view.number }

-- A text, if there is one, and what is answered of it: it is what the caller reads, who else reads what it did before.
abbrev pub IsBorrowed : Option (List ℕ) → ℤ → View → View → Type 0
IsBorrowed None status old new = (status ≡ NOTHING) × (new ≡ old)
IsBorrowed (Some text) status old new = (status ≡ OK) × (new.bytes.now ≡ text)
