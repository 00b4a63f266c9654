-- What a slot is, once a borrow of its object ends.
use Rattle.std.specs.Prelude.{Some}
use base.Fml.{Fml}
use denote.Ref.{MutBor}
use denote.Follow.{follows}
use Rattle.milter_c_objects.specs.contracts.object.Object.{the_row as object_row}
use Rattle.milter_c_objects.specs.contracts.slot.Slot.{the_row as slot_row}
use Rattle.milter_c_objects.specs.declared.slot.Slot.{Slot}
use Rattle.milter_c_objects.specs.declared.object.Object.{Object}

-- the slot with another object
abbrev pub with_object : Slot → Object → Slot
with_object s x = record { at = s.at; alloc = s.alloc; object = Some x }

abbrev pub object_follows : MutBor Slot → MutBor Object → Fml
object_follows s r = follows slot_row object_row s.ghost_name r.ghost_name (with_object s.now)
