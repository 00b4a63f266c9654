-- Recipients that edits add and delete: those stay that no later edit deletes.
use Rattle.std.specs.Prelude.{◌≡◌, ℕ, Bool, false, not, nat_le, List, [], ◌∷◌, ◌++◌, drop, Option, None, Some, if◌then◌else◌}
use Rattle.std.specs.Borrow.{Bor}
use Rattle.std.specs.BTreeMap.{BTreeMap, get_by}
use Rattle.std.specs.Cmp.Lexicographic.{slice_cmp}
use Rattle.std.specs.List.{filter, list_any}
use Rattle.std.specs.Ordering.{nat_cmp}
use Rattle.std.specs.Str.{bytes_eq}
use Rattle.milter_fields.specs.declared.path.Path.{Path}
use Rattle.milter_message.specs.declared.edit.Edit.{Edit}
use Rattle.milter_message.specs.declared.edit.Edit.TheVariants.{AddRcpt, AddRcptPar, DelRcpt}
use Rattle.milter_message.specs.EditedMessage.{params_of}

abbrev pub deletes : List ℕ → Edit → Bool
deletes address (DelRcpt other) = bytes_eq address other
deletes address other = false

-- none of the edits deletes the recipients with this address
abbrev pub stays : List Edit → List ℕ → Bool
stays edits address = not (list_any (deletes address) edits)

abbrev pub new_recipient : Edit → Option Path
new_recipient (AddRcpt address) = Some (record { address = address; params = [] })
new_recipient (AddRcptPar address arguments) = Some (record { address = address; params = params_of arguments })
new_recipient other = None

-- the recipient, where none of the edits deletes it
abbrev pub if_stays : List Edit → Option Path → List Path
if_stays edits None = []
if_stays edits (Some path) = if stays edits path.address then path ∷ [] else []

-- the recipients that edits add and no later one deletes
abbrev pub kept_added : List Edit → List Path
kept_added [] = []
kept_added (edit ∷ edits) = if_stays edits (new_recipient edit) ++ kept_added edits

-- ---- by the index of the last deletion of each address

abbrev pub is_from : ℕ → Option ℕ → Bool
is_from index None = false
is_from index (Some found) = nat_le index found

-- the edit with this index or a later one deletes the address
abbrev pub is_deleted_from : ℕ → BTreeMap (Bor (List ℕ)) ℕ → List ℕ → Bool
is_deleted_from index last address = is_from index (get_by (λ k. slice_cmp nat_cmp address k.now) last)

-- the map has the last deletion of each address
abbrev pub HasLastDeletions : List Edit → BTreeMap (Bor (List ℕ)) ℕ → Type 0
HasLastDeletions edits last = (address : List ℕ) (index : ℕ) →
    is_deleted_from index last address ≡ list_any (deletes address) (drop index edits)

-- the recipients that aren't deleted
abbrev pub kept_by : BTreeMap (Bor (List ℕ)) ℕ → List Path → List Path
kept_by last recipients = filter (λ recipient. not (is_deleted_from 0 last recipient.address)) recipients
