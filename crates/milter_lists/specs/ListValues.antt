-- What contracts see of a list: its kind, and which values its entries have.
use Rattle.std.specs.Prelude.{ℕ, Bool, List, []}
use Rattle.milter_lists.specs.declared.list_kind.ListKind.{ListKind}
use Rattle.milter_lists.specs.declared.list_kind.ListKind.TheVariants as kinds
use Rattle.milter_lists.specs.declared.entries.Entries.{Entries}
use Rattle.milter_lists.specs.declared.entries.Entries.TheVariants.{Addresses, Domains, Networks, Texts}
use Rattle.milter_lists.specs.declared.text_list.TextList.{TextList}
use Rattle.milter_lists.specs.Collected.{Collected, has, len_by}

abbrev pub kind_in : Entries → ListKind
kind_in (Addresses set) = kinds.Addresses
kind_in (Domains set) = kinds.Domains
kind_in (Networks set) = kinds.Networks
kind_in (Texts set) = kinds.Texts

abbrev pub collected_in : Entries → Collected
collected_in (Addresses set) = record { keys = set; v4 = []; v6 = [] }
collected_in (Domains set) = record { keys = set; v4 = []; v6 = [] }
collected_in (Networks set) = record { keys = []; v4 = set.v4; v6 = set.v6 }
collected_in (Texts set) = record { keys = set; v4 = []; v6 = [] }

abbrev pub kind_of : TextList → ListKind
kind_of list = kind_in list.entries

-- some entry has the value
unfoldable pub has_value : TextList → List ℕ → Bool
has_value list value = has (kind_in list.entries) (collected_in list.entries) value

-- how many entries it has
abbrev pub len_of : TextList → ℕ
len_of list = len_by (kind_in list.entries) (collected_in list.entries)
