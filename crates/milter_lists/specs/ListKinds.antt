-- The words of kinds of lists in rule files.
use Rattle.std.specs.Prelude.{ℕ, List, codes}
use Rattle.milter_lists.specs.declared.list_kind.ListKind.{ListKind}
use Rattle.milter_lists.specs.declared.list_kind.ListKind.TheVariants.{Addresses, Domains, Networks, Texts}

abbrev pub kind_name : ListKind → List ℕ
kind_name Addresses = codes "addresses"
kind_name Domains = codes "domains"
kind_name Networks = codes "networks"
kind_name Texts = codes "texts"
