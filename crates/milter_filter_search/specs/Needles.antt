-- What values are compared with: a text, or the entries of a list.
use Rattle.std.specs.Prelude.{ℕ, Bool, ◌&&◌, List}
use Rattle.milter_address.specs.Address.{canonical_address, domain_of}
use Rattle.milter_address.specs.Domain.{canonical_domain}
use Rattle.milter_lists.specs.ListValues.{has_value}
use Rattle.milter_fields.specs.declared.header.Header.{Header}
use Rattle.milter_fields.specs.declared.path.Path.{Path}
use Rattle.milter_filter_search.specs.declared.header_key.HeaderKey.{HeaderKey}
use Rattle.milter_filter_search.specs.declared.needle.KeptNeedle.{KeptNeedle}
use Rattle.milter_filter_search.specs.declared.needle.KeptNeedle.TheVariants as kept
use Rattle.milter_filter_search.specs.declared.needle.Needle.{Needle}
use Rattle.milter_filter_search.specs.declared.needle.Needle.TheVariants.{Text, Domain, List as Listed}
use Rattle.milter_filter_search.specs.declared.path_key.PathKey.{PathKey}
use Rattle.milter_filter_search.specs.declared.path_key.PathPart.{PathPart}
use Rattle.milter_filter_search.specs.declared.path_key.PathPart.TheVariants as parts
use Rattle.milter_filter_search.specs.Texts.{finds, is_named}

-- ---- the parts of a sender or a recipient

-- what was sent, its canonical address, or the domain of that
abbrev pub part_of : PathPart → Path → List ℕ
part_of parts.Sent path = path.address
part_of parts.Address path = canonical_address path.address
part_of parts.Domain path = domain_of (canonical_address path.address)

-- a text in the form of this part
abbrev pub in_form : PathPart → List ℕ → List ℕ
in_form parts.Sent text = text
in_form parts.Address text = canonical_address text
in_form parts.Domain text = canonical_domain text

-- ---- what is found in a value

abbrev pub matches : Needle → List ℕ → Bool
matches (Text p) value = finds p.case p.test p.text.now value
matches (Domain p) value = finds p.case p.test p.text.now (canonical_domain value)
matches (Listed list) value = has_value list.now value

-- the same of what a search keeps
abbrev pub key_matches : KeptNeedle → List ℕ → Bool
key_matches (kept.Text p) value = finds p.case p.test p.text value
key_matches (kept.Domain p) value = finds p.case p.test p.text (canonical_domain value)
key_matches (kept.List list) value = has_value list value

-- the header field has the name, and its value is what is looked for
abbrev pub header_found : HeaderKey → Header → Bool
header_found key header = is_named key.name header && key_matches key.needle header.value

-- the part of the path is what is looked for
abbrev pub path_found : PathKey → Path → Bool
path_found key path = key_matches key.needle (part_of key.part path)
