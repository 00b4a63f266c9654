-- How the values that packets carry are encoded, and what is asked of them: each number is in its range, and no string
-- has a NUL.
use Rattle.std.specs.Prelude.{◌≡◌, ℕ, Bool, true, false, ◌<◌, ◌^◌, ◌==◌, ◌&&◌, ◌||◌, List, [], ◌∷◌, ◌++◌, All, Option, None, Some}
use Rattle.std.specs.List.{flat_map}
use Rattle.std.specs.Char.{is_ascii_digit}
use Rattle.milter_fields.specs.declared.client.TheConstants.{SMFIA_INET, SMFIA_INET6, SMFIA_UNIX, SMFIA_UNKNOWN}
use Rattle.milter_fields.specs.declared.client.Client.{Client}
use Rattle.milter_fields.specs.declared.client.Origin.{Origin}
use Rattle.milter_fields.specs.declared.client.Origin.TheVariants.{Unknown, Unix, Inet, Inet6}
use Rattle.milter_fields.specs.declared.header.Header.{Header}
use Rattle.milter_fields.specs.declared.pair.Pair.{Pair}
use Rattle.milter_fields.specs.declared.path.Path.{Path}
use Rattle.milter_fields.specs.Field.{port, string, HasNoNul}

-- ---- macros: a name and a value

abbrev pub pair : Pair → List ℕ
pair p = string p.name ++ string p.value

pub record PairFits (p : Pair) : Type 0 where
  pub name : HasNoNul p.name
  pub value : HasNoNul p.value

-- ---- clients: a host, a family, and for a known family a port and an address

abbrev pub origin : Origin → List ℕ
origin Unknown = SMFIA_UNKNOWN ∷ []
origin (Unix at address) = SMFIA_UNIX ∷ (port at ++ string address)
origin (Inet at address) = SMFIA_INET ∷ (port at ++ string address)
origin (Inet6 at address) = SMFIA_INET6 ∷ (port at ++ string address)

pub record EndpointFits (at : ℕ) (address : List ℕ) : Type 0 where
  pub in_range : at < 2 ^ 16
  pub no_nul : HasNoNul address

abbrev pub OriginFits : Origin → Type 0
OriginFits Unknown = Unit {0}
OriginFits (Unix at address) = EndpointFits at address
OriginFits (Inet at address) = EndpointFits at address
OriginFits (Inet6 at address) = EndpointFits at address

abbrev pub client : Client → List ℕ
client c = string c.host ++ origin c.origin

pub record ClientFits (c : Client) : Type 0 where
  pub host : HasNoNul c.host
  pub origin : OriginFits c.origin

-- ---- senders and recipients: an address and its parameters

abbrev pub path : Path → List ℕ
path p = string p.address ++ flat_map string p.params

pub record PathFits (p : Path) : Type 0 where
  pub address : HasNoNul p.address
  pub params : All HasNoNul p.params

-- ---- header fields: a name and a value

abbrev pub header : Header → List ℕ
header h = string h.name ++ string h.value

pub record HeaderFits (h : Header) : Type 0 where
  pub name : HasNoNul h.name
  pub value : HasNoNul h.value

-- an index among the header fields, and a header field
pub record IndexedFits (index : ℕ) (h : Header) : Type 0 where
  pub in_range : index < 2 ^ 32
  pub header : HeaderFits h

-- ---- arguments: none, or one string; the empty string is not none

abbrev pub arguments : Option (List ℕ) → List ℕ
arguments None = []
arguments (Some text) = string text

abbrev pub ArgumentsFit : Option (List ℕ) → Type 0
ArgumentsFit None = Unit {0}
ArgumentsFit (Some text) = HasNoNul text

-- an address, with arguments or without
pub record AddressedFits (address : List ℕ) (args : Option (List ℕ)) : Type 0 where
  pub no_nul : HasNoNul address
  pub arguments : ArgumentsFit args

-- ---- reply codes: `4` or `5`, two digits, and anything after them

abbrev pub is_reply_code : List ℕ → Bool
is_reply_code (class ∷ second ∷ third ∷ rest) =
    (class == 52 || class == 53) && (is_ascii_digit second && is_ascii_digit third)
is_reply_code _ = false

pub record ReplyCodeFits (text : List ℕ) : Type 0 where
  pub no_nul : HasNoNul text
  pub form : is_reply_code text ≡ true
