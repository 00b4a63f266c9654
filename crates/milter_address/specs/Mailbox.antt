-- Mailbox and Path, of RFC 5321, 4.1.2.
use Rattle.std.specs.Prelude.{ℕ, Bool, ◌&&◌, not, nat_lt, List, [], ◌∷◌, ◌++◌, length, is_some, Option, None, Some, if◌then◌else◌}
use Rattle.std.specs.List.{after_first, before_first, list_all, list_any, slice_split}
use Rattle.milter_address.specs.Bytes.{is_at, is_colon, is_comma}
use Rattle.milter_address.specs.LocalPart.{LocalPart, local_part, local_text}

-- the name of a host, or an address literal: any bytes but `@`, which names there are is left open
abbrev pub is_domain : List ℕ → Bool
is_domain bytes = nat_lt 0 (length bytes) && not (list_any is_at bytes)

-- At-domain = "@" Domain: the domain
abbrev pub at_domain : List ℕ → Option (List ℕ)
at_domain [] = None
at_domain (byte ∷ bytes) = if is_at byte && is_domain bytes then Some bytes else None

-- what the Local-part stands for, and the domain
pub record Mailbox : Type 0 where
  pub content : List ℕ
  pub domain : List ℕ

abbrev pub with_domain : List ℕ → Option (List ℕ) → Option Mailbox
with_domain content None = None
with_domain content (Some domain) = Some (record { content = content; domain = domain })

abbrev pub behind_local_part : Option LocalPart → Option Mailbox
behind_local_part None = None
behind_local_part (Some part) = with_domain part.content (at_domain part.rest)

-- Mailbox = Local-part "@" ( Domain / address-literal )
abbrev pub mailbox : List ℕ → Option Mailbox
mailbox bytes = behind_local_part (local_part bytes)

-- A-d-l = At-domain *( "," At-domain ), the source route
abbrev pub is_route : List ℕ → Bool
is_route bytes = list_all (λ part. is_some (at_domain part)) (slice_split is_comma bytes)

-- the bytes behind a source route and its colon, or all where they begin with none
abbrev pub behind_route : List ℕ → List ℕ
behind_route bytes = if is_route (before_first is_colon bytes) then after_first is_colon bytes else bytes

-- what is between the brackets of a Path: [ A-d-l ":" ] Mailbox
abbrev pub path_mailbox : List ℕ → Option Mailbox
path_mailbox bytes = mailbox (behind_route bytes)

-- a mailbox in its canonical form
abbrev pub mailbox_text : Mailbox → List ℕ
mailbox_text box = local_text box.content ++ 64 ∷ box.domain
