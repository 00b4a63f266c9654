-- The addresses of sockets, as they are written.
use Rattle.std.specs.Prelude.{◌≡◌, ℕ, ◌<◌, ◌≤◌, List, ◌++◌, codes, length}
use Rattle.std.specs.Str.Parse.{IsNumeral, digits_value}
use Rattle.milter_command_line.specs.declared.address.Address.{Address}
use Rattle.milter_command_line.specs.declared.address.Address.TheVariants.{Inet, Unix}

-- one decimal digit or more, and the number that they write is a port
abbrev pub IsPort : List ℕ → ℕ → Type 0
IsPort digits port = IsNumeral 10 digits × (digits_value 10 digits ≡ port) × (1 ≤ port) × (port ≤ 65535)

-- a port, `@` and a host
abbrev pub IsPlace : List ℕ → ℕ → List ℕ → Type 0
IsPlace place port host =
    (digits : List ℕ) × IsPort digits port × (place ≡ digits ++ (codes "@" ++ host)) × (0 < length host)

-- the text names this address
abbrev pub IsAddress : List ℕ → Address → Type 0
IsAddress text (Inet port host) =
    (place : List ℕ) × (text ≡ codes "inet:" ++ place) × IsPlace place port host.now
IsAddress text (Unix path) = (text ≡ codes "unix:" ++ path.now) × (0 < length path.now)
