-- The payload of options: three numbers, and in a reply symbol lists after them.
use Rattle.std.specs.Prelude.{ℕ, zero, suc, ◌<◌, ◌^◌, List, [], ◌∷◌, ◌++◌, length, All, Option, None, Some}
use Rattle.std.specs.List.{flat_map}
use Rattle.milter_fields.specs.Number.{number, number_at}
use Rattle.milter_fields.specs.Field.{string, HasNoNul}
use Rattle.milter_fields.specs.Bind.{◌>>=◌}
use Rattle.milter_fields.specs.Decoders.{ended, string_at}
use Rattle.milter_wire.specs.declared.options.Options.{Options}
use Rattle.milter_wire.specs.declared.symbol_lists.SymList.{SymList}

-- ---- options: three numbers

abbrev pub options : Options → List ℕ
options o = number o.version ++ number o.actions.0 ++ number o.protocol.0

pub record OptionsFit (o : Options) : Type 0 where
  pub version : o.version < 2 ^ 32
  pub actions : o.actions.0 < 2 ^ 32
  pub protocol : o.protocol.0 < 2 ^ 32

-- ---- symbol lists: a stage, and the names of macros

abbrev pub sym_list : SymList → List ℕ
sym_list l = number l.stage ++ string l.names

pub record SymListFits (l : SymList) : Type 0 where
  pub stage : l.stage < 2 ^ 32
  pub names : HasNoNul l.names

-- ---- options with symbol lists: the options, and then each list

abbrev pub options_with_lists : Options → List SymList → List ℕ
options_with_lists o lists = options o ++ flat_map sym_list lists

pub record OptionsWithListsFit (o : Options) (ls : List SymList) : Type 0 where
  pub options : OptionsFit o
  pub lists : All SymListFits ls

-- ---- decoding, from left to right: a value and the bytes after it

abbrev pub options_of : ℕ → ℕ → ℕ → Options
options_of version actions protocol =
    record { version = version; actions = record { 0 = actions }; protocol = record { 0 = protocol } }

-- three numbers
unfoldable pub options_at : List ℕ → Option (Options × List ℕ)
options_at bytes = do
  version ← number_at bytes
  actions ← number_at version.1
  protocol ← number_at actions.1
  Some (options_of version.0 actions.0 protocol.0, protocol.1)

-- a stage and the names
unfoldable pub sym_list_at : List ℕ → Option (SymList × List ℕ)
sym_list_at bytes = do
  stage ← number_at bytes
  names ← string_at stage.1
  Some (record { stage = stage.0; names = names.0 }, names.1)

-- ---- decoding of whole payloads, up to the end of the bytes

unfoldable pub options_in : List ℕ → Option Options
options_in bytes = do
  options ← options_at bytes
  ended options.0 options.1

-- One list after the other, at most so many.
unfoldable pub sym_lists_within : ℕ → List ℕ → Option (List SymList)
sym_lists_within most [] = Some []
sym_lists_within zero (byte ∷ rest) = None
sym_lists_within (suc most) (byte ∷ rest) = do
  first ← sym_list_at (byte ∷ rest)
  others ← sym_lists_within most first.1
  Some (first.0 ∷ others)

-- symbol lists: there are fewer of them than bytes
unfoldable pub sym_lists_in : List ℕ → Option (List SymList)
sym_lists_in bytes = sym_lists_within (length bytes) bytes

-- options, and then symbol lists
unfoldable pub options_with_lists_in : List ℕ → Option (Options × List SymList)
options_with_lists_in bytes = do
  options ← options_at bytes
  lists ← sym_lists_in options.1
  Some (options.0, lists)
