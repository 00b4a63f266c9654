-- The macros that are kept: all that are shown, and those of them that stay for the whole connection.
use Rattle.std.specs.Prelude.{Bool, List, ◌++◌, reverse, if◌then◌else◌}
use Rattle.std.specs.List.{filter, flat_map}
use Rattle.milter_fields.specs.declared.pair.Pair.{Pair}
use Rattle.milter_filter_stream.specs.declared.macro_list.MacroGroup.{MacroGroup}

-- the last ones first
pub record Macros : Type 0 where
  pub shown : List Pair
  pub connection : List Pair

abbrev pub pairs_of : List MacroGroup → List Pair
pairs_of groups = flat_map (λ group. reverse group.pairs) (reverse groups)

abbrev pub stays : MacroGroup → Bool
stays group = group.of_connection

abbrev pub macros_of : List MacroGroup → Macros
macros_of groups = record { shown = pairs_of groups; connection = pairs_of (filter stays groups) }

-- with the macros of one packet more
abbrev pub macros_with : Bool → List Pair → Macros → Macros
macros_with of_connection pairs macros =
    record {
      shown = reverse pairs ++ macros.shown;
      connection = if of_connection then reverse pairs ++ macros.connection else macros.connection;
    }
