-- Variables, by what entries tell of names and types.
use Rattle.std.specs.Prelude.{ℕ, Bool, ◌&&◌, not, nat_eq, if◌then◌else◌, List, [], filter_map, flat_map, Option, None, Some}
use Rattle.std.specs.Option.{option_and_then, option_map, option_or}
use Rattle.om_die.specs.declared.die.Die.{Die}
use Rattle.om_die.specs.declared.unit.Unit.{Unit}
use Rattle.om_eval.specs.Qualified.{qualified}
use Rattle.om_names.specs.Above.{Placed, placed_behind}
use Rattle.om_names.specs.Around.{around, spans_by}
use Rattle.om_names.specs.Constants.{DW_AT_location, DW_TAG_variable}
use Rattle.om_names.specs.FixedVariables.{fixed_address, is_declaration}
use Rattle.om_names.specs.LocalVariables.{place_in}
use Rattle.om_names.specs.Names.{name_from, typing_from}
use Rattle.om_names.specs.Ranges.{base_of}
use Rattle.om_names.specs.Types.{is_typed, kind_in}
use Rattle.om_names.specs.Variables.{Scoped}
use Rattle.om_names.specs.declared.around.Around.{Around}
use Rattle.om_names.specs.declared.around.Function.{Function}
use Rattle.om_names.specs.declared.fixed.Fixed.{Fixed}
use Rattle.om_names.specs.declared.found.Found.{Found}
use Rattle.om_names.specs.declared.local.Local.{Local}
use Rattle.om_names.specs.declared.names.Names.{Names}
use Rattle.om_names.specs.declared.variable.Variable.TheVariants as var

-- the fixed variable that an entry is, if it is one, by whether it stands below a subprogram
unfoldable pub fixed_by : Names → Die → Bool → Option Fixed
fixed_by names die inside =
    if nat_eq die.tag DW_TAG_variable && (not inside && not (is_declaration die)) then
    option_and_then (λ name. option_map (λ address. record { name = name; address = address; kind = kind_in (typing_from names die) }) (fixed_address die)) (name_from names die)
    else None

-- the local variable of a function that an entry is, where both have names
abbrev pub local_in : Names → Die → Function → Option Local
local_in names die function =
    option_and_then (λ outer. option_map (λ own. record {
      name = qualified (Some outer) own;
      kind = kind_in (typing_from names die);
      place = place_in DW_AT_location die;
      base = function.base;
      depth = die.depth;
    }) (name_from names die)) function.name

-- ... by the function that the entry stands in, if it stands in one
unfoldable pub local_by : Names → Die → Option Function → Option Local
local_by names die function = if is_typed die then option_and_then (local_in names die) function else None

-- the variable that an entry of a unit is, if it is one, by what it stands in
unfoldable pub found_by : Names → ℕ → Die → Around → Option Found
found_by names base die around =
    option_or (option_map (λ fixed. record { variable = var.Fixed fixed; base = base; scope = None }) (fixed_by names die around.is_inside))
    (option_map (λ local. record { variable = var.Local local; base = base; scope = around.scope }) (local_by names die around.function))

-- ... by the entries that it stands below
abbrev pub found_at : Names → List ℕ → ℕ → Placed → Option Found
found_at names ranges base placed = found_by names base placed.die (around names ranges base placed.line)

-- those of a unit
unfoldable pub found_in_unit : Names → List ℕ → Unit → List Found
found_in_unit names ranges unit = filter_map (found_at names ranges (base_of unit)) (placed_behind [] unit.dies)

-- those of some units
unfoldable pub found_by_units : Names → List ℕ → List Unit → List Found
found_by_units names ranges units = flat_map (found_in_unit names ranges) units

-- a variable with its scope
abbrev pub scoped_by : List ℕ → Found → Scoped
scoped_by ranges found = record { variable = found.variable; scope = spans_by ranges found.base found.scope }
