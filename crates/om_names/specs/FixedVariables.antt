-- Variables outside functions: DWARF 4, sections 4.1 "Data Object Entries" and 2.6.1 "Single Location Descriptions".
use Rattle.std.specs.Prelude.{ℕ, Bool, false, ◌&&◌, not, nat_eq, if◌then◌else◌, List, Option, Some, None}
use Rattle.std.specs.List.{list_any}
use Rattle.std.specs.Option.{option_and_then, option_map}
use Rattle.om_die.specs.AttributeValue.{Value}
use Rattle.om_die.specs.AttributeValue as v
use Rattle.om_die.specs.Constants.{DW_TAG_subprogram}
use Rattle.om_die.specs.declared.die.Die.{Die}
use Rattle.om_loc.specs.Places.{place_of}
use Rattle.om_loc.specs.declared.place.Place.{Place}
use Rattle.om_loc.specs.declared.place.Place.TheVariants as p
use Rattle.om_names.specs.Above.{Placed}
use Rattle.om_names.specs.Constants.{DW_AT_declaration, DW_AT_location, DW_TAG_variable}
use Rattle.om_names.specs.Functions.{name_among}
use Rattle.om_names.specs.Information.{value_of}
use Rattle.om_names.specs.Types.{kind_in, typing_of}
use Rattle.om_names.specs.declared.fixed.Fixed.{Fixed}

-- an entry is a subprogram
abbrev pub is_function : Die → Bool
is_function die = nat_eq die.tag DW_TAG_subprogram

-- a value that is a flag, and true
abbrev pub is_flagged : Option Value → Bool
is_flagged (Some (v.Flag flag)) = flag
is_flagged value = false

-- a value that is a block
abbrev pub block_in : Option Value → Option (List ℕ)
block_in (Some (v.Block bytes)) = Some bytes
block_in value = None

-- a place that is an address
abbrev pub address_of : Place → Option ℕ
address_of (p.Fixed address) = Some address
address_of place = None

-- the address that an entry's DW_AT_location says, if it is one
abbrev pub fixed_address : Die → Option ℕ
fixed_address die = option_and_then (λ block. address_of (place_of block)) (block_in (value_of DW_AT_location die))

-- an entry is a mere declaration
abbrev pub is_declaration : Die → Bool
is_declaration die = is_flagged (value_of DW_AT_declaration die)

-- an entry is a variable, no mere declaration, and stands below no subprogram
abbrev pub is_outside : Placed → Bool
is_outside placed = nat_eq placed.die.tag DW_TAG_variable && (not (list_any is_function placed.line) && not (is_declaration placed.die))

-- the fixed variable that an entry is, if it is one: it has a name and an address
unfoldable pub fixed_of : List Die → Placed → Option Fixed
fixed_of dies placed =
    if is_outside placed then
    option_and_then (λ name. option_map (λ address. record { name = name; address = address; kind = kind_in (typing_of dies placed.die) }) (fixed_address placed.die))
    (name_among dies placed.die)
    else None
