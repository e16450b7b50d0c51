-- Variables of a function's own: DWARF 4, sections 4.1 "Data Object Entries", 3.3.5 "Low-Level Information" (frame bases) and
-- 3.4 "Lexical Block Entries".
use Rattle.std.specs.Prelude.{ℕ, Bool, false, true, ◌||◌, nat_eq, if◌then◌else◌, List, [], ◌∷◌, filter, find, map, unwrap_or, Option, Some, None}
use Rattle.std.specs.Option.{option_and_then, option_map}
use Rattle.om_base.specs.declared.span.Span.{Span}
use Rattle.om_die.specs.Constants.{DW_TAG_lexical_block}
use Rattle.om_die.specs.declared.die.Die.{Die}
use Rattle.om_die.specs.declared.unit.Unit.{Unit}
use Rattle.om_eval.specs.Qualified.{qualified}
use Rattle.om_loc.specs.Places.{place_of}
use Rattle.om_loc.specs.declared.place.Place.{Place}
use Rattle.om_loc.specs.declared.place.Place.TheVariants as p
use Rattle.om_names.specs.Above.{Placed}
use Rattle.om_names.specs.Constants.{DW_AT_frame_base, DW_AT_location, DW_TAG_inlined_subroutine}
use Rattle.om_names.specs.FixedVariables.{block_in, is_function}
use Rattle.om_names.specs.Functions.{name_among}
use Rattle.om_names.specs.Information.{value_of}
use Rattle.om_names.specs.Ranges.{ranges_of}
use Rattle.om_names.specs.Types.{is_typed, kind_in, typing_of}
use Rattle.om_names.specs.declared.local.Local.{Local}

-- ---- the function

-- an entry is a subroutine that was inlined
abbrev pub is_inlined : Die → Bool
is_inlined die = nat_eq die.tag DW_TAG_inlined_subroutine

abbrev pub if_function : Die → Option Die
if_function die = if is_function die then Some die else None

-- the nearest subprogram that an entry stands below, unless an inlined subroutine is between
unfoldable pub function_above : List Die → Option Die
function_above line = option_and_then if_function (find (λ die. is_function die || is_inlined die) line)

-- ---- the scope

-- an entry is a subprogram or a lexical block
abbrev pub is_scope : Die → Bool
is_scope die = is_function die || nat_eq die.tag DW_TAG_lexical_block

-- the ranges of an entry of a unit, none where its list has no end
abbrev pub spans_of : List ℕ → Unit → Die → List Span
spans_of ranges unit die = unwrap_or (ranges_of ranges (record { unit = unit; die = die })) []

-- there are some, be they empty
abbrev pub are_there : List Span → Bool
are_there [] = false
are_there (span ∷ spans) = true

-- the ranges of the nearest subprogram or lexical block that an entry stands below and that has some
unfoldable pub scope_above : List ℕ → Unit → List Die → List Span
scope_above ranges unit line = unwrap_or (find are_there (map (spans_of ranges unit) (filter is_scope line))) []

-- ---- the place

-- the place that an expression says, if there is one
abbrev pub place_by : Option (List ℕ) → Place
place_by None = p.Gone
place_by (Some block) = place_of block

-- the place that an attribute of an entry says
abbrev pub place_in : ℕ → Die → Place
place_in name die = place_by (block_in (value_of name die))

-- the local variable that an entry is, if it is one: a variable or a parameter of a function, where both have names
unfoldable pub local_of : List Die → Placed → Option Local
local_of dies placed =
    if is_typed placed.die then
    option_and_then (λ function. option_and_then (λ outer. option_map (λ own. record {
      name = qualified (Some outer) own;
      kind = kind_in (typing_of dies placed.die);
      place = place_in DW_AT_location placed.die;
      base = place_in DW_AT_frame_base function;
      depth = placed.die.depth;
    }) (name_among dies placed.die)) (name_among dies function)) (function_above placed.line)
    else None
