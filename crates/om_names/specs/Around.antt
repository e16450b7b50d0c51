-- What an entry stands in, by what entries tell.
use Rattle.std.specs.Prelude.{ℕ, false, ◌||◌, if◌then◌else◌, List, [], ◌∷◌, drop, unwrap_or, Option, None, Some}
use Rattle.std.specs.Option.{option_or}
use Rattle.om_base.specs.declared.span.Span.{Span}
use Rattle.om_die.specs.RangeLists.{range_list}
use Rattle.om_die.specs.declared.die.Die.{Die}
use Rattle.om_names.specs.Constants.{DW_AT_frame_base}
use Rattle.om_names.specs.FixedVariables.{is_function}
use Rattle.om_names.specs.LocalVariables.{is_inlined, is_scope, place_in}
use Rattle.om_names.specs.Names.{name_from}
use Rattle.om_names.specs.Ranges.{own_range, ranges_offset}
use Rattle.om_names.specs.declared.around.Around.{Around}
use Rattle.om_names.specs.declared.around.Function.{Function}
use Rattle.om_names.specs.declared.names.Names.{Names}
use Rattle.om_names.specs.declared.scope.Scope.{Scope}
use Rattle.om_names.specs.declared.scope.Scope.TheVariants.{Listed, Own}

-- ---- scopes

-- the ranges of a list, none where it has no end
abbrev pub list_at : List ℕ → ℕ → ℕ → List Span
list_at ranges base offset = unwrap_or (range_list base (drop offset ranges)) []

-- the ranges of a scope, in a unit whose range lists count from a base; none of none
abbrev pub spans_by : List ℕ → ℕ → Option Scope → List Span
spans_by ranges base None = []
spans_by ranges base (Some (Own span)) = span ∷ []
spans_by ranges base (Some (Listed offset)) = list_at ranges base offset

-- a scope that has ranges
abbrev pub if_there : List Span → Scope → Option Scope
if_there [] scope = None
if_there (span ∷ spans) scope = Some scope

-- where an entry's ranges are told, if it has some
abbrev pub listed_scope : List ℕ → ℕ → Option ℕ → Option Scope
listed_scope ranges base None = None
listed_scope ranges base (Some offset) = if_there (list_at ranges base offset) (Listed offset)

abbrev pub told_scope : List ℕ → ℕ → Option Span → Option ℕ → Option Scope
told_scope ranges base (Some span) offset = Some (Own span)
told_scope ranges base None offset = listed_scope ranges base offset

-- ... and it is a subprogram or a lexical block
unfoldable pub scope_of : List ℕ → ℕ → Die → Option Scope
scope_of ranges base die = if is_scope die then told_scope ranges base (own_range die) (ranges_offset die) else None

-- ---- what entries stand in

abbrev pub nothing : Around
nothing = record { is_inside = false; function = None; scope = None }

unfoldable pub function_in : Names → Die → Option Function → Option Function
function_in names die outer =
    if is_function die then Some (record { name = name_from names die; base = place_in DW_AT_frame_base die })
    else if is_inlined die then None
    else outer

-- what the entries stand in that stand right below an entry
unfoldable pub inside : Names → List ℕ → ℕ → Die → Around → Around
inside names ranges base die outer = record {
  is_inside = is_function die || outer.is_inside;
  function = function_in names die outer.function;
  scope = option_or (scope_of ranges base die) outer.scope;
}

-- what an entry stands in by the entries that it stands below, the nearest first
unfoldable pub around : Names → List ℕ → ℕ → List Die → Around
around names ranges base [] = nothing
around names ranges base (die ∷ line) = inside names ranges base die (around names ranges base line)
