-- Variables put together by their names, one after another.
use Rattle.std.specs.Prelude.{◌≡◌, ℕ, suc, false, Bool, ◌||◌, if◌then◌else◌, List, [], ◌∷◌, bytes_eq, fold, Option, None, Some, is_some}
use Rattle.std.specs.BTreeMap.{get}
use Rattle.std.specs.Option.{option_and_then, option_map, option_or}
use Rattle.om_base.specs.declared.interval.Interval.{Interval}
use Rattle.om_eval.specs.declared.catalog.VarInfo.{VarInfo}
use Rattle.om_names.specs.NameOrder.{name_cmp}
use Rattle.om_names.specs.Variables.{differ, held_at, if_fixed, interval_of, kind_of, name_of, widened}
use Rattle.om_names.specs.declared.by_name.ByName.{ByName}
use Rattle.om_names.specs.declared.by_name.Seen.{Seen}
use Rattle.om_names.specs.declared.fixed.Fixed.{Fixed}
use Rattle.om_names.specs.declared.held.Held.{Held}
use Rattle.om_names.specs.declared.variable.Variable.{Variable}

-- an interval, and one more if there is one
abbrev pub widened_by : Option Interval → Option Interval → Option Interval
widened_by hull None = hull
widened_by hull (Some interval) = widened hull interval

-- the numbers of a variable, if its type is scalar
abbrev pub interval_in : Variable → Option Interval
interval_in variable = option_and_then interval_of (kind_of variable)

-- two fixed variables differ, where both are there
abbrev pub both_differ : Option Fixed → Option Fixed → Bool
both_differ None other = false
both_differ (Some one) None = false
both_differ (Some one) (Some other) = differ one other

-- what is known of one variable
abbrev pub seen_once : Variable → Seen
seen_once variable = record { name = name_of variable; fixed = if_fixed variable; scalar = widened_by None (interval_in variable); ambiguous = false }

-- ... and of one more of its name
abbrev pub seen_again : Seen → Variable → Seen
seen_again seen variable = record {
  name = seen.name;
  fixed = option_or seen.fixed (if_fixed variable);
  scalar = widened_by seen.scalar (interval_in variable);
  ambiguous = seen.ambiguous || both_differ seen.fixed (if_fixed variable);
}

-- a variable more
unfoldable pub put : List Seen → Variable → List Seen
put [] variable = seen_once variable ∷ []
put (seen ∷ others) variable = if bytes_eq (name_of variable) seen.name then seen_again seen variable ∷ others else seen ∷ put others variable

-- what is known of the names of some variables, in the order of their first ones
abbrev pub seen_in : List Variable → List Seen
seen_in variables = fold put [] variables

-- the place of a name among them
unfoldable pub place_in : List ℕ → List Seen → Option ℕ
place_in name [] = None
place_in name (seen ∷ others) = if bytes_eq name seen.name then Some 0 else option_map suc (place_in name others)

-- the places of all names are kept
abbrev pub HasPlaces : ByName → Type 0
HasPlaces them = (name : List ℕ) → get name_cmp them.places name ≡ place_in name them.list.items

-- ---- what is kept of them

abbrev pub info_by : Seen → VarInfo
info_by seen = record { name = seen.name; scalar = seen.scalar; ambiguous = seen.ambiguous; fixed = is_some seen.fixed }

-- where the fixed variable is that a name means, if it means one of a scalar type
abbrev pub held_by : Seen → Option Held
held_by seen = if seen.ambiguous then None else option_and_then held_at seen.fixed
