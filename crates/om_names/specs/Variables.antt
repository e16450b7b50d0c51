-- Variables, and which of them a name means: DWARF 4, sections 4.1 "Data Object Entries" and 2.6.1 "Single Location Descriptions".
use Rattle.std.specs.Prelude.{ℕ, ◌-◌, ◌*◌, ◌^◌, pos, neg_ℤ, Bool, true, false, ◌&&◌, ◌||◌, not, nat_eq, nat_le, nat_lt, if◌then◌else◌, List, [], ◌∷◌, ◌++◌, bytes_eq, filter, filter_map, find, flat_map, fold, map, slice_get, unwrap_or, Option, Some, None}
use Rattle.std.specs.Int.{int_max, int_min}
use Rattle.std.specs.List.{list_all, list_any}
use Rattle.std.specs.Option.{option_and_then, option_map, option_or}
use Rattle.om_base.specs.declared.interval.Interval.{Interval}
use Rattle.om_base.specs.declared.span.Span.{Span}
use Rattle.om_die.specs.Units.{dies_of_units}
use Rattle.om_die.specs.declared.die.Die.{Die}
use Rattle.om_die.specs.declared.unit.Unit.{Unit}
use Rattle.om_die.specs.declared.unit.Units.{Units}
use Rattle.om_eval.specs.declared.catalog.VarInfo.{VarInfo}
use Rattle.om_loc.specs.declared.place.Place.TheVariants as p
use Rattle.om_names.specs.Above.{Placed, placed_behind}
use Rattle.om_names.specs.FixedVariables.{fixed_of}
use Rattle.om_names.specs.LocalVariables.{local_of, scope_above}
use Rattle.om_names.specs.Ranges.{hold}
use Rattle.om_names.specs.Types.{sizes}
use Rattle.om_names.specs.declared.fixed.Fixed.{Fixed}
use Rattle.om_names.specs.declared.held.Held.{Held}
use Rattle.om_names.specs.declared.kind.Kind.{Kind}
use Rattle.om_names.specs.declared.variable.Variable.{Variable}
use Rattle.om_names.specs.declared.variable.Variable.TheVariants as var

-- ---- variables

abbrev pub name_of : Variable → List ℕ
name_of (var.Fixed fixed) = fixed.name
name_of (var.Local local) = local.name

-- the numbers of its type, if that is scalar
abbrev pub kind_of : Variable → Option Kind
kind_of (var.Fixed fixed) = fixed.kind
kind_of (var.Local local) = local.kind

-- how many entries it stands below
abbrev pub depth_of : Variable → ℕ
depth_of (var.Fixed fixed) = 0
depth_of (var.Local local) = local.depth

abbrev pub if_fixed : Variable → Option Fixed
if_fixed (var.Fixed fixed) = Some fixed
if_fixed (var.Local local) = None

-- the fixed ones
abbrev pub fixed_among : List Variable → List Fixed
fixed_among variables = filter_map if_fixed variables

-- a variable with the addresses of code that it is in scope at; of a fixed one they aren't told
pub record Scoped : Type 0 where
  pub variable : Variable
  pub scope : List Span

-- the variable that an entry of a unit is, if it is one
unfoldable pub variable_of : List ℕ → Unit → List Die → Placed → Option Scoped
variable_of ranges unit dies placed =
    option_or (option_map (λ fixed. record { variable = var.Fixed fixed; scope = [] }) (fixed_of dies placed))
    (option_map (λ local. record { variable = var.Local local; scope = scope_above ranges unit placed.line }) (local_of dies placed))

-- those of some units, in the order of units and entries, where this is the section of range lists
unfoldable pub variables_in : List ℕ → Units → List Scoped
variables_in ranges units = flat_map (λ unit. filter_map (variable_of ranges unit (dies_of_units units.list)) (placed_behind [] unit.dies)) units.list

abbrev pub founds : List Scoped → List Variable
founds scoped = map (λ it. it.variable) scoped

-- ---- what variables of one name have in common

-- the numbers of a kind, if its size is one that is read
abbrev pub numbers_of : Kind → Interval
numbers_of kind =
    if kind.signed then record { lo = neg_ℤ (pos (2 ^ (8 * kind.size - 1))); hi = pos (2 ^ (8 * kind.size - 1) - 1) }
    else record { lo = pos 0; hi = pos (2 ^ (8 * kind.size) - 1) }

abbrev pub interval_of : Kind → Option Interval
interval_of kind = if list_any (nat_eq kind.size) sizes then Some (numbers_of kind) else None

-- the least interval that has an interval and another, if there is one before
abbrev pub widened : Option Interval → Interval → Option Interval
widened None interval = Some interval
widened (Some hull) interval = Some (record { lo = int_min hull.lo interval.lo; hi = int_max hull.hi interval.hi })

-- the hull of the numbers of some variables, if there are any
abbrev pub hull_of : List Variable → Option Interval
hull_of variables = fold widened None (filter_map (λ it. option_and_then interval_of (kind_of it)) variables)

-- what counts as a variable's kind: of one whose type isn't scalar no bytes, without a sign
abbrev pub counted_kind : Fixed → Kind
counted_kind fixed = unwrap_or fixed.kind (record { size = 0; signed = false })

abbrev pub agree : Bool → Bool → Bool
agree true b = b
agree false b = not b

-- two variables differ in address, size or sign
abbrev pub differ : Fixed → Fixed → Bool
differ a b =
    not (nat_eq a.address b.address && (nat_eq (counted_kind a).size (counted_kind b).size && agree (counted_kind a).signed (counted_kind b).signed))

-- two of some variables differ
unfoldable pub is_ambiguous : List Fixed → Bool
is_ambiguous [] = false
is_ambiguous (it ∷ others) = list_any (differ it) others || is_ambiguous others

-- ---- the catalog

-- names with one more at their end, unless it is there
abbrev pub with_name : List (List ℕ) → List ℕ → List (List ℕ)
with_name names name = if list_any (bytes_eq name) names then names else names ++ name ∷ []

-- the names of some variables, each once, in the order in which they first appear
unfoldable pub names_in : List Variable → List (List ℕ)
names_in variables = fold with_name [] (map name_of variables)

-- the variables of a name
abbrev pub named : List Variable → List ℕ → List Variable
named variables name = filter (λ it. bytes_eq name (name_of it)) variables

-- there are some
abbrev pub are_some : List Fixed → Bool
are_some [] = false
are_some (first ∷ others) = true

-- what is known of some variables of one name: that there is a fixed one makes it a fixed name
abbrev pub info_of : List Variable → List ℕ → VarInfo
info_of variables name = record { name = name; scalar = hull_of variables; ambiguous = is_ambiguous (fixed_among variables); fixed = are_some (fixed_among variables) }

-- the catalog of some variables
unfoldable pub catalog_of : List Variable → List VarInfo
catalog_of variables = map (λ name. info_of (named variables name) name) (names_in variables)

-- ---- the variable that is meant

-- where a fixed variable's number is
abbrev pub held_at : Fixed → Option Held
held_at fixed = option_map (λ kind. record { place = p.Fixed fixed.address; base = p.Gone; kind = kind }) fixed.kind

-- of some fixed variables of one name, unless it is ambiguous, the first is meant
abbrev pub first_held : List Fixed → Option Held
first_held [] = None
first_held (first ∷ others) = if is_ambiguous (first ∷ others) then None else held_at first

-- where a local variable's number is
abbrev pub local_held : Variable → Option Held
local_held (var.Fixed fixed) = None
local_held (var.Local local) = option_map (λ kind. record { place = local.place; base = local.base; kind = kind }) local.kind

-- a variable has a name, and is in scope at an address, which has 32 bits
abbrev pub is_in_scope : List ℕ → ℕ → Scoped → Bool
is_in_scope name pc it = nat_lt pc (2 ^ 32) && (bytes_eq name (name_of it.variable) && hold it.scope pc)

-- of some variables none stands below more entries than this one
abbrev pub is_deepest : List Scoped → Scoped → Bool
is_deepest scoped it = list_all (λ other. nat_le (depth_of other.variable) (depth_of it.variable)) scoped

-- the deepest of some variables, of equals the first
abbrev pub deepest : List Scoped → Option Scoped
deepest scoped = find (is_deepest scoped) scoped

-- the fixed variable of a name, or else the deepest local one that is in scope at an address
abbrev pub held_by_name : List Fixed → Option Held → Option Held
held_by_name [] local = local
held_by_name (first ∷ others) local = first_held (first ∷ others)

unfoldable pub meant : List Scoped → List ℕ → ℕ → Option Held
meant scoped name pc =
    held_by_name (fixed_among (named (founds scoped) name)) (option_and_then (λ it. local_held it.variable) (deepest (filter (is_in_scope name pc) scoped)))

-- where the number is of the name at a place of the catalog, at an address, if it means a variable of a scalar type
unfoldable pub held_in : List Scoped → ℕ → ℕ → Option Held
held_in scoped place pc = option_and_then (λ name. meant scoped name pc) (slice_get (names_in (founds scoped)) place)

-- ---- what is told of variables

pub record VariableFacts : Type 0 where
  -- the names, with what is known of each
  pub catalog : List VarInfo
  -- by the place of a name in the catalog and by an address, where the variable is that it means
  pub held : ℕ → ℕ → Option Held

abbrev pub variable_facts : List Scoped → VariableFacts
variable_facts scoped = record { catalog = catalog_of (founds scoped); held = held_in scoped }
