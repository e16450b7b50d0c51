-- What entries tell of functions, entry by entry.
use Rattle.std.specs.Prelude.{ℕ, Bool, ◌&&◌, ◌||◌, nat_eq, if◌then◌else◌, List, [], drop, map, sum_by, unwrap_or, Option, None, Some, is_some}
use Rattle.std.specs.List.{flat_map}
use Rattle.om_base.specs.Firsts.{first_of}
use Rattle.om_base.specs.declared.span.Span.{Span}
use Rattle.om_claims.specs.declared.claim.Claim.{Claim}
use Rattle.om_die.specs.Constants.{DW_TAG_lexical_block, DW_TAG_subprogram}
use Rattle.om_die.specs.RangeLists.{range_list}
use Rattle.om_die.specs.declared.die.Die.{Die}
use Rattle.om_die.specs.declared.fault.DieFault.{DieFault}
use Rattle.om_die.specs.declared.fault.DieFault.TheVariants as d
use Rattle.om_die.specs.declared.unit.Unit.{Unit}
use Rattle.om_names.specs.Information.{Entry}
use Rattle.om_names.specs.Names.{name_from}
use Rattle.om_names.specs.Ranges.{are_some, base_of, own_range, range_fault, ranges_by, ranges_offset}
use Rattle.om_names.specs.declared.names.Names.{Names}

-- an entry of a unit
abbrev pub entry_in : Unit → Die → Entry
entry_in unit die = record { unit = unit; die = die }

-- ---- range lists without an end

-- the ranges of an entry are read
abbrev pub has_ranges : Die → Bool
has_ranges die = nat_eq die.tag DW_TAG_subprogram || nat_eq die.tag DW_TAG_lexical_block

-- where the list begins that an entry's ranges are read from, if it has one
abbrev pub unless_own : Option Span → Option ℕ → Option ℕ
unless_own None offset = offset
unless_own (Some span) offset = None

unfoldable pub list_offset : Die → Option ℕ
list_offset die = if has_ranges die then unless_own (own_range die) (ranges_offset die) else None

-- that a list has no end
unfoldable pub fault_at : List ℕ → ℕ → Option ℕ → Option DieFault
fault_at section base None = None
fault_at section base (Some at) = if is_some (range_list base (drop at section)) then None else Some (d.Short at)

-- the first list of a unit that has no end
abbrev pub fault_in : List ℕ → Unit → Option DieFault
fault_in section unit = first_of (map (λ die. range_fault section (entry_in unit die)) unit.dies)

-- ---- functions

-- a range of a function, with the function's name if it has one
pub record NamedSpan : Type 0 where
  pub span : Span
  pub name : Option (List ℕ)

abbrev pub named_by : Option (List ℕ) → Span → NamedSpan
named_by name span = record { span = span; name = name }

-- the claims to ranges, all as deep, and the names of their functions
abbrev pub claims_of : List NamedSpan → List Claim
claims_of named = map (λ it. record { span = it.span; depth = 0 }) named

abbrev pub names_of : List NamedSpan → List (Option (List ℕ))
names_of named = map (λ it. it.name) named

-- the ranges of an entry, in a unit whose range lists count from a base
abbrev pub spans_by : List ℕ → ℕ → Die → List Span
spans_by section base die = unwrap_or (ranges_by section base die (own_range die)) []

-- ... with its name, where it is a subprogram
unfoldable pub named_spans : Names → List ℕ → ℕ → Die → List NamedSpan
named_spans names section base die = if nat_eq die.tag DW_TAG_subprogram then map (named_by (name_from names die)) (spans_by section base die) else []

-- how many functions with a range that isn't empty an entry is: one or none
unfoldable pub count_by : List ℕ → ℕ → Die → ℕ
count_by section base die = if nat_eq die.tag DW_TAG_subprogram && are_some (spans_by section base die) then 1 else 0

-- ... the entries of a unit
unfoldable pub named_in_unit : Names → List ℕ → Unit → List NamedSpan
named_in_unit names section unit = flat_map (named_spans names section (base_of unit)) unit.dies

unfoldable pub count_in_unit : List ℕ → Unit → ℕ
count_in_unit section unit = sum_by (count_by section (base_of unit)) unit.dies
