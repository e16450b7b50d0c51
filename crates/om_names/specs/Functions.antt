-- The function that an address lies in, and the names of functions: DWARF 4, section 3.3 "Subroutine and Entry Point Entries".
use Rattle.std.specs.Prelude.{ℕ, suc, zero, Bool, ◌&&◌, nat_eq, List, length, filter, find, Option, Some, None}
use Rattle.std.specs.Option.{option_and_then, option_or}
use Rattle.om_die.specs.Constants.{DW_AT_abstract_origin, DW_AT_name, DW_AT_specification}
use Rattle.om_die.specs.Units.{dies_of_units}
use Rattle.om_die.specs.AttributeValue.{Value}
use Rattle.om_die.specs.AttributeValue as v
use Rattle.om_die.specs.declared.die.Die.{Die}
use Rattle.om_names.specs.Information.{Entry, Information, entries_of, is_subprogram, value_of}
use Rattle.om_names.specs.Ranges.{ranges_in, hold, are_some}
use Rattle.om_names.specs.declared.debug_counts.Counts.{Counts}

-- ---- names

-- a value that is a text
abbrev pub text_in : Option Value → Option (List ℕ)
text_in (Some (v.Text name)) = Some name
text_in value = None

-- DW_AT_name
abbrev pub own_name : Die → Option (List ℕ)
own_name die = text_in (value_of DW_AT_name die)

-- a value that is the offset of an entry
abbrev pub target_in : Option Value → Option ℕ
target_in (Some (v.Target offset)) = Some offset
target_in value = None

-- the entry that an entry is told by: its DW_AT_abstract_origin, else its DW_AT_specification
abbrev pub link_of : Die → Option ℕ
link_of die = option_or (target_in (value_of DW_AT_abstract_origin die)) (target_in (value_of DW_AT_specification die))

-- the entry at an offset
abbrev pub entry_at : List Die → ℕ → Option Die
entry_at dies offset = find (λ die. nat_eq die.at offset) dies

-- what an entry tells, by itself or through the one that it is told by, in so many links at most
unfoldable pub reached : {A : Type 0} → (Die → Option A) → ℕ → List Die → Die → Option A
reached own zero dies die = own die
reached own (suc links) dies die =
    option_or (own die) (option_and_then (reached own links dies) (option_and_then (entry_at dies) (link_of die)))

-- ... in at most 4 links
abbrev pub reached_in_4 : {A : Type 0} → (Die → Option A) → List Die → Die → Option A
reached_in_4 own dies die = reached own 4 dies die

-- the name of an entry: its own, else that of the entry that it is told by
abbrev pub name_among : List Die → Die → Option (List ℕ)
name_among dies die = reached_in_4 own_name dies die

abbrev pub name_of : Information → Die → Option (List ℕ)
name_of info die = name_among (dies_of_units info.units.list) die

-- ---- functions

-- a subprogram has an address among its ranges
abbrev pub holds : Information → ℕ → Entry → Bool
holds info pc entry = is_subprogram entry && hold (ranges_in info entry) pc

-- the first subprogram that has an address among its ranges
abbrev pub function_at : Information → ℕ → Option Entry
function_at info pc = find (holds info pc) (entries_of info.units)

-- the name of the first subprogram that has an address among its ranges, if there is one and it has a name
unfoldable pub func_at : Information → ℕ → Option (List ℕ)
func_at info pc = option_and_then (λ entry. name_of info entry.die) (function_at info pc)

-- ---- counts

-- the subprograms with a range that isn't empty
abbrev pub functions_in : Information → List Entry
functions_in info = filter (λ entry. is_subprogram entry && are_some (ranges_in info entry)) (entries_of info.units)

-- how many units are read and how many skipped, and how many functions there are
unfoldable pub counts_of : Information → Counts
counts_of info = record { units = length info.units.list; skipped = info.units.skipped; functions = length (functions_in info) }
