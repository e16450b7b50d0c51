-- The addresses of an entry's code: DWARF 4, section 2.17 "Code Addresses and Ranges".
use Rattle.std.specs.Prelude.{ℕ, ◌+◌, ◌^◌, pos, Bool, ◌&&◌, ◌||◌, nat_le, nat_lt, min, if◌then◌else◌, List, [], ◌∷◌, drop, map, unwrap_or, Option, Some, None}
use Rattle.std.specs.List.{list_any}
use Rattle.std.specs.Option.{option_map, option_and_then}
use Rattle.om_base.specs.Firsts.{first_of}
use Rattle.om_base.specs.declared.span.Span.{Span}
use Rattle.om_die.specs.Constants.{DW_AT_high_pc, DW_AT_low_pc, DW_AT_ranges}
use Rattle.om_die.specs.RangeLists.{range_list}
use Rattle.om_die.specs.AttributeValue.{Value}
use Rattle.om_die.specs.AttributeValue as v
use Rattle.om_die.specs.declared.die.Die.{Die}
use Rattle.om_die.specs.declared.fault.DieFault.{DieFault}
use Rattle.om_die.specs.declared.fault.DieFault.TheVariants as d
use Rattle.om_die.specs.declared.unit.Unit.{Unit}
use Rattle.om_die.specs.declared.unit.Units.{Units}
use Rattle.om_names.specs.Information.{Entry, Information, entries_of, is_block, is_subprogram, value_of}

-- ---- attributes

-- an address
abbrev pub address_in : Option Value → Option ℕ
address_in (Some (v.Addr address)) = Some address
address_in value = None

-- DW_AT_low_pc
abbrev pub low_pc : Die → Option ℕ
low_pc die = address_in (value_of DW_AT_low_pc die)

-- the end of a range that begins at an address: an address itself, or how far it is from the beginning
abbrev pub end_in : ℕ → Option Value → Option ℕ
end_in low (Some (v.Addr address)) = Some address
end_in low (Some (v.Number size)) = Some (low + size)
end_in low (Some (v.Signed (pos size))) = Some (low + size)
end_in low value = None

-- DW_AT_high_pc, of an entry whose code begins at an address
abbrev pub high_pc : ℕ → Die → Option ℕ
high_pc low die = end_in low (value_of DW_AT_high_pc die)

-- an offset of another section
abbrev pub offset_in : Option Value → Option ℕ
offset_in (Some (v.Offset offset)) = Some offset
offset_in (Some (v.Number offset)) = if nat_lt offset (2 ^ 32) then Some offset else None
offset_in value = None

-- DW_AT_ranges
abbrev pub ranges_offset : Die → Option ℕ
ranges_offset die = offset_in (value_of DW_AT_ranges die)

-- ---- ranges

-- the one range of an entry that has both a lowest and a highest address
abbrev pub own_range : Die → Option Span
own_range die = option_and_then (λ low. option_map (λ high. record { lo = low; hi = min high (2 ^ 32) }) (high_pc low die)) (low_pc die)

-- the lowest address of the first entry, if it has one
abbrev pub first_low_pc : List Die → Option ℕ
first_low_pc [] = None
first_low_pc (die ∷ dies) = low_pc die

-- the address from which a unit's range lists count: the lowest one of its first entry, 0 where that has none
abbrev pub base_of : Unit → ℕ
base_of unit = unwrap_or (first_low_pc unit.dies) 0

-- the ranges of a list, of an entry that has one; None where the list has no end
abbrev pub listed : List ℕ → ℕ → Option ℕ → Option (List Span)
listed section base None = Some []
listed section base (Some offset) = range_list base (drop offset section)

-- the ranges of an entry: its own one, else those of its list; None where the list has no end
abbrev pub ranges_by : List ℕ → ℕ → Die → Option Span → Option (List Span)
ranges_by section base die (Some span) = Some (span ∷ [])
ranges_by section base die None = listed section base (ranges_offset die)

unfoldable pub ranges_of : List ℕ → Entry → Option (List Span)
ranges_of section entry = ranges_by section (base_of entry.unit) entry.die (own_range entry.die)

-- the ranges of an entry, none where its list has no end
abbrev pub ranges_in : Information → Entry → List Span
ranges_in info entry = unwrap_or (ranges_of info.ranges entry) []

-- an address lies in one of some ranges
abbrev pub hold : List Span → ℕ → Bool
hold ranges pc = list_any (λ span. nat_le span.lo pc && nat_lt pc span.hi) ranges

-- one of some ranges isn't empty
abbrev pub are_some : List Span → Bool
are_some ranges = list_any (λ span. nat_lt span.lo span.hi) ranges

-- ---- what is wrong with them

-- a list without an end, told where it begins
abbrev pub endless : Option ℕ → Option (List Span) → Option DieFault
endless (Some offset) None = Some (d.Short offset)
endless offset ranges = None

-- an entry is one whose ranges are read, and its list has no end
abbrev pub range_fault : List ℕ → Entry → Option DieFault
range_fault section entry =
    if is_subprogram entry || is_block entry then endless (ranges_offset entry.die) (ranges_of section entry) else None

-- the first such fault of the entries of some units
unfoldable pub first_range_fault : List ℕ → Units → Option DieFault
first_range_fault section units = first_of (map (range_fault section) (entries_of units))
