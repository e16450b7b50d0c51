-- The frame description entries of .debug_frame, why it may be refused, and the rules that it tells: DWARF 4, section 6.4.1 and section 6.4.3.
use Rattle.std.specs.Prelude.{ℕ, ℤ, ◌+◌, Bool, ◌&&◌, nat_eq, nat_le, nat_lt, if◌then◌else◌, List, [], ◌∷◌, find, map, filter_map, Option, Some, None, Result, Ok, Err}
use Rattle.std.specs.Option.{option_and_then}
use Rattle.om_base.specs.Firsts.{first_of}
use Rattle.om_cfi.specs.Entries.{entries_in, first_cut}
use Rattle.om_cfi.specs.declared.fault.CfiFault.{CfiFault}
use Rattle.om_cfi.specs.declared.fault.CfiFault.TheVariants as fault
use Rattle.om_cfi.specs.declared.entries.Entry.{Entry}
use Rattle.om_cfi.specs.Common.{common_entry_in, description_in}
use Rattle.om_cfi.specs.Rules.{rule_at}
use Rattle.om_cfi.specs.declared.common.CommonEntry.{CommonEntry}
use Rattle.om_cfi.specs.declared.common.CommonEntry.TheVariants.{Ruled, Ruleless}
use Rattle.om_cfi.specs.declared.description.Description.{Description}
use Rattle.om_cfi.specs.declared.fields.Short.{Short}

-- ---- what descriptions have in common

abbrev pub is_common : Entry → Bool
is_common entry = nat_eq entry.id 0xffffffff

abbrev pub short_at : {A : Type 0} → ℕ → Result A Short → Option CfiFault
short_at at (Ok x) = None
short_at at (Err e) = Some (fault.Short at)

abbrev pub if_ok : {A : Type 0} → Result A Short → Option A
if_ok (Ok x) = Some x
if_ok (Err e) = None

-- fields or operands of what is in common pass the entry
unfoldable pub common_fault : Entry → Option CfiFault
common_fault entry = if is_common entry then short_at entry.at (common_entry_in entry.body) else None

unfoldable pub common_of : Entry → Option CommonEntry
common_of entry = if is_common entry then if_ok (common_entry_in entry.body) else None

-- what an entry says of the entry at an offset
abbrev pub said_at : ℕ → Entry → Option CommonEntry
said_at offset entry = if nat_eq entry.at offset then common_of entry else None

-- what is in common by the first entry at an offset that says it
abbrev pub common_at : List Entry → ℕ → Option CommonEntry
common_at entries offset = first_of (map (said_at offset) entries)

-- ---- descriptions

abbrev pub described_fault : Entry → Option CommonEntry → Option CfiFault
described_fault entry None = Some (fault.Cie entry.at)
described_fault entry (Some Ruleless) = None
described_fault entry (Some (Ruled factors common)) = short_at entry.at (description_in factors common entry.body)

-- a description has no such entry, or its fields or operands pass its own
unfoldable pub fault_by : (ℕ → Option CommonEntry) → Entry → Option CfiFault
fault_by find entry = if is_common entry then None else described_fault entry (find entry.id)

abbrev pub frame_fault : List Entry → Entry → Option CfiFault
frame_fault entries = fault_by (common_at entries)

abbrev pub described : Entry → Option CommonEntry → Option Description
described entry None = None
described entry (Some Ruleless) = None
described entry (Some (Ruled factors common)) = if_ok (description_in factors common entry.body)

unfoldable pub frame_by : (ℕ → Option CommonEntry) → Entry → Option Description
frame_by find entry = if is_common entry then None else described entry (find entry.id)

abbrev pub frame_of : List Entry → Entry → Option Description
frame_of entries = frame_by (common_at entries)

-- ---- the section

-- the first fault of all entries' heads, then of what is in common, then of the descriptions
unfoldable pub frames_fault : List ℕ → Option CfiFault
frames_fault section =
    first_of (first_cut section ∷ first_of (map common_fault (entries_in section)) ∷ first_of (map (frame_fault (entries_in section)) (entries_in section)) ∷ [])

unfoldable pub frames_in : List ℕ → List Description
frames_in section = filter_map (frame_of (entries_in section)) (entries_in section)

-- ---- the rule at an address

-- a description has an address
abbrev pub has : ℕ → Description → Bool
has pc it = nat_le it.first pc && nat_lt pc (it.first + it.length)

-- the rule that a description has at an address
unfoldable pub rule_of : ℕ → Description → Option (ℕ × ℤ)
rule_of pc it = rule_at it.factors it.common it.first it.own pc

-- the rule at an address, by the first description that has it
unfoldable pub cfa_at : ℕ → List Description → Option (ℕ × ℤ)
cfa_at pc frames = option_and_then (rule_of pc) (find (has pc) frames)

-- the rule at each address, by a section
unfoldable pub rules_in : List ℕ → ℕ → Option (ℕ × ℤ)
rules_in section = λ pc. cfa_at pc (frames_in section)
