-- The entries of .debug_frame: DWARF 4, section 6.4.1 "Structure of Call Description Information" and section 7.2.2.
use Rattle.std.specs.Prelude.{ℕ, zero, suc, ◌+◌, ◌-◌, ◌||◌, nat_eq, nat_lt, if◌then◌else◌, List, [], ◌∷◌, length, take, drop, map, filter_map, unwrap_or, Option, Some, None}
use Rattle.om_base.specs.Firsts.{first_of}
use Rattle.om_base.specs.Numbers.{number_at}
use Rattle.om_cfi.specs.declared.fault.CfiFault.{CfiFault}
use Rattle.om_cfi.specs.declared.fault.CfiFault.TheVariants as fault
use Rattle.om_cfi.specs.declared.entries.Entry.{Entry}
use Rattle.om_cfi.specs.declared.entries.Slot.{Slot}
use Rattle.om_cfi.specs.declared.entries.Slot.TheVariants.{Cut, Empty, Whole}

abbrev pub field : List ℕ → ℕ → ℕ
field bytes at = unwrap_or (number_at 4 bytes at) 0

-- what stands at a place, in front of some bytes, and how many bytes it has
unfoldable pub slot_in : ℕ → List ℕ → Slot × ℕ
slot_in at bytes =
    if nat_lt (length bytes) 4 then (Cut at, length bytes)
    else if nat_eq (field bytes 0) 0 then (Empty, 4)
    else if nat_lt (field bytes 0) 4 || nat_lt (length bytes) (4 + field bytes 0) then (Cut at, length bytes)
    else (Whole (record { at = at; id = field bytes 4; body = take (field bytes 0 - 4) (drop 8 bytes) }), 4 + field bytes 0)

-- what stands in some bytes that begin at a place, one after another, where the first bytes are still of one before
unfoldable pub slots : ℕ → ℕ → List ℕ → List Slot
slots at taken [] = []
slots at (suc taken) (byte ∷ bytes) = slots (at + 1) taken bytes
slots at zero (byte ∷ bytes) = (slot_in at (byte ∷ bytes)).0 ∷ slots (at + 1) ((slot_in at (byte ∷ bytes)).1 - 1) bytes

abbrev pub cut_fault : Slot → Option CfiFault
cut_fault Empty = None
cut_fault (Cut at) = Some (fault.Short at)
cut_fault (Whole entry) = None

abbrev pub entry_in : Slot → Option Entry
entry_in Empty = None
entry_in (Cut at) = None
entry_in (Whole entry) = Some entry

-- the first entry that passes the section or ends within its id
unfoldable pub first_cut : List ℕ → Option CfiFault
first_cut section = first_of (map cut_fault (slots 0 0 section))

-- the entries of a section
unfoldable pub entries_in : List ℕ → List Entry
entries_in section = filter_map entry_in (slots 0 0 section)
