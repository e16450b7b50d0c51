-- Why the sections spell no units: the first refusal, from the first byte of .debug_info on.
use Rattle.std.specs.Prelude.{◌≡◌, ◌≢◌, ℕ, ◌+◌, ◌-◌, ◌≤◌, List, [], ◌++◌, length, take, drop, Option, Some, None, IsTrue, ◌⊎◌}
use Rattle.om_base.specs.Leb.{IsUleb}
use Rattle.om_base.specs.Reading.{EachFrom}
use Rattle.om_die.specs.Abbreviations.{IsTable, abbreviation_of}
use Rattle.om_die.specs.Abbreviations as table
use Rattle.om_die.specs.Attributes.{HasGap}
use Rattle.om_die.specs.Entries.{Placed, IsPlaced, dies_of}
use Rattle.om_die.specs.Forms.{Around}
use Rattle.om_die.specs.Units.{Sections, Piece, ArePieces, dies_in, most_dies, head_fault, is_read, unit_length, debug_abbrev_offset, settled_in, first_lost}
use Rattle.om_die.specs.declared.abbreviation.Abbreviation.{Abbreviation}
use Rattle.om_die.specs.declared.attributes.Gap.{Gap}
use Rattle.om_die.specs.declared.attributes.Gap.TheVariants as gap
use Rattle.om_die.specs.declared.die.Die.{Die}
use Rattle.om_die.specs.declared.fault.DieFault.{DieFault}
use Rattle.om_die.specs.declared.fault.DieFault.TheVariants as d

-- ---- entries

-- the refusal of an entry at a place for what its attributes lack
abbrev pub gap_fault : ℕ → Gap → DieFault
gap_fault at gap.Short = d.Short at
gap_fault at gap.Form = d.Form at

-- some bytes begin with the code of an entry
pub record HasCode (bytes : List ℕ) (code : ℕ) (back : List ℕ) : Type 0 where
  pub front : List ℕ
  pub parts : bytes ≡ front ++ back
  pub spelled : IsUleb front code
  pub nonzero : code ≢ 0

-- some bytes begin with no code at all: they break off within it, or it is too long
abbrev pub HasNoCode : List ℕ → Type 0
HasNoCode bytes = (front back : List ℕ) (code : ℕ) → bytes ≡ front ++ back → IsUleb front code → ⊥

-- the refusal of an entry whose abbreviation is there: its first attribute that isn't
pub record IsBroken (around : Around) (find : ℕ → Option Abbreviation) (at code : ℕ) (bytes : List ℕ) (fault : DieFault) : Type 0 where
  pub abbreviation : Abbreviation
  pub found : find code ≡ Some abbreviation
  pub why : Gap
  pub gap : HasGap around abbreviation.attributes bytes why
  pub fault_is : fault ≡ gap_fault at why

-- the refusal of an entry with a code: it is one too many, or has no abbreviation, or lacks an attribute
abbrev pub IsEntryRefused : Around → (ℕ → Option Abbreviation) → (left at code : ℕ) → List ℕ → DieFault → Type 0
IsEntryRefused around find left at code bytes fault =
    ((left ≡ 0) × (fault ≡ d.TooMany at))
    ⊎ (((left ≢ 0) × (find code ≡ None) × (fault ≡ d.Abbrev at))
    ⊎ ((left ≢ 0) × IsBroken around find at code bytes fault))

-- the refusal of what stands at a place, where so many entries are left
abbrev pub IsItemRefused : Around → (ℕ → Option Abbreviation) → (left at : ℕ) → List ℕ → DieFault → Type 0
IsItemRefused around find left at bytes fault =
    (HasNoCode bytes × (fault ≡ d.Short at))
    ⊎ ((code : ℕ) × (back : List ℕ) × HasCode bytes code back × IsEntryRefused around find left at code back fault)

-- the refusal of a unit's bytes behind its head: the items before are whole
pub record AreDiesRefused (around : Around) (find : ℕ → Option Abbreviation) (left at : ℕ) (bytes : List ℕ) (fault : DieFault) : Type 0 where
  pub items : List Placed
  pub front : List ℕ
  pub back : List ℕ
  pub parts : bytes ≡ front ++ back
  pub each : EachFrom (IsPlaced around find) at items front
  pub few : length (dies_of 0 items) ≤ left
  pub some : back ≢ []
  pub refused : IsItemRefused around find (left - length (dies_of 0 items)) (at + length front) back fault

-- ---- units

-- the refusal of the unit at the front of some bytes, whose head is lawful
pub record IsUnitRefused (sections : Sections) (left at : ℕ) (bytes : List ℕ) (fault : DieFault) : Type 0 where
  pub lawful : head_fault at bytes ≡ None
  pub is_read : IsTrue (is_read bytes)
  pub entries : List table.Entry
  pub table : IsTable (drop (debug_abbrev_offset bytes) sections.abbrev_) entries
  pub dies : AreDiesRefused (record { unit = at; strings = sections.strings }) (abbreviation_of entries) left (at + 11)
      (drop 11 (take (4 + unit_length bytes) bytes)) fault

-- the refusal of a unit: the units before it are whole
pub record IsSectionRefused (sections : Sections) (fault : DieFault) : Type 0 where
  pub pieces : List Piece
  pub front : List ℕ
  pub back : List ℕ
  pub parts : sections.info ≡ front ++ back
  pub are : ArePieces sections front pieces
  pub some : back ≢ []
  pub refused : (head_fault (length front) back ≡ Some fault)
      ⊎ IsUnitRefused sections (most_dies - dies_in pieces) (length front) back fault

-- the refusal of a reference, where all units are whole
pub record IsTargetRefused (sections : Sections) (fault : DieFault) : Type 0 where
  pub pieces : List Piece
  pub are : ArePieces sections sections.info pieces
  pub die : Die
  pub lost : first_lost (settled_in pieces) ≡ Some die
  pub fault_is : fault ≡ d.Target die.at

-- the refusal of the sections
abbrev pub IsRefusal : Sections → DieFault → Type 0
IsRefusal sections fault = IsSectionRefused sections fault ⊎ IsTargetRefused sections fault
