-- The units of .debug_info: DWARF 4, section 7.5.1 "Unit Headers", section 7.2.2 "Initial Length Values", and section 7.4 "32-Bit
-- and 64-Bit DWARF Formats".
use Rattle.std.specs.Prelude.{◌≡◌, ℕ, ◌+◌, ◌≤◌, Bool, false, ◌&&◌, ◌||◌, not, nat_eq, nat_le, nat_lt, if◌then◌else◌, List, [], ◌∷◌, length, map, find, drop, unwrap_or, IsTrue, Option, Some, None}
use Rattle.std.specs.List.{list_any, flat_map}
use Rattle.std.specs.Option.{option_map}
use Rattle.om_base.specs.Firsts.{first_of}
use Rattle.om_base.specs.Numbers.{number_at}
use Rattle.om_base.specs.Reading.{EachFrom}
use Rattle.om_die.specs.Abbreviations.{IsTable, abbreviation_of}
use Rattle.om_die.specs.Abbreviations as table
use Rattle.om_die.specs.Constants.{DW_AT_abstract_origin, DW_AT_specification, DW_AT_type}
use Rattle.om_die.specs.Entries.{AreDies}
use Rattle.om_die.specs.AttributeValue.{Value, Attribute}
use Rattle.om_die.specs.AttributeValue as v
use Rattle.om_die.specs.declared.die.Die.{Die}
use Rattle.om_die.specs.declared.fault.DieFault.{DieFault}
use Rattle.om_die.specs.declared.fault.DieFault.TheVariants as fault
use Rattle.om_die.specs.declared.unit.Unit.{Unit}
use Rattle.om_die.specs.declared.unit.Units.{Units}

-- the sections that units are read from
pub record Sections : Type 0 where
  pub info : List ℕ
  pub abbrev_ : List ℕ
  pub strings : List ℕ

-- ---- heads

-- a field of a unit's head, 0 where the bytes end before
abbrev pub field : ℕ → List ℕ → ℕ → ℕ
field size bytes at = unwrap_or (number_at size bytes at) 0

-- how many bytes of a unit stand behind its length
abbrev pub unit_length : List ℕ → ℕ
unit_length bytes = field 4 bytes 0

abbrev pub version : List ℕ → ℕ
version bytes = field 2 bytes 4

abbrev pub debug_abbrev_offset : List ℕ → ℕ
debug_abbrev_offset bytes = field 4 bytes 6

abbrev pub address_size : List ℕ → ℕ
address_size bytes = field 1 bytes 10

-- a unit of this version is read
abbrev pub is_read : List ℕ → Bool
is_read bytes = nat_le 2 (version bytes) && nat_le (version bytes) 4

abbrev pub unless : Bool → DieFault → Option DieFault
unless kept fault = if kept then None else Some fault

-- what each rule of a head says of bytes that begin at an offset, in their order: the length is there, and is none of the values
-- from 0xfffffff0 on, which mark DWARF's 64-bit format or are reserved; the unit is there, and in it its version; of a version that
-- is read the head is whole, and an address has 4 bytes
unfoldable pub head_fault : ℕ → List ℕ → Option DieFault
head_fault at bytes = first_of (
    unless (nat_le 4 (length bytes)) (fault.Short at)
    ∷ unless (nat_lt (unit_length bytes) 4294967280) (fault.Form at)
    ∷ unless (nat_le (4 + unit_length bytes) (length bytes)) (fault.Short at)
    ∷ unless (nat_le 2 (unit_length bytes)) (fault.Short at)
    ∷ unless (not (is_read bytes) || nat_le 7 (unit_length bytes)) (fault.Short at)
    ∷ unless (not (is_read bytes) || nat_eq (address_size bytes) 4) (fault.Form at)
    ∷ [])

-- ---- units

-- a unit of .debug_info: its entries, or that it is skipped, with its place and its bytes in all
pub data Piece : Type 0 where
  Read : Unit → Piece
  Skipped : (at size : ℕ) → Piece

-- bytes that begin at an offset are a whole unit with a lawful head
pub record IsWhole (at : ℕ) (bytes : List ℕ) : Type 0 where
  pub lawful : head_fault at bytes ≡ None
  pub size : length bytes ≡ 4 + unit_length bytes

-- bytes that begin at an offset are a unit that is read: its entries stand behind the 11 bytes of its head
pub record IsUnit (sections : Sections) (at : ℕ) (bytes : List ℕ) (unit : Unit) : Type 0 where
  pub whole : IsWhole at bytes
  pub is_read : IsTrue (is_read bytes)
  pub at_is : unit.at ≡ at
  pub version_is : unit.version ≡ version bytes
  pub entries : List table.Entry
  pub table : IsTable (drop (debug_abbrev_offset bytes) sections.abbrev_) entries
  pub dies : AreDies (record { unit = at; strings = sections.strings }) (abbreviation_of entries) (at + 11) (drop 11 bytes) unit.dies

-- bytes that begin at an offset are a unit of another version
pub record IsSkipped (at : ℕ) (bytes : List ℕ) (place size : ℕ) : Type 0 where
  pub whole : IsWhole at bytes
  pub is_skipped : is_read bytes ≡ false
  pub at_is : place ≡ at
  pub size_is : size ≡ length bytes

unfoldable pub IsPiece : Sections → ℕ → List ℕ → Piece → Type 0
IsPiece sections at bytes (Read unit) = IsUnit sections at bytes unit
IsPiece sections at bytes (Skipped place size) = IsSkipped at bytes place size

-- how many entries some units have
unfoldable pub dies_in : List Piece → ℕ
dies_in [] = 0
dies_in (Read unit ∷ pieces) = length unit.dies + dies_in pieces
dies_in (Skipped place size ∷ pieces) = dies_in pieces

-- the greatest number of entries of all units
abbrev pub most_dies : ℕ
most_dies = 1048576

-- units one after another, from the beginning of .debug_info on
pub record ArePieces (sections : Sections) (bytes : List ℕ) (pieces : List Piece) : Type 0 where
  pub each : EachFrom (IsPiece sections) 0 pieces bytes
  pub few : dies_in pieces ≤ most_dies

-- the units that are read
unfoldable pub units_in : List Piece → List Unit
units_in [] = []
units_in (Read unit ∷ pieces) = unit ∷ units_in pieces
units_in (Skipped place size ∷ pieces) = units_in pieces

-- how many units are skipped
unfoldable pub skipped_in : List Piece → ℕ
skipped_in [] = 0
skipped_in (Read unit ∷ pieces) = skipped_in pieces
skipped_in (Skipped place size ∷ pieces) = 1 + skipped_in pieces

-- ---- references

-- an offset lies in a unit that is skipped
unfoldable pub is_elsewhere : List Piece → ℕ → Bool
is_elsewhere [] offset = false
is_elsewhere (Read unit ∷ pieces) offset = is_elsewhere pieces offset
is_elsewhere (Skipped place size ∷ pieces) offset = (nat_le place offset && nat_lt offset (place + size)) || is_elsewhere pieces offset

-- a value, where a reference to these offsets leads to an entry that isn't read
abbrev pub settled : (ℕ → Bool) → Value → Value
settled elsewhere (v.Target offset) = if elsewhere offset then v.Elsewhere else v.Target offset
settled elsewhere value = value

abbrev pub settled_die : (ℕ → Bool) → Die → Die
settled_die elsewhere die = record {
  at = die.at;
  depth = die.depth;
  tag = die.tag;
  attrs = map (λ attribute. record { name = attribute.name; value = settled elsewhere attribute.value }) die.attrs;
}

abbrev pub settled_unit : (ℕ → Bool) → Unit → Unit
settled_unit elsewhere unit = record { at = unit.at; version = unit.version; dies = map (settled_die elsewhere) unit.dies }

-- the value of the first attribute of a name
abbrev pub attribute_of : ℕ → List Attribute → Option Value
attribute_of name attributes = option_map (λ attribute. attribute.value) (find (λ attribute. nat_eq attribute.name name) attributes)

-- the entries of some units, one after another
abbrev pub dies_of_units : List Unit → List Die
dies_of_units units = flat_map (λ unit. unit.dies) units

-- a value refers to an offset at which no entry stands
abbrev pub is_lost : List Die → Option Value → Bool
is_lost dies (Some (v.Target offset)) = not (list_any (λ die. nat_eq die.at offset) dies)
is_lost dies value = false

-- an entry refers by DW_AT_abstract_origin, DW_AT_specification or DW_AT_type to an offset at which no entry stands
abbrev pub has_lost : List Die → Die → Bool
has_lost dies die = list_any (λ name. is_lost dies (attribute_of name die.attrs)) (DW_AT_abstract_origin ∷ DW_AT_specification ∷ DW_AT_type ∷ [])

-- the first entry that does
unfoldable pub first_lost : List Unit → Option Die
first_lost units = find (has_lost (dies_of_units units)) (dies_of_units units)

-- the units among some pieces, with references settled
unfoldable pub settled_in : List Piece → List Unit
settled_in pieces = map (settled_unit (is_elsewhere pieces)) (units_in pieces)

-- the sections spell these units
pub record AreUnits (sections : Sections) (units : Units) : Type 0 where
  pub pieces : List Piece
  pub are : ArePieces sections sections.info pieces
  pub list_is : units.list ≡ settled_in pieces
  pub skipped_is : units.skipped ≡ skipped_in pieces
  pub found : first_lost units.list ≡ None
