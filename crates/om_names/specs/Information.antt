-- The debugging information of an executable: its units, the section of range lists, the line tables, and the section of frames.
use Rattle.std.specs.Prelude.{ℕ, Bool, nat_eq, List, [], flat_map, map, Option, codes, unwrap_or}
use Rattle.om_die.specs.Constants.{DW_TAG_lexical_block, DW_TAG_subprogram}
use Rattle.om_die.specs.Units.{Sections, attribute_of}
use Rattle.om_die.specs.AttributeValue.{Value}
use Rattle.om_die.specs.declared.die.Die.{Die}
use Rattle.om_die.specs.declared.unit.Unit.{Unit}
use Rattle.om_die.specs.declared.unit.Units.{Units}
use Rattle.om_elf.specs.Sections.{bytes_of}
use Rattle.om_elf.specs.declared.elf.Elf.{Elf}
use Rattle.om_line.specs.declared.lines.Lines.{Lines}

-- what is known of an executable
pub record Information : Type 0 where
  pub units : Units
  -- the section .debug_ranges
  pub ranges : List ℕ
  -- the tables of .debug_line that the units name, in their order
  pub lines : List Lines
  -- the section .debug_frame
  pub frames : List ℕ

abbrev pub info_of : Units → List ℕ → List Lines → List ℕ → Information
info_of units ranges lines frames = record { units = units; ranges = ranges; lines = lines; frames = frames }

-- the bytes of a section, none where there is no such section
abbrev pub section : Elf → List ℕ → List ℕ
section elf name = unwrap_or (bytes_of name elf.sections) []

-- the sections that the units are read from
abbrev pub unit_sections : Elf → Sections
unit_sections elf = record {
  info = section elf (codes ".debug_info");
  abbrev_ = section elf (codes ".debug_abbrev");
  strings = section elf (codes ".debug_str");
}

-- ---- entries

-- the value of an entry's first attribute of a name
abbrev pub value_of : ℕ → Die → Option Value
value_of name die = attribute_of name die.attrs

-- an entry with the unit that it is of
pub record Entry : Type 0 where
  pub unit : Unit
  pub die : Die

-- the entries of all units, in their order
abbrev pub entries_of : Units → List Entry
entries_of units = flat_map (λ unit. map (λ die. record { unit = unit; die = die }) unit.dies) units.list

-- an entry is a subprogram
abbrev pub is_subprogram : Entry → Bool
is_subprogram entry = nat_eq entry.die.tag DW_TAG_subprogram

-- an entry is a lexical block
abbrev pub is_block : Entry → Bool
is_block entry = nat_eq entry.die.tag DW_TAG_lexical_block
