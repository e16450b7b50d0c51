-- Which line tables the units name: DWARF 4, section 3.1.1, entry 4, and section 6.2.
use Rattle.std.specs.Prelude.{ℕ, nat_eq, if◌then◌else◌, List, [], ◌∷◌, ◌++◌, codes, fold, Option, Some, None}
use Rattle.std.specs.List.{list_any}
use Rattle.om_die.specs.declared.die.Die.{Die}
use Rattle.om_die.specs.declared.unit.Unit.{Unit}
use Rattle.om_die.specs.declared.unit.Units.{Units}
use Rattle.om_elf.specs.declared.elf.Elf.{Elf}
use Rattle.om_line.specs.Tables.{tables_at, tables_fault}
use Rattle.om_line.specs.declared.fault.LineFault.{LineFault}
use Rattle.om_line.specs.declared.lines.Lines.{Lines}
use Rattle.om_names.specs.Information.{section, value_of}
use Rattle.om_names.specs.Ranges.{offset_in}

-- section 7.5.4, figure 20
abbrev pub DW_AT_stmt_list : ℕ
DW_AT_stmt_list = 0x10

-- where the table begins that an entry names
abbrev pub stmt_list : Die → Option ℕ
stmt_list die = offset_in (value_of DW_AT_stmt_list die)

-- ... that the first entry of a unit names
abbrev pub first_stmt_list : List Die → Option ℕ
first_stmt_list [] = None
first_stmt_list (die ∷ dies) = stmt_list die

abbrev pub table_offset : Unit → Option ℕ
table_offset unit = first_stmt_list unit.dies

-- offsets with another one at their end, unless it is among them
abbrev pub with_offset : List ℕ → ℕ → List ℕ
with_offset offsets offset = if list_any (nat_eq offset) offsets then offsets else offsets ++ offset ∷ []

-- ... if there is one
abbrev pub with_told : List ℕ → Option ℕ → List ℕ
with_told offsets None = offsets
with_told offsets (Some offset) = with_offset offsets offset

-- where the tables of some units begin, each once, in the order of the units
unfoldable pub line_offsets : List Unit → List ℕ
line_offsets units = fold (λ offsets unit. with_told offsets (table_offset unit)) [] units

-- the section .debug_line
abbrev pub line_section : Elf → List ℕ
line_section elf = section elf (codes ".debug_line")

-- the tables of the units, and the fault of the first that has one
abbrev pub line_tables : Elf → Units → List Lines
line_tables elf units = tables_at (line_section elf) (line_offsets units.list)

abbrev pub line_fault : Elf → Units → Option LineFault
line_fault elf units = tables_fault (line_section elf) (line_offsets units.list)
