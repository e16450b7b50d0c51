-- The line tables at some places of .debug_line, asked as one: DWARF 4, section 6.2.
use Rattle.std.specs.Prelude.{ℕ, nat_eq, if◌then◌else◌, List, map, Option, None}
use Rattle.std.specs.Option.{option_and_then, option_map}
use Rattle.om_base.specs.Firsts.{first_of}
use Rattle.om_line.specs.Lines.{fault_at, file_of, lines_at, row_at}
use Rattle.om_line.specs.declared.fault.LineFault.{LineFault}
use Rattle.om_line.specs.declared.lines.Lines.{Lines}
use Rattle.om_line.specs.declared.row.LineRow.{LineRow}

-- the tables at some offsets of a section
abbrev pub tables_at : List ℕ → List ℕ → List Lines
tables_at section offsets = map (lines_at section) offsets

-- the fault of the first that has one
abbrev pub tables_fault : List ℕ → List ℕ → Option LineFault
tables_fault section offsets = first_of (map (fault_at section) offsets)

-- ---- what tables tell

-- a table with its row of an address, if it has one
abbrev pub with_row : ℕ → Lines → Option (Lines × LineRow)
with_row pc table = option_map (λ row. (table, row)) (row_at table.rows pc)

-- the first table that has a row of an address, with that row
abbrev pub found_at : List Lines → ℕ → Option (Lines × LineRow)
found_at tables pc = first_of (map (with_row pc) tables)

-- the name of the file of a row of a table, if the row has a line
abbrev pub name_of : Lines → LineRow → Option (List ℕ)
name_of table row = if nat_eq row.line 0 then None else file_of table.files row.file

pub record LineFacts : Type 0 where
  -- the row of an address
  pub line_at : ℕ → Option LineRow
  -- the name of its file
  pub file_at : ℕ → Option (List ℕ)

-- what some tables tell
unfoldable pub line_facts : List Lines → LineFacts
line_facts tables = record {
  line_at = λ pc. option_map (λ found. found.1) (found_at tables pc);
  file_at = λ pc. option_and_then (λ found. name_of found.0 found.1) (found_at tables pc);
}
