-- The line table at a place of .debug_line: DWARF 4, section 6.2.
use Rattle.std.specs.Prelude.{ℕ, ◌+◌, ◌-◌, ◌&&◌, nat_eq, nat_le, nat_lt, if◌then◌else◌, List, [], ◌∷◌, ◌++◌, length, drop, find, unwrap_or, is_some, Option, None}
use Rattle.std.specs.List.{slice_get}
use Rattle.std.specs.Option.{option_map}
use Rattle.om_base.specs.Firsts.{first_of}
use Rattle.om_base.specs.declared.span.Span.{Span}
use Rattle.om_line.specs.Files.{head_files}
use Rattle.om_line.specs.Heads.{directories_at, head_of, header_length, is_lawful, table_fault, table_in, unless}
use Rattle.om_line.specs.Instructions.{broken_in, instructions_in}
use Rattle.om_line.specs.Running.{begin, files_from, rows_from}
use Rattle.om_line.specs.declared.fault.LineFault.{LineFault}
use Rattle.om_line.specs.declared.fault.LineFault.TheVariants as fault
use Rattle.om_line.specs.declared.lines.Lines.{Lines}
use Rattle.om_line.specs.declared.row.LineRow.{LineRow}

-- ---- the parts of a table

-- the bytes of the directories and files, and all behind
abbrev pub behind_head : List ℕ → List ℕ
behind_head table = drop (directories_at table) table

-- the bytes of the program
abbrev pub program_of : List ℕ → List ℕ
program_of table = drop (10 + header_length table) table

-- what each rule of a head says of a table that begins at an offset, in their order: the head is there, and in it its counts; the
-- directories and files have ends; the program begins in the table; its instructions can be run
unfoldable pub header_fault : ℕ → List ℕ → Option LineFault
header_fault at table = first_of (
    unless (nat_le (directories_at table) (length table)) (fault.Short at)
    ∷ unless (is_some (head_files (behind_head table))) (fault.Short at)
    ∷ unless (nat_le (10 + header_length table) (length table)) (fault.Short at)
    ∷ unless (is_lawful (head_of table)) (fault.Header at)
    ∷ [])

-- that the first instruction that breaks off does, in a table that begins at an offset: it is as far from the table's end as it has
-- bytes behind it
unfoldable pub opcode_fault : ℕ → List ℕ → Option LineFault
opcode_fault at table = option_map (λ rest. fault.Opcode (at + length table - length rest)) (broken_in (head_of table) (program_of table))

-- ---- tables

-- why bytes that begin at an offset are no table that is read: the first thing that is wrong
unfoldable pub line_fault : ℕ → List ℕ → Option LineFault
line_fault at bytes = first_of (table_fault at bytes ∷ header_fault at (table_in bytes) ∷ opcode_fault at (table_in bytes) ∷ [])

-- the rows and the files of a table
unfoldable pub lines_of : List ℕ → Lines
lines_of table =
    let instructions = instructions_in (head_of table) (program_of table) in
    record {
      rows = rows_from (head_of table) begin instructions;
      files = unwrap_or (head_files (behind_head table)) [] ++ files_from instructions;
    }

-- ... of the table at an offset of a section
abbrev pub lines_at : List ℕ → ℕ → Lines
lines_at section at = lines_of (table_in (drop at section))

abbrev pub fault_at : List ℕ → ℕ → Option LineFault
fault_at section at = line_fault at (drop at section)

-- ---- what rows and files tell

-- where the next of some rows begins, or else an address
abbrev pub next_addr : ℕ → List LineRow → ℕ
next_addr addr [] = addr
next_addr addr (row ∷ rows) = row.addr

-- the addresses of a row before others: up to the next row's; none of a row that ends a sequence, and none of the last row
abbrev pub span_of : LineRow → List LineRow → Span
span_of row rows = record { lo = row.addr; hi = if row.end then row.addr else next_addr row.addr rows }

-- rows with their addresses
unfoldable pub ranged : List LineRow → List (LineRow × Span)
ranged [] = []
ranged (row ∷ rows) = (row, span_of row rows) ∷ ranged rows

-- the first row that has an address
abbrev pub row_at : List LineRow → ℕ → Option LineRow
row_at rows pc = option_map (λ r. r.0) (find (λ r. nat_le r.1.lo pc && nat_lt pc r.1.hi) (ranged rows))

-- the name of the file of a number from 1 on
abbrev pub file_of : List (List ℕ) → ℕ → Option (List ℕ)
file_of files number = if nat_eq number 0 then None else slice_get files (number - 1)
