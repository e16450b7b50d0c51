-- A table of which the head was read.
use Rattle.std.specs.Prelude.{◌≡◌, ◌≢◌, ℕ, ◌+◌, ◌-◌, ◌≤◌, List, length, take, drop, Option, Some, None}
use Rattle.std.specs.Option.{option_or}
use Rattle.om_line.specs.Files.{head_files}
use Rattle.om_line.specs.Heads.{head_of, table_fault, table_in}
use Rattle.om_line.specs.Lines.{behind_head, header_fault, program_of}
use Rattle.om_line.specs.declared.fault.LineFault.{LineFault}
use Rattle.om_line.specs.declared.reading.Table.{Table}

-- why the head of the table at an offset of a section isn't read
abbrev pub head_fault : List ℕ → ℕ → Option LineFault
head_fault section at = option_or (table_fault at (drop at section)) (header_fault at (table_in (drop at section)))

-- this is the table at an offset of a section
pub record IsTable (section : List ℕ) (at : ℕ) (table : Table) : Type 0 where
  pub head : table.head ≡ head_of (table_in (drop at section))
  pub range : table.head.line_range ≢ 0
  pub files : head_files (behind_head (table_in (drop at section))) ≡ Some table.files
  pub program : table.program.now ≡ program_of (table_in (drop at section))
  pub end : table.end ≡ at + length (table_in (drop at section))
  pub place : table.program.now ≡ take (length table.program.now) (drop (table.end - length table.program.now) section)
  pub short : length table.program.now ≤ table.end
  pub lawful : head_fault section at ≡ None
