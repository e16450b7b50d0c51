-- Programs of which the end of another one has the instructions: what they make has other addresses.
use Rattle.std.specs.Prelude.{◌≡◌, ℕ, ◌+◌, ◌-◌, ◌%◌, ◌^◌, ◌≤◌, ◌&&◌, not, nat_le, nat_lt, Bool, true, false, List, [], ◌∷◌, ◌++◌, length, take, drop, All, Contains, IfSome, Option, None, Some, is_some}
use Rattle.std.specs.List.{list_all, slice_get}
use Rattle.om_line.specs.Gathering.{nothing, with_table, with_tables}
use Rattle.om_line.specs.Head.{Head}
use Rattle.om_line.specs.Instructions.{broken_in, instructions_in}
use Rattle.om_line.specs.Lines.{fault_at, lines_at, row_at}
use Rattle.om_line.specs.Running.{begin, rows_from}
use Rattle.om_line.specs.Tables.{found_at}
use Rattle.om_line.specs.declared.gathering.Gathered.{Gathered}
use Rattle.om_line.specs.declared.instruction.Instruction.{Instruction}
use Rattle.om_line.specs.declared.instruction.Instruction.TheVariants as i
use Rattle.om_line.specs.declared.lines.Lines.{Lines}
use Rattle.om_line.specs.declared.lines.Ran.{Ran}
use Rattle.om_line.specs.declared.reading.Table.{Table}
use Rattle.om_line.specs.declared.registers.Registers.{Registers}
use Rattle.om_line.specs.declared.row.LineRow.{LineRow}
use Rattle.om_line.specs.declared.sharing.Shared.{Shared}
use Rattle.om_line.specs.declared.start.Start.{Start}

-- the address after an instruction depends on the one before it, by how far it grows
abbrev pub is_relative : Instruction → Bool
is_relative (i.Special opcode) = true
is_relative i.Copy = true
is_relative (i.AdvancePc count) = true
is_relative (i.AdvanceLine by) = true
is_relative (i.SetFile file) = true
is_relative i.ConstAddPc = true
is_relative (i.FixedAdvancePc bytes) = true
is_relative i.EndSequence = false
is_relative (i.SetAddress address) = false
is_relative (i.DefineFile name) = true
is_relative i.Nothing = true

unfoldable pub are_relative : List Instruction → Bool
are_relative instructions = list_all is_relative instructions

-- an address that is so much lower, modulo 2^32
abbrev pub lower : (by address : ℕ) → ℕ
lower by address = (address + (2 ^ 32 - by)) % 2 ^ 32

-- some bytes are the end of others
abbrev pub IsEnd : (bytes rest : List ℕ) → Type 0
IsEnd bytes rest = (front : List ℕ) × (bytes ≡ front ++ rest)

-- where an instruction of a program stands, the address before it, and how many rows are made before it
pub record IsStart (head : Head) (program : List ℕ) (start : Start) : Type 0 where
  pub rest : List ℕ
  pub ends : IsEnd program rest
  pub size : length rest ≡ start.rest
  pub registers : Registers
  pub address : registers.address ≡ start.address
  pub rows : drop start.rows (rows_from head begin (instructions_in head program)) ≡ rows_from head registers (instructions_in head rest)
  pub broken : broken_in head program ≡ broken_in head rest
  pub relative : are_relative (instructions_in head program) ≡ true → are_relative (instructions_in head rest) ≡ true

-- rows from an address on that don't end a sequence and whose addresses don't fall
unfoldable pub rise_from : ℕ → List LineRow → Bool
rise_from low [] = true
rise_from low (row ∷ rows) = not row.end && (nat_le low row.addr && (nat_lt row.addr (2 ^ 32) && rise_from row.addr rows))

-- an address that has one of some rows has one of others
abbrev pub Covers : (base rows : List LineRow) → Type 0
Covers base rows = (pc : ℕ) → is_some (row_at rows pc) ≡ true → is_some (row_at base pc) ≡ true

-- the address of the first of some rows
abbrev pub first_addr : List LineRow → ℕ
first_addr [] = 0
first_addr (row ∷ rows) = row.addr

-- the rows behind an instruction, where they begin at address 0 there, are no lower than the first row of all
abbrev pub is_behind : List LineRow → Start → Option LineRow → Bool
is_behind rows start None = nat_lt start.address (2 ^ 32)
is_behind rows start (Some row) = nat_le start.address row.addr && nat_le (first_addr rows) (row.addr - start.address)

unfoldable pub is_within : List LineRow → Start → Bool
is_within rows start = is_behind rows start (slice_get rows start.rows)

-- what is shared is what was made by a program with this head that ends at an offset, and it is of use
pub record IsShareable (head : Head) (end : ℕ) (ran : Ran) (shared : Shared) : Type 0 where
  pub head_is : shared.head ≡ head
  pub end_is : shared.end ≡ end
  pub starts : shared.starts ≡ ran.starts
  pub rows : shared.rows ≡ ran.lines.rows
  pub relative : ran.is_relative ≡ true
  pub rise : rise_from 0 ran.lines.rows ≡ true

-- a table's program ends as one that is shared, at one of its instructions, and its rows are no lower
pub record EndsAs (shared : Shared) (table : Table) : Type 0 where
  pub end : table.end ≡ shared.end
  pub head : table.head ≡ shared.head
  pub start : Start
  pub among : Contains shared.starts start
  pub size : start.rest ≡ length table.program.now
  pub within : is_within shared.rows start ≡ true

-- a program was run for one of some tables of a section, all its rows rise, and its instructions are relative
pub record IsShared (section : List ℕ) (tables : List Lines) (shared : Shared) : Type 0 where
  pub program : List ℕ
  pub place : program ≡ take (length program) (drop (shared.end - length program) section)
  pub short : length program ≤ shared.end
  pub base : Lines
  pub among : Contains tables base
  pub base_is : base.rows ≡ shared.rows
  pub rows : shared.rows ≡ rows_from shared.head begin (instructions_in shared.head program)
  pub starts : All (IsStart shared.head program) shared.starts
  pub whole : broken_in shared.head program ≡ None
  pub relative : are_relative (instructions_in shared.head program) ≡ true
  pub rise : rise_from 0 shared.rows ≡ true

-- a program that is shared has rows of all addresses of a table
abbrev pub Covered : Option Shared → Table → Type 0
Covered None table = ⊥
Covered (Some shared) table = EndsAs shared table

-- the table at an offset is added, and what others may share of it is answered
pub record Adds (section : List ℕ) (at : ℕ) (before after : Gathered) (now : Option Shared) : Type 0 where
  pub table : after ≡ with_table before (lines_at section at)
  pub lawful : fault_at section at ≡ None
  pub shared : (tables : List Lines) → IfSome now (IsShared section (tables ++ lines_at section at ∷ []))

-- what is gathered is of tables of which at each address the first row is that of some others
pub record IsGathered (others : List Lines) (gathered : Gathered) : Type 0 where
  pub tables : List Lines
  pub gathered_is : gathered ≡ with_tables nothing tables
  pub same : (pc : ℕ) → found_at others pc ≡ found_at tables pc
