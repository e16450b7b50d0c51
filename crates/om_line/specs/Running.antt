-- What the instructions of a line program make: DWARF 4, section 6.2.2 "State Machine Registers", and sections 6.2.5.1 to 6.2.5.3.
use Rattle.std.specs.Prelude.{ℕ, ℤ, pos, ◌+◌, ◌-◌, ◌*◌, ◌/◌, ◌%◌, ◌^◌, ◌+ℤ◌, Bool, true, false, List, [], ◌∷◌, ◌++◌, Option, Some, None, option_to_list}
use Rattle.std.specs.Int.{cast_unsigned, w64}
use Rattle.om_line.specs.Head.{Head}
use Rattle.om_line.specs.declared.instruction.Instruction.{Instruction}
use Rattle.om_line.specs.declared.instruction.Instruction.TheVariants as i
use Rattle.om_line.specs.declared.registers.Registers.{Registers}
use Rattle.om_line.specs.declared.row.LineRow.{LineRow}

-- ---- registers, modulo 2^32

-- at the beginning of a sequence
abbrev pub begin : Registers
begin = record { address = 0; file = 1; line = 1 }

-- with an address that is so many instructions of the least length higher
abbrev pub advanced : Head → ℕ → Registers → Registers
advanced head count registers = record {
  address = (registers.address + head.minimum_instruction_length * count) % 2 ^ 32;
  file = registers.file;
  line = registers.line;
}

-- with a line that is so much higher
abbrev pub grown : ℤ → Registers → Registers
grown by registers = record {
  address = registers.address;
  file = registers.file;
  line = (registers.line + cast_unsigned w64 by) % 2 ^ 32;
}

-- ---- what each instruction does

-- a special opcode, so far above the opcode base
abbrev pub after_special : Head → ℕ → Registers → Registers
after_special head opcode registers = grown (head.line_base +ℤ pos (opcode % head.line_range)) (advanced head (opcode / head.line_range) registers)

-- the registers after an instruction
unfoldable pub after : Head → Registers → Instruction → Registers
after head registers (i.Special opcode) = after_special head opcode registers
after head registers i.Copy = registers
after head registers (i.AdvancePc count) = advanced head count registers
after head registers (i.AdvanceLine by) = grown by registers
after head registers (i.SetFile file) = record { address = registers.address; file = file % 2 ^ 32; line = registers.line }
after head registers i.ConstAddPc = advanced head ((255 - head.opcode_base) / head.line_range) registers
after head registers (i.FixedAdvancePc bytes) = record { address = (registers.address + bytes) % 2 ^ 32; file = registers.file; line = registers.line }
after head registers i.EndSequence = begin
after head registers (i.SetAddress address) = record { address = address; file = registers.file; line = registers.line }
after head registers (i.DefineFile name) = registers
after head registers i.Nothing = registers

-- the row of the registers, which ends a sequence or not
abbrev pub row_of : Bool → Registers → LineRow
row_of end registers = record { addr = registers.address; file = registers.file; line = registers.line; end = end }

-- the row that an instruction makes: a special opcode after it has changed the registers, the others before
unfoldable pub made : Head → Registers → Instruction → Option LineRow
made head registers (i.Special opcode) = Some (row_of false (after_special head opcode registers))
made head registers i.Copy = Some (row_of false registers)
made head registers i.EndSequence = Some (row_of true registers)
made head registers instruction = None

-- the file that an instruction adds
abbrev pub named : Instruction → Option (List ℕ)
named (i.DefineFile name) = Some name
named instruction = None

-- ---- what all of them make

unfoldable pub rows_from : Head → Registers → List Instruction → List LineRow
rows_from head registers [] = []
rows_from head registers (instruction ∷ instructions) = option_to_list (made head registers instruction) ++ rows_from head (after head registers instruction) instructions

unfoldable pub files_from : List Instruction → List (List ℕ)
files_from [] = []
files_from (instruction ∷ instructions) = option_to_list (named instruction) ++ files_from instructions
