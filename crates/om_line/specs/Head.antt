-- What the head of a line table says of instructions: DWARF 4, section 6.2.4.
use Rattle.std.specs.Prelude.{ℕ, ℤ, List}

pub record Head : Type 0 where
  pub minimum_instruction_length : ℕ
  pub maximum_operations : ℕ
  pub line_base : ℤ
  pub line_range : ℕ
  pub opcode_base : ℕ
  pub operand_counts : List ℕ
