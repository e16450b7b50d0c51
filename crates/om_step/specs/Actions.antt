-- What each instruction does: RISC-V unprivileged ISA, chapters "RV32I Base Integer Instruction Set",
-- "M Extension for Integer Multiplication and Division" and "Zifencei Extension for Instruction-Fetch Fence".
use Rattle.std.specs.Prelude.{ℕ, ◌+◌, ◌-◌, ◌*◌, ◌/◌, ◌%◌, ◌^◌, ℤ, pos, ◌*ℤ◌, Bool, true, false, not, nat_eq, nat_lt, bit_and, bit_or, bit_xor, int_lt, int_div, int_rem, if◌then◌else◌}
use Rattle.std.specs.Int.{w32, w64, cast_signed, cast_unsigned}
use Rattle.om_isa.specs.declared.op.Op.{Op}
use Rattle.om_isa.specs.declared.op.Op.TheVariants as op
use Rattle.om_step.specs.declared.action.Action.{Action}
use Rattle.om_step.specs.declared.action.Action.TheVariants.{Go, Load, Store, Ask, Halt}
use Rattle.om_step.specs.declared.cause.Cause.TheVariants.{Misaligned, Break}

-- ---- words and signed numbers

-- a word read as a signed number
abbrev pub signed : ℕ → ℤ
signed a = cast_signed w32 a

-- a signed number as a word, modulo 2 ^ 32
abbrev pub word : ℤ → ℕ
word z = cast_unsigned w32 z

-- the high word of a product
abbrev pub high : ℤ → ℕ
high z = cast_unsigned w64 z / 2 ^ 32

-- 1 where it holds, else 0
abbrev pub bit : Bool → ℕ
bit b = if b then 1 else 0

-- a word shifted right by n bits, its sign bit shifted in
abbrev pub shifted : (a n : ℕ) → ℕ
shifted a n = if nat_lt a (2 ^ 31) then a / 2 ^ n else 2 ^ 32 - 1 - (2 ^ 32 - 1 - a) / 2 ^ n

-- section "Division Operations": what division by zero gives, and -2 ^ 31 by -1 overflows to itself
abbrev pub quotient : (a b : ℕ) → ℕ
quotient a b = if nat_eq b 0 then 2 ^ 32 - 1 else word (int_div (signed a) (signed b))

abbrev pub quotient_unsigned : (a b : ℕ) → ℕ
quotient_unsigned a b = if nat_eq b 0 then 2 ^ 32 - 1 else a / b

abbrev pub remainder : (a b : ℕ) → ℕ
remainder a b = if nat_eq b 0 then a else word (int_rem (signed a) (signed b))

abbrev pub remainder_unsigned : (a b : ℕ) → ℕ
remainder_unsigned a b = if nat_eq b 0 then a else a % b

-- ---- kinds of actions

-- it writes a value to its destination, and goes on after itself
abbrev pub writes : (rd value pc : ℕ) → Action
writes rd value pc = Go rd (value % 2 ^ 32) ((pc + 4) % 2 ^ 32)

-- it goes to its target, and writes the address after itself to its destination; where no instruction can stand at the target it stops
abbrev pub jumps : (rd target pc : ℕ) → Action
jumps rd target pc = if nat_eq (target % 4) 0 then Go rd ((pc + 4) % 2 ^ 32) target else Halt Misaligned

-- it goes to its target if its condition holds
abbrev pub branches : Bool → (target pc : ℕ) → Action
branches taken target pc =
    if taken
    then (if nat_eq (target % 4) 0 then Go 0 0 target else Halt Misaligned)
    else Go 0 0 ((pc + 4) % 2 ^ 32)

-- it loads so many bytes, their sign bit extended or not
abbrev pub loads : (rd count : ℕ) → Bool → (address : ℕ) → Action
loads rd count extends address = Load rd (address % 2 ^ 32) count extends

-- it stores the low bytes of a word
abbrev pub stores : (count value address : ℕ) → Action
stores count value address = Store (address % 2 ^ 32) count value

-- what each instruction does, where a and b are the contents of rs1 and rs2
abbrev pub action_of : Op → (rd a b imm pc : ℕ) → Action
action_of op.Lui rd a b imm pc = writes rd imm pc
action_of op.Auipc rd a b imm pc = writes rd (pc + imm) pc
action_of op.Jal rd a b imm pc = jumps rd ((pc + imm) % 2 ^ 32) pc
action_of op.Jalr rd a b imm pc = jumps rd ((a + imm) % 2 ^ 32 / 2 * 2) pc
action_of op.Beq rd a b imm pc = branches (nat_eq a b) ((pc + imm) % 2 ^ 32) pc
action_of op.Bne rd a b imm pc = branches (not (nat_eq a b)) ((pc + imm) % 2 ^ 32) pc
action_of op.Blt rd a b imm pc = branches (int_lt (signed a) (signed b)) ((pc + imm) % 2 ^ 32) pc
action_of op.Bge rd a b imm pc = branches (not (int_lt (signed a) (signed b))) ((pc + imm) % 2 ^ 32) pc
action_of op.Bltu rd a b imm pc = branches (nat_lt a b) ((pc + imm) % 2 ^ 32) pc
action_of op.Bgeu rd a b imm pc = branches (not (nat_lt a b)) ((pc + imm) % 2 ^ 32) pc
action_of op.Lb rd a b imm pc = loads rd 1 true (a + imm)
action_of op.Lh rd a b imm pc = loads rd 2 true (a + imm)
action_of op.Lw rd a b imm pc = loads rd 4 false (a + imm)
action_of op.Lbu rd a b imm pc = loads rd 1 false (a + imm)
action_of op.Lhu rd a b imm pc = loads rd 2 false (a + imm)
action_of op.Sb rd a b imm pc = stores 1 b (a + imm)
action_of op.Sh rd a b imm pc = stores 2 b (a + imm)
action_of op.Sw rd a b imm pc = stores 4 b (a + imm)
action_of op.Addi rd a b imm pc = writes rd (a + imm) pc
action_of op.Slti rd a b imm pc = writes rd (bit (int_lt (signed a) (signed imm))) pc
action_of op.Sltiu rd a b imm pc = writes rd (bit (nat_lt a imm)) pc
action_of op.Xori rd a b imm pc = writes rd (bit_xor a imm) pc
action_of op.Ori rd a b imm pc = writes rd (bit_or a imm) pc
action_of op.Andi rd a b imm pc = writes rd (bit_and a imm) pc
action_of op.Slli rd a b imm pc = writes rd (a * 2 ^ (imm % 32)) pc
action_of op.Srli rd a b imm pc = writes rd (a / 2 ^ (imm % 32)) pc
action_of op.Srai rd a b imm pc = writes rd (shifted a (imm % 32)) pc
action_of op.Add rd a b imm pc = writes rd (a + b) pc
action_of op.Sub rd a b imm pc = writes rd (a + 2 ^ 32 - b) pc
action_of op.Sll rd a b imm pc = writes rd (a * 2 ^ (b % 32)) pc
action_of op.Slt rd a b imm pc = writes rd (bit (int_lt (signed a) (signed b))) pc
action_of op.Sltu rd a b imm pc = writes rd (bit (nat_lt a b)) pc
action_of op.Xor rd a b imm pc = writes rd (bit_xor a b) pc
action_of op.Srl rd a b imm pc = writes rd (a / 2 ^ (b % 32)) pc
action_of op.Sra rd a b imm pc = writes rd (shifted a (b % 32)) pc
action_of op.Or rd a b imm pc = writes rd (bit_or a b) pc
action_of op.And rd a b imm pc = writes rd (bit_and a b) pc
action_of op.Fence rd a b imm pc = writes 0 0 pc
action_of op.FenceI rd a b imm pc = writes 0 0 pc
action_of op.Ecall rd a b imm pc = Ask
action_of op.Ebreak rd a b imm pc = Halt Break
action_of op.Mul rd a b imm pc = writes rd (a * b) pc
action_of op.Mulh rd a b imm pc = writes rd (high (signed a *ℤ signed b)) pc
action_of op.Mulhsu rd a b imm pc = writes rd (high (signed a *ℤ pos b)) pc
action_of op.Mulhu rd a b imm pc = writes rd (a * b / 2 ^ 32) pc
action_of op.Div rd a b imm pc = writes rd (quotient a b) pc
action_of op.Divu rd a b imm pc = writes rd (quotient_unsigned a b) pc
action_of op.Rem rd a b imm pc = writes rd (remainder a b) pc
action_of op.Remu rd a b imm pc = writes rd (remainder_unsigned a b) pc
