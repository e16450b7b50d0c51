-- The instruction table: a row for each mnemonic, with the bits that make a word one of them.
-- RISC-V unprivileged ISA, chapter "RV32/64G Instruction Set Listings", tables "RV32I Base Instruction Set",
-- "RV32/RV64 Zifencei Standard Extension" and "RV32M Standard Extension".
use Rattle.std.specs.Prelude.{ℕ, ◌+◌, ◌-◌, ◌*◌, ◌/◌, ◌%◌, ◌^◌, Bool, nat_eq, nat_lt, bit_and, if◌then◌else◌, List, [], ◌∷◌, find, Option}
use Rattle.std.specs.Option.{option_map}
use Rattle.om_isa.specs.declared.op.Op.{Op}
use Rattle.om_isa.specs.declared.op.Op.TheVariants as op
use Rattle.om_isa.specs.declared.form.Form.{Form}
use Rattle.om_isa.specs.declared.form.Form.TheVariants.{R, I, Shift, S, B, U, J, Bare}
use Rattle.om_isa.specs.declared.instr.Instr.{Instr}

-- a word belongs to the row whose match it is under the row's mask
pub record Row : Type 0 where
  pub op : Op
  pub form : Form
  pub mask : ℕ
  pub bits : ℕ

abbrev pub row : Op → Form → ℕ → ℕ → Row
row op form mask bits = record { op = op; form = form; mask = mask; bits = bits }

-- operation, form, mask, match: row k, from 0 on, is that of the k-th variant of `Op`, as the law `one_each` says
unfoldable pub table : List Row
table =
    row op.Lui U 0x0000_007f 0x0000_0037
    ∷ row op.Auipc U 0x0000_007f 0x0000_0017
    ∷ row op.Jal J 0x0000_007f 0x0000_006f
    ∷ row op.Jalr I 0x0000_707f 0x0000_0067
    ∷ row op.Beq B 0x0000_707f 0x0000_0063
    ∷ row op.Bne B 0x0000_707f 0x0000_1063
    ∷ row op.Blt B 0x0000_707f 0x0000_4063
    ∷ row op.Bge B 0x0000_707f 0x0000_5063
    ∷ row op.Bltu B 0x0000_707f 0x0000_6063
    ∷ row op.Bgeu B 0x0000_707f 0x0000_7063
    ∷ row op.Lb I 0x0000_707f 0x0000_0003
    ∷ row op.Lh I 0x0000_707f 0x0000_1003
    ∷ row op.Lw I 0x0000_707f 0x0000_2003
    ∷ row op.Lbu I 0x0000_707f 0x0000_4003
    ∷ row op.Lhu I 0x0000_707f 0x0000_5003
    ∷ row op.Sb S 0x0000_707f 0x0000_0023
    ∷ row op.Sh S 0x0000_707f 0x0000_1023
    ∷ row op.Sw S 0x0000_707f 0x0000_2023
    ∷ row op.Addi I 0x0000_707f 0x0000_0013
    ∷ row op.Slti I 0x0000_707f 0x0000_2013
    ∷ row op.Sltiu I 0x0000_707f 0x0000_3013
    ∷ row op.Xori I 0x0000_707f 0x0000_4013
    ∷ row op.Ori I 0x0000_707f 0x0000_6013
    ∷ row op.Andi I 0x0000_707f 0x0000_7013
    ∷ row op.Slli Shift 0xfe00_707f 0x0000_1013
    ∷ row op.Srli Shift 0xfe00_707f 0x0000_5013
    ∷ row op.Srai Shift 0xfe00_707f 0x4000_5013
    ∷ row op.Add R 0xfe00_707f 0x0000_0033
    ∷ row op.Sub R 0xfe00_707f 0x4000_0033
    ∷ row op.Sll R 0xfe00_707f 0x0000_1033
    ∷ row op.Slt R 0xfe00_707f 0x0000_2033
    ∷ row op.Sltu R 0xfe00_707f 0x0000_3033
    ∷ row op.Xor R 0xfe00_707f 0x0000_4033
    ∷ row op.Srl R 0xfe00_707f 0x0000_5033
    ∷ row op.Sra R 0xfe00_707f 0x4000_5033
    ∷ row op.Or R 0xfe00_707f 0x0000_6033
    ∷ row op.And R 0xfe00_707f 0x0000_7033
    ∷ row op.Fence Bare 0x0000_707f 0x0000_000f
    ∷ row op.FenceI Bare 0x0000_707f 0x0000_100f
    ∷ row op.Ecall Bare 0xffff_ffff 0x0000_0073
    ∷ row op.Ebreak Bare 0xffff_ffff 0x0010_0073
    ∷ row op.Mul R 0xfe00_707f 0x0200_0033
    ∷ row op.Mulh R 0xfe00_707f 0x0200_1033
    ∷ row op.Mulhsu R 0xfe00_707f 0x0200_2033
    ∷ row op.Mulhu R 0xfe00_707f 0x0200_3033
    ∷ row op.Div R 0xfe00_707f 0x0200_4033
    ∷ row op.Divu R 0xfe00_707f 0x0200_5033
    ∷ row op.Rem R 0xfe00_707f 0x0200_6033
    ∷ row op.Remu R 0xfe00_707f 0x0200_7033
    ∷ []

-- a word has a row's bits
abbrev pub fits : ℕ → Row → Bool
fits word r = nat_eq (bit_and word r.mask) r.bits

-- the row that a word belongs to, if one does
abbrev pub row_of : ℕ → Option Row
row_of word = find (fits word) table

-- `size` bits of a word, from bit `low` on
abbrev pub field : ℕ → ℕ → ℕ → ℕ
field word low size = word / 2 ^ low % 2 ^ size

-- a number of `size` bits, taken as two's complement, modulo 2 ^ 32
abbrev pub extended : ℕ → ℕ → ℕ
extended size x = if nat_lt x (2 ^ (size - 1)) then x else x + (2 ^ 32 - 2 ^ size)

-- the immediate of a word: section "Immediate Encoding Variants"; that of a shift is its shift amount
abbrev pub immediate : Form → ℕ → ℕ
immediate R word = 0
immediate I word = extended 12 (field word 20 12)
immediate Shift word = field word 20 5
immediate S word = extended 12 (field word 25 7 * 2 ^ 5 + field word 7 5)
immediate B word =
    extended 13 (field word 31 1 * 2 ^ 12 + field word 7 1 * 2 ^ 11 + field word 25 6 * 2 ^ 5 + field word 8 4 * 2)
immediate U word = field word 12 20 * 2 ^ 12
immediate J word =
    extended 21 (field word 31 1 * 2 ^ 20 + field word 12 8 * 2 ^ 12 + field word 20 1 * 2 ^ 11 + field word 21 10 * 2)
immediate Bare word = 0

-- a word's parts under its row
abbrev pub read_as : ℕ → Row → Instr
read_as word r = record {
  op = r.op;
  rd = field word 7 5;
  rs1 = field word 15 5;
  rs2 = field word 20 5;
  imm = immediate r.form word;
}

-- the instruction that a word is, or none where no row has it
unfoldable pub decoded : ℕ → Option Instr
decoded word = option_map (read_as word) (row_of word)
