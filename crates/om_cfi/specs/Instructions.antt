-- Call frame instructions: DWARF 4, section 6.4.2 "Call Description Instructions" and section 7.23, figure 40.
use Rattle.std.specs.Prelude.{ℕ, zero, suc, ◌-◌, ◌/◌, ◌%◌, nat_eq, if◌then◌else◌, List, [], ◌∷◌, length, Result, Ok, Err}
use Rattle.om_base.specs.Reading.{Reader, first_then}
use Rattle.om_cfi.specs.Fields.{block, by, fixed, signed, unsigned}
use Rattle.om_cfi.specs.declared.fields.Short.{Short}
use Rattle.om_cfi.specs.declared.instruction.Instruction.{Instruction}
use Rattle.om_cfi.specs.declared.instruction.Instruction.TheVariants as i
use Rattle.om_cfi.specs.declared.instruction.Item.{Item}
use Rattle.om_cfi.specs.declared.instruction.Item.TheVariants.{Broken, Known, Unknown}
use Rattle.om_cfi.specs.declared.instruction.Offset.TheVariants.{Plain, Scaled}

-- an instruction without operands
abbrev pub plain : Instruction → Reader Item Short
plain instruction bytes = Ok (Known instruction, bytes)

-- an instruction by what is read
abbrev pub says : {A : Type 0} → (A → Instruction) → Reader A Short → Reader Item Short
says value read = by (λ x. Known (value x)) read

-- the instructions by their opcodes, with their operands
abbrev pub opcodes : List (ℕ × Reader Item Short)
opcodes =
    (0x00, plain i.Nothing)
    ∷ (0x01, says i.SetLocation (fixed 4))
    ∷ (0x02, says i.Advance (fixed 1))
    ∷ (0x03, says i.Advance (fixed 2))
    ∷ (0x04, says i.Advance (fixed 4))
    ∷ (0x05, first_then unsigned (λ _. says (λ _. i.Nothing) unsigned))
    ∷ (0x06, says (λ _. i.Nothing) unsigned)
    ∷ (0x07, says (λ _. i.Nothing) unsigned)
    ∷ (0x08, says (λ _. i.Nothing) unsigned)
    ∷ (0x09, first_then unsigned (λ _. says (λ _. i.Nothing) unsigned))
    ∷ (0x0a, plain i.Save)
    ∷ (0x0b, plain i.Restore)
    ∷ (0x0c, first_then unsigned (λ register. says (λ n. i.Define register (Plain n)) unsigned))
    ∷ (0x0d, says i.Register unsigned)
    ∷ (0x0e, says (λ n. i.Offset (Plain n)) unsigned)
    ∷ (0x0f, says (λ _. i.Forget) block)
    ∷ (0x10, first_then unsigned (λ _. says (λ _. i.Nothing) block))
    ∷ (0x11, first_then unsigned (λ _. says (λ _. i.Nothing) signed))
    ∷ (0x12, first_then unsigned (λ register. says (λ z. i.Define register (Scaled z)) signed))
    ∷ (0x13, says (λ z. i.Offset (Scaled z)) signed)
    ∷ (0x14, first_then unsigned (λ _. says (λ _. i.Nothing) unsigned))
    ∷ (0x15, first_then unsigned (λ _. says (λ _. i.Nothing) signed))
    ∷ (0x16, first_then unsigned (λ _. says (λ _. i.Nothing) block))
    ∷ []

-- what the first row of an opcode reads; of another opcode nothing more is looked at
abbrev pub row_of : List (ℕ × Reader Item Short) → ℕ → Reader Item Short
row_of [] opcode bytes = Ok (Unknown, [])
row_of (row ∷ rows) opcode bytes = if nat_eq row.0 opcode then row.1 bytes else row_of rows opcode bytes

unfoldable pub opcode_in : ℕ → Reader Item Short
opcode_in opcode = row_of opcodes opcode

-- by the two high bits, the instruction of an opcode
unfoldable pub known : ℕ → Reader Item Short
known opcode bytes =
    if nat_eq (opcode / 64) 0 then opcode_in opcode bytes
    else if nat_eq (opcode / 64) 1 then plain (i.Advance (opcode % 64)) bytes
    else if nat_eq (opcode / 64) 2 then says (λ _. i.Nothing) unsigned bytes
    else plain i.Nothing bytes

abbrev pub or_broken : Result (Item × List ℕ) Short → Item × List ℕ
or_broken (Ok read) = read
or_broken (Err fault) = (Broken, [])

-- what an opcode and the bytes behind it say, and the bytes behind that
unfoldable pub item_in : ℕ → List ℕ → Item × List ℕ
item_in opcode bytes = or_broken (known opcode bytes)

-- the instructions in some bytes one after another, where the first bytes are still of one before
unfoldable pub items : ℕ → List ℕ → List Item
items taken [] = []
items (suc taken) (byte ∷ bytes) = items taken bytes
items zero (byte ∷ bytes) = (item_in byte bytes).0 ∷ items (length bytes - length (item_in byte bytes).1) bytes
