-- Which bytes of a line program spell which instruction: DWARF 4, sections 6.2.5.1 to 6.2.5.3 and section 7.21.
use Rattle.std.specs.Prelude.{ℕ, zero, suc, ◌-◌, nat_eq, nat_le, if◌then◌else◌, List, [], ◌∷◌, length, take, drop, Option, None, Some, Result, Ok, Err}
use Rattle.std.specs.List.{slice_index}
use Rattle.std.specs.Result.{result_map_both}
use Rattle.om_base.specs.Leb.{result_then}
use Rattle.om_base.specs.Reading.{Reader, first_then}
use Rattle.om_line.specs.Fields.{behind_numbers, broken, by, fixed, signed, text, unsigned}
use Rattle.om_line.specs.Head.{Head}
use Rattle.om_line.specs.declared.fields.Broken.{Broken}
use Rattle.om_line.specs.declared.instruction.Instruction.{Instruction}
use Rattle.om_line.specs.declared.instruction.Instruction.TheVariants as i

-- ---- files

-- a name and the bytes behind the three numbers that follow it: a directory, a time and a length
abbrev pub named : List ℕ → List ℕ → Result (List ℕ × List ℕ) Broken
named name rest = result_map_both (λ behind. (name, behind)) (λ e. e) (behind_numbers 3 rest)

-- a file in front
unfoldable pub file_in : Reader (List ℕ) Broken
file_in bytes = result_then (λ x. named x.0 x.1) (text bytes)

-- ---- standard opcodes

-- an instruction without operands
abbrev pub plain : Instruction → Reader Instruction Broken
plain instruction bytes = Ok (instruction, bytes)

-- the standard opcodes with their operands
abbrev pub standard_opcodes : List (ℕ × Reader Instruction Broken)
standard_opcodes =
    (1, plain i.Copy)
    ∷ (2, by i.AdvancePc unsigned)
    ∷ (3, by i.AdvanceLine signed)
    ∷ (4, by i.SetFile unsigned)
    ∷ (5, by (λ _. i.Nothing) unsigned)
    ∷ (6, plain i.Nothing)
    ∷ (7, plain i.Nothing)
    ∷ (8, plain i.ConstAddPc)
    ∷ (9, by i.FixedAdvancePc (fixed 2))
    ∷ (10, plain i.Nothing)
    ∷ (11, plain i.Nothing)
    ∷ (12, by (λ _. i.Nothing) unsigned)
    ∷ []

-- an opcode that isn't known has as many operands as the head tells
abbrev pub unknown : ℕ → Reader Instruction Broken
unknown count bytes = result_map_both (λ rest. (i.Nothing, rest)) (λ e. e) (behind_numbers count bytes)

-- what the first row of an opcode reads, or what is read where there is none
abbrev pub row_of : {A : Type 0} → List (ℕ × A) → A → ℕ → A
row_of [] other opcode = other
row_of (row ∷ rows) other opcode = if nat_eq row.0 opcode then row.1 else row_of rows other opcode

unfoldable pub standard : Head → ℕ → Reader Instruction Broken
standard head opcode = row_of standard_opcodes (unknown (slice_index head.operand_counts (opcode - 1))) opcode

-- ---- extended opcodes

-- an address, which has 4 bytes
abbrev pub address_in : List ℕ → Result Instruction Broken
address_in operands = if nat_eq (length operands) 4 then result_map_both (λ x. i.SetAddress x.0) (λ e. e) (fixed 4 operands) else Err broken

-- the extended opcodes with their operands
abbrev pub extended_opcodes : List (ℕ × (List ℕ → Result Instruction Broken))
extended_opcodes =
    (1, λ operands. Ok i.EndSequence)
    ∷ (2, address_in)
    ∷ (3, λ operands. result_map_both (λ x. i.DefineFile x.0) (λ e. e) (file_in operands))
    ∷ []

-- the instruction of an extended opcode with its operands; of one that isn't known the operands aren't looked at
unfoldable pub extended_by : List ℕ → Result Instruction Broken
extended_by [] = Err broken
extended_by (opcode ∷ operands) = row_of extended_opcodes (λ operands. Ok i.Nothing) opcode operands

-- the instruction of so many bytes
unfoldable pub extended_of : ℕ → Reader Instruction Broken
extended_of size bytes =
    if nat_le size (length bytes) then result_map_both (λ instruction. (instruction, drop size bytes)) (λ e. e) (extended_by (take size bytes)) else Err broken

-- ---- all opcodes

-- by its opcode, what stands behind it
abbrev pub by_opcode : Head → ℕ → Reader Instruction Broken
by_opcode head opcode =
    if nat_le head.opcode_base opcode then plain (i.Special (opcode - head.opcode_base))
    else if nat_eq opcode 0 then first_then unsigned extended_of
    else standard head opcode

-- the instruction in front
unfoldable pub instruction_in : Head → Reader Instruction Broken
instruction_in head = first_then (fixed 1) (by_opcode head)

-- ---- one after another, of which there are no more than bytes

-- an instruction in front of those behind it, if it is whole
abbrev pub and_more : Result (Instruction × List ℕ) Broken → (List ℕ → List Instruction) → List Instruction
and_more (Ok read) more = read.0 ∷ more read.1
and_more (Err e) more = []

-- the instructions in some bytes, up to the first that breaks off
unfoldable pub instructions_by : ℕ → Head → List ℕ → List Instruction
instructions_by zero head bytes = []
instructions_by (suc most) head bytes = and_more (instruction_in head bytes) (instructions_by most head)

abbrev pub instructions_in : Head → List ℕ → List Instruction
instructions_in head bytes = instructions_by (length bytes) head bytes

-- the bytes from an instruction that breaks off, or else what breaks off behind it
abbrev pub or_broken : List ℕ → Result (Instruction × List ℕ) Broken → (List ℕ → Option (List ℕ)) → Option (List ℕ)
or_broken bytes (Ok read) more = more read.1
or_broken bytes (Err e) more = Some bytes

-- the bytes from the first instruction on that breaks off, if one does
unfoldable pub broken_by : ℕ → Head → List ℕ → Option (List ℕ)
broken_by zero head bytes = None
broken_by (suc most) head [] = None
broken_by (suc most) head (byte ∷ bytes) = or_broken (byte ∷ bytes) (instruction_in head (byte ∷ bytes)) (broken_by most head)

abbrev pub broken_in : Head → List ℕ → Option (List ℕ)
broken_in head bytes = broken_by (length bytes) head bytes
