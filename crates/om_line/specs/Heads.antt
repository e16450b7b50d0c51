-- The head of a line table: DWARF 4, section 6.2.4 "The Line Number Program Header", and section 7.4 "32-Bit and 64-Bit DWARF
-- Formats".
use Rattle.std.specs.Prelude.{ℕ, ◌+◌, ◌-◌, Bool, not, ◌&&◌, nat_eq, nat_le, nat_lt, if◌then◌else◌, List, [], ◌∷◌, length, take, drop, unwrap_or, Option, Some, None}
use Rattle.std.specs.Int.{cast_signed, w8}
use Rattle.om_base.specs.Firsts.{first_of}
use Rattle.om_base.specs.Numbers.{number_at}
use Rattle.om_line.specs.Head.{Head}
use Rattle.om_line.specs.declared.fault.LineFault.{LineFault}
use Rattle.om_line.specs.declared.fault.LineFault.TheVariants as fault

-- a field of a head, 0 where the bytes end before
abbrev pub field : ℕ → List ℕ → ℕ → ℕ
field size bytes at = unwrap_or (number_at size bytes at) 0

abbrev pub unless : Bool → LineFault → Option LineFault
unless kept fault = if kept then None else Some fault

-- ---- which bytes are a table

-- how many bytes of a table stand behind its length
abbrev pub unit_length : List ℕ → ℕ
unit_length bytes = field 4 bytes 0

abbrev pub version : List ℕ → ℕ
version bytes = field 2 bytes 4

-- what each rule says of bytes that begin at an offset, in their order: the length is there, and is none of the values from
-- 0xfffffff0 on, which mark DWARF's 64-bit format or are reserved; the table is there, and in it its version; the version is read
unfoldable pub table_fault : ℕ → List ℕ → Option LineFault
table_fault at bytes = first_of (
    unless (nat_le 4 (length bytes)) (fault.Short at)
    ∷ unless (nat_lt (unit_length bytes) 4294967280) (fault.Header at)
    ∷ unless (nat_le (4 + unit_length bytes) (length bytes)) (fault.Short at)
    ∷ unless (nat_le 2 (unit_length bytes)) (fault.Short at)
    ∷ unless (nat_le 2 (version bytes) && nat_le (version bytes) 4) (fault.Version at)
    ∷ [])

-- the bytes of the table in front
abbrev pub table_in : List ℕ → List ℕ
table_in bytes = take (4 + unit_length bytes) bytes

-- ---- the fields of a table

-- how many bytes stand between this field and the program
abbrev pub header_length : List ℕ → ℕ
header_length table = field 4 table 6

-- version 4 has one field more, the greatest number of operations in an instruction
abbrev pub more_bytes : List ℕ → ℕ
more_bytes table = if nat_eq (version table) 4 then 1 else 0

abbrev pub maximum_operations : List ℕ → ℕ
maximum_operations table = if nat_eq (version table) 4 then field 1 table 11 else 1

-- the first special opcode
abbrev pub opcode_base : List ℕ → ℕ
opcode_base table = field 1 table (14 + more_bytes table)

-- where the counts of operands end, one for each opcode below the first special one, and the directories begin
abbrev pub directories_at : List ℕ → ℕ
directories_at table = 15 + more_bytes table + (opcode_base table - 1)

abbrev pub head_of : List ℕ → Head
head_of table = record {
  minimum_instruction_length = field 1 table 10;
  maximum_operations = maximum_operations table;
  line_base = cast_signed w8 (field 1 table (12 + more_bytes table));
  line_range = field 1 table (13 + more_bytes table);
  opcode_base = opcode_base table;
  operand_counts = take (opcode_base table - 1) (drop (15 + more_bytes table) table);
}

-- the head and the bytes behind it, if it is there
unfoldable pub head_in : List ℕ → Option (Head × List ℕ)
head_in table = if nat_le (directories_at table) (length table) then Some (head_of table, drop (directories_at table) table) else None

-- the instructions can be run
abbrev pub is_lawful : Head → Bool
is_lawful head = nat_eq head.maximum_operations 1 && (not (nat_eq head.line_range 0) && not (nat_eq head.opcode_base 0))
