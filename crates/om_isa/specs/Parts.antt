-- The table by the fields of a word, that the decoder tells apart: opcode, `funct3` and `funct7`.
use Rattle.std.specs.Prelude.{ℕ, ◌%◌, Bool, true, ◌&&◌, nat_eq, if◌then◌else◌, find, Option}
use Rattle.std.specs.Option.{option_map}
use Rattle.om_isa.specs.Table.{Row, table, field, immediate}
use Rattle.om_isa.specs.declared.op.Op.{Op}
use Rattle.om_isa.specs.declared.form.Form.{Form}

-- the fields beside the opcode are those of a row, so far as its mask has them
abbrev pub fits_beside : ℕ → ℕ → ℕ → Row → Bool
fits_beside funct3 funct7 word r =
    if nat_eq r.mask 0x7f
    then true
    else if nat_eq r.mask 0x707f
    then nat_eq (field r.bits 12 3) funct3
    else if nat_eq r.mask 0xfe00_707f
    then nat_eq (field r.bits 12 3) funct3 && nat_eq (field r.bits 25 7) funct7
    else nat_eq r.bits word

-- the fields of a word are those of a row
abbrev pub fits_by : ℕ → ℕ → ℕ → ℕ → Row → Bool
fits_by opcode funct3 funct7 word r = nat_eq (r.bits % 128) opcode && fits_beside funct3 funct7 word r

-- the operation and the form of the row that has these fields
abbrev pub shape_by : ℕ → ℕ → ℕ → ℕ → Option (Op × Form)
shape_by opcode funct3 funct7 word = option_map (λ r. (r.op, r.form)) (find (fits_by opcode funct3 funct7 word) table)

-- an operation that is found, with the form of its opcode
abbrev pub with_form : Form → Option Op → Option (Op × Form)
with_form form found = option_map (λ op. (op, form)) found

-- an operation, with the immediate that its form has in a word
abbrev pub parts_of : ℕ → (Op × Form) → (Op × ℕ)
parts_of word shape = (shape.0, immediate shape.1 word)
