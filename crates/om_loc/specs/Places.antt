-- Which place a location expression of one operation says: DWARF 4, sections 2.5.1 and 2.6.1.1, opcodes by section 7.7.1.
use Rattle.std.specs.Prelude.{ℕ, ◌-◌, ℤ, Bool, nat_le, ◌&&◌, if◌then◌else◌, List, [], ◌∷◌, Option, None, Some, Result, Ok, Err, unwrap_or}
use Rattle.std.specs.Option.{option_map}
use Rattle.om_base.specs.Leb.{sleb_of}
use Rattle.om_base.specs.Reading.{number_of, with_rest}
use Rattle.om_base.specs.declared.numbers.Num.{Num}
use Rattle.om_loc.specs.Constants.{DW_OP_addr, DW_OP_breg0, DW_OP_breg31, DW_OP_call_frame_cfa, DW_OP_fbreg, DW_OP_reg0, DW_OP_reg31}
use Rattle.om_loc.specs.declared.place.Place.{Place}
use Rattle.om_loc.specs.declared.place.Place.TheVariants as p

-- ---- operands

-- what was read, if no bytes are left behind it
abbrev pub all_of : {A : Type 0} → Result (A × List ℕ) Num → Option A
all_of (Ok (x, [])) = Some x
all_of (Ok (x, (byte ∷ bytes))) = None
all_of (Err e) = None

-- what a reader takes from the front of some bytes, if it takes them all
unfoldable pub filling : {A : Type 0} → (List ℕ → Result (A × ℕ) Num) → List ℕ → Option A
filling read bytes = all_of (with_rest read bytes)

-- a place that is said by the opcode alone
abbrev pub with_none : Place → List ℕ → Option Place
with_none place [] = Some place
with_none place (byte ∷ bytes) = None

-- ... by an address, which has 4 bytes
abbrev pub with_address : (ℕ → Place) → List ℕ → Option Place
with_address place operands = option_map place (filling (number_of 4) operands)

-- ... by an offset, a signed LEB128 number
abbrev pub with_offset : (ℤ → Place) → List ℕ → Option Place
with_offset place operands = option_map place (filling sleb_of operands)

-- ---- operations

-- opcodes from one to another, and the place that each says: by its number among them, and by its operands
pub record Operation : Type 0 where
  pub first : ℕ
  pub last : ℕ
  pub says : ℕ → List ℕ → Option Place

abbrev pub operations : List Operation
operations =
    record { first = DW_OP_addr; last = DW_OP_addr; says = λ number. with_address p.Fixed }
    ∷ record { first = DW_OP_reg0; last = DW_OP_reg31; says = λ number. with_none (p.Reg number) }
    ∷ record { first = DW_OP_breg0; last = DW_OP_breg31; says = λ number. with_offset (p.RegPlus number) }
    ∷ record { first = DW_OP_fbreg; last = DW_OP_fbreg; says = λ number. with_offset p.Frame }
    ∷ record { first = DW_OP_call_frame_cfa; last = DW_OP_call_frame_cfa; says = λ number. with_none p.Cfa }
    ∷ []

-- an opcode is one of an operation
abbrev pub has_opcode : Operation → ℕ → Bool
has_opcode operation opcode = nat_le operation.first opcode && nat_le opcode operation.last

-- what an opcode with its operands says by the first operation that has it
abbrev pub said_among : List Operation → ℕ → List ℕ → Option Place
said_among [] opcode operands = None
said_among (operation ∷ others) opcode operands =
    if has_opcode operation opcode then operation.says (opcode - operation.first) operands else said_among others opcode operands

unfoldable pub said_by : ℕ → List ℕ → Option Place
said_by opcode operands = said_among operations opcode operands

-- ---- expressions

-- the place that an expression says, if it is one of these operations and nothing else
unfoldable pub place_of : List ℕ → Place
place_of [] = p.Gone
place_of (opcode ∷ operands) = unwrap_or (said_by opcode operands) p.Gone
