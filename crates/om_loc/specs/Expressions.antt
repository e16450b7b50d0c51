-- How a place is spelled by one operation: DWARF 4, sections 2.5.1 and 2.6.1.1, opcodes by section 7.7.1.
use Rattle.std.specs.Prelude.{ℕ, ◌+◌, ◌<◌, ℤ, List, [], ◌∷◌}
use Rattle.om_base.specs.Leb.{IsSleb}
use Rattle.om_base.specs.Reading.{IsNumber}
use Rattle.om_loc.specs.Constants.{DW_OP_addr, DW_OP_breg0, DW_OP_call_frame_cfa, DW_OP_fbreg, DW_OP_reg0}
use Rattle.om_loc.specs.declared.place.Place.{Place}
use Rattle.om_loc.specs.declared.place.Place.TheVariants as p

-- an expression is one operation, which says a place
pub data IsExpression : List ℕ → Place → Type 0 where
  -- an address of 4 bytes
  addr : {text : List ℕ} {address : ℕ} → IsNumber 4 text address → IsExpression (DW_OP_addr ∷ text) (p.Fixed address)
  -- one of 32 registers, whose opcodes stand one behind another
  reg : {number : ℕ} → number < 32 → IsExpression ((DW_OP_reg0 + number) ∷ []) (p.Reg number)
  -- ... and an offset from the address in it
  breg : {number : ℕ} {text : List ℕ} {offset : ℤ} → number < 32 → IsSleb text offset → IsExpression ((DW_OP_breg0 + number) ∷ text) (p.RegPlus number offset)
  -- an offset from the frame base
  fbreg : {text : List ℕ} {offset : ℤ} → IsSleb text offset → IsExpression (DW_OP_fbreg ∷ text) (p.Frame offset)
  -- the canonical frame address
  call_frame_cfa : IsExpression (DW_OP_call_frame_cfa ∷ []) p.Cfa
