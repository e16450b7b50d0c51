-- The laws of location expressions.
use Rattle.std.proofs.Common.{◌≡◌, ◌≢◌, ℕ, ◌+◌, ◌-◌, ◌<◌, ◌≤◌, leb, Bool, true, false, cond, ◌&&◌, List, [], ◌∷◌, Option, Some, None, refl, sym, subst, arith}
use Rattle.std.specs.Option.{option_map}
use Rattle.std.proofs.lemmas.Bool.Decides.{nat_tests}
use Rattle.om_base.specs.Leb.{sleb_of}
use Rattle.om_base.specs.Reading.{number_of}
use Rattle.om_base.proofs.FieldLaws.{number_reads}
use Rattle.om_base.proofs.LebLaws.{sleb_reads}
use Rattle.om_loc.specs.Constants.{DW_OP_addr, DW_OP_breg0, DW_OP_breg31, DW_OP_call_frame_cfa, DW_OP_fbreg, DW_OP_reg0, DW_OP_reg31}
use Rattle.om_loc.specs.Expressions.{IsExpression, addr, reg, breg, fbreg, call_frame_cfa}
use Rattle.om_loc.specs.Places.{filling, place_of, said_by, with_address, with_none, with_offset}
use Rattle.om_loc.specs.declared.place.Place.{Place}
use Rattle.om_loc.specs.declared.place.Place.TheVariants as p
use Rattle.om_loc.proofs.OperandLemmas.{filled, fills}

-- ---- what an expression says is read

reg_says : (number : ℕ) (operands : List ℕ) → number < 32 → said_by (DW_OP_reg0 + number) operands ≡ with_none (p.Reg number) operands
unfolding said_by
reg_says number operands less = grind (arith, nat_tests)

breg_says : (number : ℕ) (operands : List ℕ) → number < 32 → said_by (DW_OP_breg0 + number) operands ≡ with_offset (p.RegPlus number) operands
unfolding said_by
breg_says number operands less = grind (arith, nat_tests)

pub read_as : (text : List ℕ) (place : Place) → IsExpression text place → place_of text ≡ place
unfolding place_of said_by
read_as text place (addr is) = rw (filled (number_of 4) (number_reads 4) _ _ is) refl
read_as text place (reg {number} less) = rw (reg_says number [] less) refl
read_as text place (breg {number} {text = operands} less is) = rw (breg_says number operands less, filled sleb_of sleb_reads _ _ is) refl
read_as text place (fbreg is) = rw (filled sleb_of sleb_reads _ _ is) refl
read_as text place call_frame_cfa = refl

pub never_gone : (text : List ℕ) (place : Place) → IsExpression text place → place ≢ p.Gone
never_gone text place (addr is) = λ gone. cc
never_gone text place (reg less) = λ gone. cc
never_gone text place (breg less is) = λ gone. cc
never_gone text place (fbreg is) = λ gone. cc
never_gone text place call_frame_cfa = λ gone. cc

-- ---- what is read is an expression

-- what one of two cases says
either : {P : Type 0} (test : Bool) (o q : Option Place) (place : Place) → cond test o q ≡ Some place
    → (test ≡ true → o ≡ Some place → P) → (q ≡ Some place → P) → P
either true o q place is first second = first refl is
either false o q place is first second = second is

-- an opcode in a range is the first one and a number
number_of_opcode : (first last opcode : ℕ) → (leb first opcode && leb opcode last) ≡ true → (opcode ≡ first + (opcode - first)) × (opcode - first ≤ last - first)
number_of_opcode first last opcode within = grind (arith, nat_tests)

none_left : (place said : Place) (operands : List ℕ) → with_none place operands ≡ Some said → (operands ≡ []) × (place ≡ said)
none_left place said [] is = (refl, cc)
none_left place said (byte ∷ bytes) is = absurd cc

mapped : {A : Type 0} (f : A → Place) (o : Option A) (said : Place) → option_map f o ≡ Some said → (x : A) × (o ≡ Some x) × (f x ≡ said)
mapped f None said is = absurd cc
mapped f (Some x) said is = (x, refl, cc)

addr_is : (opcode : ℕ) (operands : List ℕ) (said : Place) → (leb DW_OP_addr opcode && leb opcode DW_OP_addr) ≡ true → with_address p.Fixed operands ≡ Some said → IsExpression (opcode ∷ operands) said
addr_is opcode operands said within is =
    let same : DW_OP_addr ≡ opcode = omega (arith, number_of_opcode DW_OP_addr DW_OP_addr opcode within) in
    let x = mapped p.Fixed (filling (number_of 4) operands) said is in
    subst (λ place. IsExpression (opcode ∷ operands) place) x.2 (subst (λ first. IsExpression (first ∷ operands) (p.Fixed x.0)) same (addr (fills (number_of 4) (number_reads 4) operands x.0 x.1)))

reg_is : (opcode : ℕ) (operands : List ℕ) (said : Place) → (leb DW_OP_reg0 opcode && leb opcode DW_OP_reg31) ≡ true → with_none (p.Reg (opcode - DW_OP_reg0)) operands ≡ Some said → IsExpression (opcode ∷ operands) said
reg_is opcode operands said within is =
    let number = number_of_opcode DW_OP_reg0 DW_OP_reg31 opcode within in
    let left = none_left (p.Reg (opcode - DW_OP_reg0)) said operands is in
    let whole : (DW_OP_reg0 + (opcode - DW_OP_reg0)) ∷ [] ≡ opcode ∷ operands = rw (left.0, ← number.0) refl in
    subst (λ place. IsExpression (opcode ∷ operands) place) left.1 (subst (λ text. IsExpression text (p.Reg (opcode - DW_OP_reg0))) whole (reg (omega (arith, number.1))))

breg_is : (opcode : ℕ) (operands : List ℕ) (said : Place) → (leb DW_OP_breg0 opcode && leb opcode DW_OP_breg31) ≡ true → with_offset (p.RegPlus (opcode - DW_OP_breg0)) operands ≡ Some said → IsExpression (opcode ∷ operands) said
breg_is opcode operands said within is =
    let number = number_of_opcode DW_OP_breg0 DW_OP_breg31 opcode within in
    let x = mapped (p.RegPlus (opcode - DW_OP_breg0)) (filling sleb_of operands) said is in
    subst (λ place. IsExpression (opcode ∷ operands) place) x.2
    (subst (λ first. IsExpression (first ∷ operands) (p.RegPlus (opcode - DW_OP_breg0) x.0)) (sym number.0) (breg (omega (arith, number.1)) (fills sleb_of sleb_reads operands x.0 x.1)))

fbreg_is : (opcode : ℕ) (operands : List ℕ) (said : Place) → (leb DW_OP_fbreg opcode && leb opcode DW_OP_fbreg) ≡ true → with_offset p.Frame operands ≡ Some said → IsExpression (opcode ∷ operands) said
fbreg_is opcode operands said within is =
    let same : DW_OP_fbreg ≡ opcode = omega (arith, number_of_opcode DW_OP_fbreg DW_OP_fbreg opcode within) in
    let x = mapped p.Frame (filling sleb_of operands) said is in
    subst (λ place. IsExpression (opcode ∷ operands) place) x.2 (subst (λ first. IsExpression (first ∷ operands) (p.Frame x.0)) same (fbreg (fills sleb_of sleb_reads operands x.0 x.1)))

cfa_is : (opcode : ℕ) (operands : List ℕ) (said : Place) → (leb DW_OP_call_frame_cfa opcode && leb opcode DW_OP_call_frame_cfa) ≡ true → with_none p.Cfa operands ≡ Some said → IsExpression (opcode ∷ operands) said
cfa_is opcode operands said within is =
    let same : opcode ≡ DW_OP_call_frame_cfa = omega (arith, number_of_opcode DW_OP_call_frame_cfa DW_OP_call_frame_cfa opcode within) in
    let left = none_left p.Cfa said operands is in
    let whole : DW_OP_call_frame_cfa ∷ [] ≡ opcode ∷ operands = rw (left.0, same) refl in
    subst (λ place. IsExpression (opcode ∷ operands) place) left.1 (subst (λ text. IsExpression text p.Cfa) whole call_frame_cfa)

said_is : (opcode : ℕ) (operands : List ℕ) (said : Place) → said_by opcode operands ≡ Some said → IsExpression (opcode ∷ operands) said
unfolding said_by
said_is opcode operands said is =
    either _ _ _ said is (addr_is opcode operands said) (λ is.
    either _ _ _ said is (reg_is opcode operands said) (λ is.
    either _ _ _ said is (breg_is opcode operands said) (λ is.
    either _ _ _ said is (fbreg_is opcode operands said) (λ is.
    either _ _ _ said is (cfa_is opcode operands said) (λ is. absurd cc)))))

place_by : (opcode : ℕ) (operands : List ℕ) (o : Option Place) → said_by opcode operands ≡ o → place_of (opcode ∷ operands) ≢ p.Gone → IsExpression (opcode ∷ operands) (place_of (opcode ∷ operands))
unfolding place_of
place_by opcode operands None is not_gone = absurd (not_gone (rw is refl))
place_by opcode operands (Some place) is not_gone = rw is (said_is opcode operands place is)

pub says : (text : List ℕ) → place_of text ≢ p.Gone → IsExpression text (place_of text)
unfolding place_of
says [] not_gone = absurd (not_gone refl)
says (opcode ∷ operands) not_gone = place_by opcode operands (said_by opcode operands) refl not_gone
