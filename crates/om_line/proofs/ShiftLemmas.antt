-- Programs of which the end of another one has the instructions.
use Rattle.std.proofs.Common.{◌≡◌, ℕ, ◌+◌, ◌%◌, ◌^◌, true, List, [], ◌∷◌, ◌++◌, map, refl, sym, ap, ◌∙◌, arith}
use Rattle.std.specs.Prelude.{option_to_list}
use Rattle.std.specs.List.{list_all}
use Rattle.std.proofs.lemmas.Bool.{and_parts}
use Rattle.std.proofs.lemmas.List.{map-append}
use Rattle.std.proofs.lemmas.Simd.{map-map}
use Rattle.om_line.specs.Head.{Head}
use Rattle.om_line.specs.Running.{after, made, rows_from}
use Rattle.om_line.specs.Sharing.{are_relative, is_relative, lower}
use Rattle.om_line.specs.declared.instruction.Instruction.{Instruction}
use Rattle.om_line.specs.declared.instruction.Instruction.TheVariants as i
use Rattle.om_line.specs.declared.registers.Registers.{Registers}
use Rattle.om_line.specs.declared.row.LineRow.{LineRow}

abbrev pub addresses : List LineRow → List ℕ
addresses rows = map (λ row. row.addr) rows

grown_lower : (by address more : ℕ) → (lower by address + more) % 2 ^ 32 ≡ lower by ((address + more) % 2 ^ 32)
grown_lower by address more = omega arith

-- after an instruction one address is as much lower as before it
after_lower : (head : Head) (by : ℕ) (a b : Registers) (x : Instruction) → is_relative x ≡ true → b.address ≡ lower by a.address → (after head b x).address ≡ lower by (after head a x).address
unfolding after
after_lower head by a b (i.Special opcode) is low = rw low (grown_lower by a.address _)
after_lower head by a b i.Copy is low = low
after_lower head by a b (i.AdvancePc count) is low = rw low (grown_lower by a.address _)
after_lower head by a b (i.AdvanceLine growth) is low = low
after_lower head by a b (i.SetFile file) is low = low
after_lower head by a b i.ConstAddPc is low = rw low (grown_lower by a.address _)
after_lower head by a b (i.FixedAdvancePc bytes) is low = rw low (grown_lower by a.address _)
after_lower head by a b i.EndSequence is low = absurd cc
after_lower head by a b (i.SetAddress address) is low = absurd cc
after_lower head by a b (i.DefineFile name) is low = low
after_lower head by a b i.Nothing is low = low

-- so is that of a row that it makes
made_lower : (head : Head) (by : ℕ) (a b : Registers) (x : Instruction) → is_relative x ≡ true → b.address ≡ lower by a.address
    → addresses (option_to_list (made head b x)) ≡ map (lower by) (addresses (option_to_list (made head a x)))
unfolding made
made_lower head by a b (i.Special opcode) is low = ap (λ (n : ℕ). n ∷ []) (rw low (grown_lower by a.address _))
made_lower head by a b i.Copy is low = ap (λ (n : ℕ). n ∷ []) low
made_lower head by a b (i.AdvancePc count) is low = refl
made_lower head by a b (i.AdvanceLine growth) is low = refl
made_lower head by a b (i.SetFile file) is low = refl
made_lower head by a b i.ConstAddPc is low = refl
made_lower head by a b (i.FixedAdvancePc bytes) is low = refl
made_lower head by a b i.EndSequence is low = absurd cc
made_lower head by a b (i.SetAddress address) is low = absurd cc
made_lower head by a b (i.DefineFile name) is low = refl
made_lower head by a b i.Nothing is low = refl

-- of relative instructions all rows are
pub rows_lower : (head : Head) (by : ℕ) (a b : Registers) (xs : List Instruction) → are_relative xs ≡ true → b.address ≡ lower by a.address
    → addresses (rows_from head b xs) ≡ map (lower by) (addresses (rows_from head a xs))
unfolding rows_from are_relative
rows_lower head by a b [] is low = refl
rows_lower head by a b (x ∷ xs) is low =
    let both = and_parts (is_relative x) (list_all is_relative xs) is in
    map-append (λ (row : LineRow). row.addr) (option_to_list (made head b x)) (rows_from head (after head b x) xs)
    ∙ ap (λ ns. ns ++ addresses (rows_from head (after head b x) xs)) (made_lower head by a b x both.0 low)
    ∙ ap (λ ns. map (lower by) (addresses (option_to_list (made head a x))) ++ ns) (rows_lower head by (after head a x) (after head b x) xs both.1 (after_lower head by a b x both.0 low))
    ∙ sym (map-append (lower by) (addresses (option_to_list (made head a x))) (addresses (rows_from head (after head a x) xs)))
    ∙ ap (map (lower by)) (sym (map-append (λ (row : LineRow). row.addr) (option_to_list (made head a x)) (rows_from head (after head a x) xs)))

pub rows_lower_each : (head : Head) (by : ℕ) (a b : Registers) (xs : List Instruction) → are_relative xs ≡ true → b.address ≡ lower by a.address
    → addresses (rows_from head b xs) ≡ map (λ row. lower by row.addr) (rows_from head a xs)
rows_lower_each head by a b xs is low = rows_lower head by a b xs is low ∙ map-map (lower by) (λ (row : LineRow). row.addr) (rows_from head a xs)
