-- The laws of line programs.
use Rattle.std.proofs.Common.{◌≡◌, ℕ, zero, suc, ◌+◌, ◌*◌, ◌<◌, ◌≤◌, ◌+ℤ◌, pos, List, [], ◌∷◌, ◌++◌, length, Option, Some, None, Ok, Err, refl, arith, ap, ◌∙◌}
use Rattle.std.specs.Prelude.{Result}
use Rattle.std.proofs.lemmas.Nat.{div-mul-add, mod-mul-add}
use Rattle.om_line.specs.Head.{Head}
use Rattle.om_line.specs.Instructions.{broken_in, instruction_in, instructions_in}
use Rattle.om_line.specs.Laws.{Fill, StandBefore}
use Rattle.om_line.specs.Running.{advanced, after_special, grown}
use Rattle.om_line.specs.declared.fields.Broken.{Broken}
use Rattle.om_line.specs.declared.instruction.Instruction.{Instruction}
use Rattle.om_line.specs.declared.registers.Registers.{Registers}
use Rattle.om_line.proofs.ProgramLemmas.{broken_here, broken_later, broken_nowhere, instruction_cut, instruction_first, no_instructions}
use Rattle.om_line.proofs.ReaderLemmas.{instruction_behind}

more_fill : (head : Head) (bytes behind : List ℕ) (x : Instruction) (xs : List Instruction) (broken : Option (List ℕ)) → instruction_in head bytes ≡ Ok (x, behind) → Fill head behind xs broken → Fill head bytes (x ∷ xs) broken
more_fill head bytes behind x xs None is fill = (behind, is, fill)
more_fill head bytes behind x xs (Some rest) is fill = ((behind, is, fill.0), fill.1)

fill_by : (head : Head) (byte : ℕ) (bytes : List ℕ) (o : Result (Instruction × List ℕ) Broken) → instruction_in head (byte ∷ bytes) ≡ o
    → ((x : Instruction) (behind : List ℕ) → instruction_in head (byte ∷ bytes) ≡ Ok (x, behind) → Fill head behind (instructions_in head behind) (broken_in head behind))
    → Fill head (byte ∷ bytes) (instructions_in head (byte ∷ bytes)) (broken_in head (byte ∷ bytes))
fill_by head byte bytes (Ok read) is later =
    rw (instruction_first head (byte ∷ bytes) read.0 read.1 is, broken_later head (byte ∷ bytes) read.0 read.1 is) (more_fill head (byte ∷ bytes) read.1 read.0 _ _ is (later read.0 read.1 is))
fill_by head byte bytes (Err why) is later =
    rw (instruction_cut head (byte ∷ bytes) why is, broken_here head (byte ∷ bytes) why is (omega arith)) (refl, ((λ none. cc), (why, is)))

fills : (most : ℕ) (head : Head) (bytes : List ℕ) → length bytes ≤ most → Fill head bytes (instructions_in head bytes) (broken_in head bytes)
fills most head [] le = rw (no_instructions head [] refl, broken_nowhere head [] refl) refl
fills zero head (byte ∷ bytes) le = absurd (omega (arith, le))
fills (suc most) head (byte ∷ bytes) le =
    fill_by head byte bytes (instruction_in head (byte ∷ bytes)) refl (λ x behind is. fills most head behind (omega (arith, instruction_behind head (byte ∷ bytes) x behind is, le)))

pub all_fill : (head : Head) (program : List ℕ) → Fill head program (instructions_in head program) (broken_in head program)
all_fill head program = fills (length program) head program (omega arith)

pub same_instructions : (head : Head) (program end : List ℕ) (front : List Instruction) → StandBefore head program front end → instructions_in head program ≡ front ++ instructions_in head end
same_instructions head program end [] same = ap (instructions_in head) same
same_instructions head program end (x ∷ front) (behind, is, more) = instruction_first head program x behind is ∙ ap (λ xs. x ∷ xs) (same_instructions head behind end front more)

pub same_broken : (head : Head) (program end : List ℕ) (front : List Instruction) → StandBefore head program front end → broken_in head program ≡ broken_in head end
same_broken head program end [] same = ap (broken_in head) same
same_broken head program end (x ∷ front) (behind, is, more) = broken_later head program x behind is ∙ same_broken head behind end front more

pub special_is : (head : Head) (registers : Registers) (growth advance : ℕ) → growth < head.line_range
    → after_special head (growth + head.line_range * advance) registers ≡ grown (head.line_base +ℤ pos growth) (advanced head advance registers)
special_is head registers growth advance less =
    let same : growth + head.line_range * advance ≡ advance * head.line_range + growth = omega arith in
    rw (same, div-mul-add advance head.line_range growth less, mod-mul-add advance head.line_range growth less) refl
