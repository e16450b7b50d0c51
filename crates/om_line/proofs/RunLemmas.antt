-- A line program that runs.
use Rattle.std.proofs.Common.{◌≡◌, ℕ, ◌<◌, ◌≤◌, Bool, true, false, ◌&&◌, eqb, List, [], ◌∷◌, ◌++◌, length, drop, append_assoc, Some, None, Ok, Err, refl, sym, ap, subst, ◌∙◌, arith}
use Rattle.std.specs.Prelude.{All, option_to_list}
use Rattle.std.proofs.Math.Seq.{drop-append_seam}
use Rattle.std.proofs.lemmas.Bool.{and_parts}
use Rattle.std.proofs.lemmas.List.Elements.{All-append, All-cons, All-nil}
use Rattle.std.proofs.lemmas.Bool.Decides.{nat_tests}
use Rattle.std.proofs.lemmas.List.{append-nil}
use Rattle.om_line.specs.Head.{Head}
use Rattle.om_line.specs.Instructions.{broken_in, instruction_in, instructions_in}
use Rattle.om_line.specs.Running.{after, begin, files_from, made, named, rows_from}
use Rattle.om_line.specs.declared.fields.Broken.{Broken}
use Rattle.om_line.specs.declared.instruction.Instruction.{Instruction}
use Rattle.om_line.specs.declared.registers.Registers.{Registers}
use Rattle.om_line.specs.declared.row.LineRow.{LineRow}
use Rattle.om_line.proofs.ProgramLemmas.{broken_here, broken_later, broken_nowhere, instruction_first, no_instructions}
use Rattle.om_line.specs.Sharing.{IsEnd, IsStart, are_relative, is_relative}
use Rattle.om_line.specs.declared.start.Start.{Start}
use Rattle.om_line.proofs.ReaderLemmas.{further_end, instruction_behind, instruction_end, whole_end}

-- a program has been run up to a place, with files before it
pub record IsRun (head : Head) (before : List (List ℕ)) (program : List ℕ) (registers : Registers) (rows : List LineRow) (files : List (List ℕ)) (rest : List ℕ) : Type 0 where
  pub rows_are : rows_from head begin (instructions_in head program) ≡ rows ++ rows_from head registers (instructions_in head rest)
  pub files_are : before ++ files_from (instructions_in head program) ≡ files ++ files_from (instructions_in head rest)
  pub broken_is : broken_in head program ≡ broken_in head rest
  pub ends : IsEnd program rest
  pub short : length rest ≤ length program

pub starts : (head : Head) (before : List (List ℕ)) (program : List ℕ) (registers : Registers) (rows : List LineRow) → registers ≡ begin → rows ≡ [] → IsRun head before program registers rows before program
starts head before program registers rows is none = rw (is, none) (record { rows_are = refl; files_are = refl; broken_is = refl; ends = whole_end program program refl; short = omega arith })

rows_more : (head : Head) (registers : Registers) (x : Instruction) (xs : List Instruction) → rows_from head registers (x ∷ xs) ≡ option_to_list (made head registers x) ++ rows_from head (after head registers x) xs
unfolding rows_from
rows_more head registers x xs = refl

files_more : (x : Instruction) (xs : List Instruction) → files_from (x ∷ xs) ≡ option_to_list (named x) ++ files_from xs
unfolding files_from
files_more x xs = refl

pub goes_on : (head : Head) (before : List (List ℕ)) (program : List ℕ) (registers new : Registers) (rows more : List LineRow) (files also : List (List ℕ)) (rest behind : List ℕ) (x : Instruction)
    → IsRun head before program registers rows files rest → instruction_in head rest ≡ Ok (x, behind)
    → new ≡ after head registers x → more ≡ rows ++ option_to_list (made head registers x) → also ≡ files ++ option_to_list (named x)
    → IsRun head before program new more also behind
goes_on head before program registers new rows more files also rest behind x run is new_is more_is also_is = record {
  rows_are = run.rows_are ∙ ap (λ xs. rows ++ rows_from head registers xs) (instruction_first head rest x behind is)
      ∙ ap (λ ys. rows ++ ys) (rows_more head registers x (instructions_in head behind))
      ∙ sym (append_assoc rows (option_to_list (made head registers x)) (rows_from head (after head registers x) (instructions_in head behind)))
      ∙ ap (λ ys. ys ++ rows_from head (after head registers x) (instructions_in head behind)) (sym more_is)
      ∙ ap (λ r. more ++ rows_from head r (instructions_in head behind)) (sym new_is);
  files_are = run.files_are ∙ ap (λ xs. files ++ files_from xs) (instruction_first head rest x behind is)
      ∙ ap (λ ys. files ++ ys) (files_more x (instructions_in head behind))
      ∙ sym (append_assoc files (option_to_list (named x)) (files_from (instructions_in head behind)))
      ∙ ap (λ ys. ys ++ files_from (instructions_in head behind)) (sym also_is);
  broken_is = run.broken_is ∙ broken_later head rest x behind is;
  ends = further_end program rest behind run.ends (instruction_end head rest x behind is);
  short = omega (arith, run.short, instruction_behind head rest x behind is);
}

pub breaks : (head : Head) (before : List (List ℕ)) (program : List ℕ) (registers : Registers) (rows : List LineRow) (files : List (List ℕ)) (rest : List ℕ) (e : Broken)
    → IsRun head before program registers rows files rest → instruction_in head rest ≡ Err e → 0 < length rest → broken_in head program ≡ Some rest
breaks head before program registers rows files rest e run is some = run.broken_is ∙ broken_here head rest e is some

no_rows : (head : Head) (registers : Registers) (xs : List Instruction) → xs ≡ [] → rows_from head registers xs ≡ []
unfolding rows_from
no_rows head registers xs none = rw none refl

no_files : (xs : List Instruction) → xs ≡ [] → files_from xs ≡ []
unfolding files_from
no_files xs none = rw none refl

pub whole_at_end : (head : Head) (before : List (List ℕ)) (program : List ℕ) (registers : Registers) (rows : List LineRow) (files : List (List ℕ)) (rest : List ℕ)
    → IsRun head before program registers rows files rest → length rest ≡ 0 → broken_in head program ≡ None
whole_at_end head before program registers rows files rest run none = run.broken_is ∙ broken_nowhere head rest none

pub rows_at_end : (head : Head) (before : List (List ℕ)) (program : List ℕ) (registers : Registers) (rows : List LineRow) (files : List (List ℕ)) (rest : List ℕ)
    → IsRun head before program registers rows files rest → length rest ≡ 0 → rows ≡ rows_from head begin (instructions_in head program)
rows_at_end head before program registers rows files rest run none =
    sym (run.rows_are ∙ ap (λ ys. rows ++ ys) (no_rows head registers (instructions_in head rest) (no_instructions head rest none)) ∙ append-nil rows)

pub files_at_end : (head : Head) (before : List (List ℕ)) (program : List ℕ) (registers : Registers) (rows : List LineRow) (files : List (List ℕ)) (rest : List ℕ)
    → IsRun head before program registers rows files rest → length rest ≡ 0 → files ≡ before ++ files_from (instructions_in head program)
files_at_end head before program registers rows files rest run none =
    sym (run.files_are ∙ ap (λ ys. files ++ ys) (no_files (instructions_in head rest) (no_instructions head rest none)) ∙ append-nil files)

pub some_left : (n : ℕ) → false ≡ eqb n 0 → 0 < n
some_left n test = grind (arith, nat_tests)

pub none_left : (n : ℕ) → true ≡ eqb n 0 → n ≡ 0
none_left n test = grind (arith, nat_tests)

-- ---- where instructions stand

-- the instruction that comes
pub start_here : (head : Head) (before : List (List ℕ)) (program : List ℕ) (registers : Registers) (rows : List LineRow) (files : List (List ℕ)) (rest : List ℕ) (so_far : Bool)
    → IsRun head before program registers rows files rest → are_relative (instructions_in head program) ≡ (so_far && are_relative (instructions_in head rest))
    → IsStart head program (record { rest = length rest; address = registers.address; rows = length rows })
start_here head before program registers rows files rest so_far run relative = record {
  rest = rest;
  ends = run.ends;
  size = refl;
  registers = registers;
  address = refl;
  rows = ap (drop (length rows)) run.rows_are ∙ drop-append_seam rows (rows_from head registers (instructions_in head rest));
  broken = run.broken_is;
  relative = λ all. (and_parts so_far (are_relative (instructions_in head rest)) (sym relative ∙ all)).1;
}

-- one more
pub one_start : (head : Head) (program : List ℕ) (starts more : List Start) (start : Start) → All (IsStart head program) starts → IsStart head program start → more ≡ starts ++ start ∷ [] → All (IsStart head program) more
one_start head program starts more start all is pushed =
    subst (All (IsStart head program)) (sym pushed) (All-append (IsStart head program) starts (start ∷ []) all (All-cons (IsStart head program) start [] is (All-nil (IsStart head program))))

and_assoc : (a b c : Bool) → (a && (b && c)) ≡ ((a && b) && c)
and_assoc true b c = refl
and_assoc false b c = refl

first_relative : (x : Instruction) (xs : List Instruction) → are_relative (x ∷ xs) ≡ (is_relative x && are_relative xs)
unfolding are_relative
first_relative x xs = refl

pub relative_on : (head : Head) (all so_far now : Bool) (x : Instruction) (rest behind : List ℕ) → all ≡ (so_far && are_relative (instructions_in head rest)) → instruction_in head rest ≡ Ok (x, behind)
    → now ≡ (so_far && is_relative x) → all ≡ (now && are_relative (instructions_in head behind))
relative_on head all so_far now x rest behind relative is now_is =
    relative ∙ ap (λ xs. so_far && are_relative xs) (instruction_first head rest x behind is) ∙ ap (λ b. so_far && b) (first_relative x (instructions_in head behind))
    ∙ and_assoc so_far (is_relative x) (are_relative (instructions_in head behind)) ∙ ap (λ b. b && are_relative (instructions_in head behind)) (sym now_is)

none_relative : (xs : List Instruction) → xs ≡ [] → are_relative xs ≡ true
unfolding are_relative
none_relative xs none = rw none refl

and_nothing : (b c : Bool) → c ≡ true → (b && c) ≡ b
and_nothing true c is = is
and_nothing false c is = refl

pub relative_at_end : (head : Head) (all so_far : Bool) (rest : List ℕ) → all ≡ (so_far && are_relative (instructions_in head rest)) → length rest ≡ 0 → so_far ≡ all
relative_at_end head all so_far rest relative none = sym (relative ∙ and_nothing so_far _ (none_relative (instructions_in head rest) (no_instructions head rest none)))
