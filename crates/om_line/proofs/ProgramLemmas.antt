-- Instructions, and files, one after another.
use Rattle.std.proofs.Common.{◌≡◌, ℕ, zero, suc, ◌<◌, ◌≤◌, List, [], ◌∷◌, ◌++◌, length, append_assoc, Option, Some, None, Ok, Err, refl, sym, ap, ◌∙◌, arith}
use Rattle.std.specs.Prelude.{Result}
use Rattle.std.specs.Option.{option_map}
use Rattle.std.proofs.lemmas.List.{append-nil}
use Rattle.om_line.specs.Files.{and_files, file_or_end, files_by, files_in, with_file}
use Rattle.om_line.specs.Head.{Head}
use Rattle.om_line.specs.Instructions.{and_more, broken_by, broken_in, instruction_in, instructions_by, instructions_in, or_broken}
use Rattle.om_line.specs.declared.fields.Broken.{Broken}
use Rattle.om_line.specs.declared.instruction.Instruction.{Instruction}
use Rattle.om_line.proofs.ReaderLemmas.{file_behind, instruction_behind}

-- ---- instructions

more_by : (o : Result (Instruction × List ℕ) Broken) (f g : List ℕ → List Instruction) → ((x : Instruction × List ℕ) → o ≡ Ok x → f x.1 ≡ g x.1) → and_more o f ≡ and_more o g
more_by (Ok x) f g same = ap (λ xs. x.0 ∷ xs) (same x refl)
more_by (Err e) f g same = refl

none_by : (o : Result (Instruction × List ℕ) Broken) (f : List ℕ → List Instruction) → ((x : Instruction × List ℕ) → o ≡ Ok x → ⊥) → and_more o f ≡ []
none_by (Ok x) f never = absurd (never x refl)
none_by (Err e) f never = refl

no_instruction : (head : Head) (x : Instruction × List ℕ) → instruction_in head [] ≡ Ok x → ⊥
no_instruction head x is = omega (arith, instruction_behind head [] x.0 x.1 is)

none_in : (n : ℕ) (head : Head) → instructions_by n head [] ≡ []
unfolding instructions_by
none_in zero head = refl
none_in (suc n) head = none_by (instruction_in head []) (instructions_by n head) (no_instruction head)

-- there are no more of them than bytes
enough : (n m : ℕ) (head : Head) (bytes : List ℕ) → length bytes ≤ n → length bytes ≤ m → instructions_by n head bytes ≡ instructions_by m head bytes
unfolding instructions_by
enough n m head [] le also = none_in n head ∙ sym (none_in m head)
enough zero m head (b ∷ bytes) le also = absurd (omega (arith, le))
enough (suc n) zero head (b ∷ bytes) le also = absurd (omega (arith, also))
enough (suc n) (suc m) head (b ∷ bytes) le also =
    more_by (instruction_in head (b ∷ bytes)) (instructions_by n head) (instructions_by m head)
    (λ x is. enough n m head x.1 (omega (arith, instruction_behind head (b ∷ bytes) x.0 x.1 is, le)) (omega (arith, instruction_behind head (b ∷ bytes) x.0 x.1 is, also)))

first_and_more : (o : Result (Instruction × List ℕ) Broken) (x : Instruction × List ℕ) (f : List ℕ → List Instruction) → o ≡ Ok x → and_more o f ≡ x.0 ∷ f x.1
first_and_more o x f is = ap (λ r. and_more r f) is

longer : (head : Head) (bytes : List ℕ) (x : Instruction × List ℕ) → instruction_in head bytes ≡ Ok x → (n : ℕ) × (length bytes ≡ suc n) × (length x.1 ≤ n)
longer head [] x is = absurd (no_instruction head x is)
longer head (b ∷ bytes) x is = (length bytes, refl, omega (arith, instruction_behind head (b ∷ bytes) x.0 x.1 is))

-- an instruction and those behind it
pub instruction_first : (head : Head) (bytes : List ℕ) (x : Instruction) (rest : List ℕ) → instruction_in head bytes ≡ Ok (x, rest) → instructions_in head bytes ≡ x ∷ instructions_in head rest
unfolding instructions_by
instruction_first head bytes x rest is =
    let n = longer head bytes (x, rest) is in
    ap (λ k. instructions_by k head bytes) n.1
    ∙ first_and_more (instruction_in head bytes) (x, rest) (instructions_by n.0 head) is
    ∙ ap (λ xs. x ∷ xs) (enough n.0 (length rest) head rest n.2 (omega arith))

pub instruction_cut : (head : Head) (bytes : List ℕ) (e : Broken) → instruction_in head bytes ≡ Err e → instructions_in head bytes ≡ []
unfolding instructions_by
instruction_cut head [] e is = none_in 0 head
instruction_cut head (b ∷ bytes) e is = ap (λ r. and_more r (instructions_by (length bytes) head)) is

pub no_instructions : (head : Head) (bytes : List ℕ) → length bytes ≡ 0 → instructions_in head bytes ≡ []
no_instructions head [] none = none_in 0 head
no_instructions head (b ∷ bytes) none = absurd (omega (arith, none))

-- ---- the first that breaks off

broken_more_by : (bytes : List ℕ) (o : Result (Instruction × List ℕ) Broken) (f g : List ℕ → Option (List ℕ)) → ((x : Instruction × List ℕ) → o ≡ Ok x → f x.1 ≡ g x.1) → or_broken bytes o f ≡ or_broken bytes o g
broken_more_by bytes (Ok x) f g same = same x refl
broken_more_by bytes (Err e) f g same = refl

none_broken : (n : ℕ) (head : Head) → broken_by n head [] ≡ None
unfolding broken_by
none_broken zero head = refl
none_broken (suc n) head = refl

broken_enough : (n m : ℕ) (head : Head) (bytes : List ℕ) → length bytes ≤ n → length bytes ≤ m → broken_by n head bytes ≡ broken_by m head bytes
unfolding broken_by
broken_enough n m head [] le also = none_broken n head ∙ sym (none_broken m head)
broken_enough zero m head (b ∷ bytes) le also = absurd (omega (arith, le))
broken_enough (suc n) zero head (b ∷ bytes) le also = absurd (omega (arith, also))
broken_enough (suc n) (suc m) head (b ∷ bytes) le also =
    broken_more_by (b ∷ bytes) (instruction_in head (b ∷ bytes)) (broken_by n head) (broken_by m head)
    (λ x is. broken_enough n m head x.1 (omega (arith, instruction_behind head (b ∷ bytes) x.0 x.1 is, le)) (omega (arith, instruction_behind head (b ∷ bytes) x.0 x.1 is, also)))

pub broken_later : (head : Head) (bytes : List ℕ) (x : Instruction) (rest : List ℕ) → instruction_in head bytes ≡ Ok (x, rest) → broken_in head bytes ≡ broken_in head rest
unfolding broken_by
broken_later head [] x rest is = absurd (no_instruction head (x, rest) is)
broken_later head (b ∷ bytes) x rest is =
    ap (λ r. or_broken (b ∷ bytes) r (broken_by (length bytes) head)) is
    ∙ broken_enough (length bytes) (length rest) head rest (omega (arith, instruction_behind head (b ∷ bytes) x rest is)) (omega arith)

pub broken_here : (head : Head) (bytes : List ℕ) (e : Broken) → instruction_in head bytes ≡ Err e → 0 < length bytes → broken_in head bytes ≡ Some bytes
unfolding broken_by
broken_here head [] e is some = absurd (omega (arith, some))
broken_here head (b ∷ bytes) e is some = ap (λ r. or_broken (b ∷ bytes) r (broken_by (length bytes) head)) is

pub broken_nowhere : (head : Head) (bytes : List ℕ) → length bytes ≡ 0 → broken_in head bytes ≡ None
broken_nowhere head [] none = none_broken 0 head
broken_nowhere head (b ∷ bytes) none = absurd (omega (arith, none))

-- ---- files

files_more_by : (o : Result (Option (List ℕ) × List ℕ) Broken) (f g : List ℕ → Option (List (List ℕ))) → ((x : Option (List ℕ) × List ℕ) → o ≡ Ok x → f x.1 ≡ g x.1) → and_files o f ≡ and_files o g
files_more_by (Ok x) f g same = ap (with_file x.0) (same x refl)
files_more_by (Err e) f g same = refl

no_files_by : (o : Result (Option (List ℕ) × List ℕ) Broken) (f : List ℕ → Option (List (List ℕ))) → ((x : Option (List ℕ) × List ℕ) → o ≡ Ok x → ⊥) → and_files o f ≡ None
no_files_by (Ok x) f never = absurd (never x refl)
no_files_by (Err e) f never = refl

no_file : (x : Option (List ℕ) × List ℕ) → file_or_end [] ≡ Ok x → ⊥
no_file x is = omega (arith, file_behind [] x is)

no_files : (n : ℕ) → files_by n [] ≡ None
unfolding files_by
no_files zero = refl
no_files (suc n) = no_files_by (file_or_end []) (files_by n) no_file

files_enough : (n m : ℕ) (bytes : List ℕ) → length bytes ≤ n → length bytes ≤ m → files_by n bytes ≡ files_by m bytes
unfolding files_by
files_enough n m [] le also = no_files n ∙ sym (no_files m)
files_enough zero m (b ∷ bytes) le also = absurd (omega (arith, le))
files_enough (suc n) zero (b ∷ bytes) le also = absurd (omega (arith, also))
files_enough (suc n) (suc m) (b ∷ bytes) le also =
    files_more_by (file_or_end (b ∷ bytes)) (files_by n) (files_by m)
    (λ x is. files_enough n m x.1 (omega (arith, file_behind (b ∷ bytes) x is, le)) (omega (arith, file_behind (b ∷ bytes) x is, also)))

file_first : (bytes : List ℕ) (x : Option (List ℕ) × List ℕ) → file_or_end bytes ≡ Ok x → files_in bytes ≡ with_file x.0 (files_in x.1)
unfolding files_by
file_first [] x is = absurd (no_file x is)
file_first (b ∷ bytes) x is =
    ap (λ r. and_files r (files_by (length bytes))) is
    ∙ ap (with_file x.0) (files_enough (length bytes) (length x.1) x.1 (omega (arith, file_behind (b ∷ bytes) x is)) (omega arith))

files_broken : (bytes : List ℕ) (e : Broken) → file_or_end bytes ≡ Err e → files_in bytes ≡ None
unfolding files_by
files_broken [] e is = no_files 0
files_broken (b ∷ bytes) e is = ap (λ r. and_files r (files_by (length bytes))) is

-- ---- files so far

-- files in front of others, if those have an end
abbrev pub in_front : List (List ℕ) → Option (List (List ℕ)) → Option (List (List ℕ))
in_front files others = option_map (λ names. files ++ names) others

pub starts : (others : Option (List (List ℕ))) → others ≡ in_front [] others
starts None = refl
starts (Some names) = refl

step_by : (files : List (List ℕ)) (name : List ℕ) (others : Option (List (List ℕ))) → in_front files (option_map (λ names. name ∷ names) others) ≡ in_front (files ++ name ∷ []) others
step_by files name None = refl
step_by files name (Some names) = ap Some (sym (append_assoc files (name ∷ []) names))

pub file_step : (all : Option (List (List ℕ))) (files more : List (List ℕ)) (bytes name rest : List ℕ) → all ≡ in_front files (files_in bytes) → file_or_end bytes ≡ Ok (Some name, rest) → more ≡ files ++ name ∷ []
    → all ≡ in_front more (files_in rest)
file_step all files more bytes name rest so_far is pushed =
    so_far ∙ ap (in_front files) (file_first bytes (Some name, rest) is) ∙ step_by files name (files_in rest) ∙ ap (λ fs. in_front fs (files_in rest)) (sym pushed)

pub files_end : (all : Option (List (List ℕ))) (files : List (List ℕ)) (bytes rest : List ℕ) → all ≡ in_front files (files_in bytes) → file_or_end bytes ≡ Ok (None, rest) → Some files ≡ all
files_end all files bytes rest so_far is = sym (so_far ∙ ap (in_front files) (file_first bytes (None, rest) is) ∙ ap Some (append-nil files))

pub files_cut : (all : Option (List (List ℕ))) (files : List (List ℕ)) (bytes : List ℕ) (e : Broken) → all ≡ in_front files (files_in bytes) → file_or_end bytes ≡ Err e → None ≡ all
files_cut all files bytes e so_far is = sym (so_far ∙ ap (in_front files) (files_broken bytes e is))
