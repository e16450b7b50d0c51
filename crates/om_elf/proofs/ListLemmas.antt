-- The first place at which a test passes.
use Rattle.std.proofs.Common.{◌≡◌, ℕ, suc, ◌+◌, ◌<◌, ◌≤◌, Bool, true, false, cond, ltb, List, [], ◌∷◌, ◌++◌, Some, None, map, length, refl, sym, ap, ◌∙◌, arith}
use Rattle.std.specs.Prelude.{Option, All, position}
use Rattle.std.specs.List.{position_or_len}
use Rattle.std.specs.Option.{option_map, option_or}
use Rattle.std.proofs.lemmas.Bool.Decides.{nat_tests}
use Rattle.std.proofs.lemmas.List.Elements.{All-nil, All-cons, All-head, All-tail}
use Rattle.std.proofs.lemmas.List.Sums.{fails_before_first}
use Rattle.om_base.proofs.PlaceLemmas.{position_cons}

no_place : (at len : ℕ) → cond (ltb at len) (Some at) None ≡ None → len ≤ at
no_place at len none = grind (arith, nat_tests)

-- where there is no first place, the test passes nowhere
pub fails_everywhere : {X : Type 0} (test : X → Bool) (xs : List X) → position test xs ≡ None → All (λ x. test x ≡ false) xs
fails_everywhere test xs none k d inside =
    let past = no_place (position_or_len test xs) (length xs) none in
    fails_before_first test xs k d (omega arith)

some_place : (at len place : ℕ) → cond (ltb at len) (Some at) None ≡ Some place → place < len
some_place at len place is = grind (arith, nat_tests)

-- the first place is one of the list
pub position_within : {X : Type 0} (test : X → Bool) (xs : List X) (place : ℕ) → position test xs ≡ Some place → place < length xs
position_within test xs place is = some_place (position_or_len test xs) (length xs) place is

same_or : (found : Option ℕ) → found ≡ option_map (λ k. 0 + k) found
same_or None = refl
same_or (Some k) = ap Some (omega arith)

append_by : (passes : Bool) (n : ℕ) (first second : Option ℕ)
    → cond passes (Some 0) (option_map (λ k. k + 1) (option_or first (option_map (λ k. n + k) second)))
    ≡ option_or (cond passes (Some 0) (option_map (λ k. k + 1) first)) (option_map (λ k. suc n + k) second)
append_by true n first second = refl
append_by false n None None = refl
append_by false n None (Some k) = ap Some (omega arith)
append_by false n (Some k) second = refl

-- the first place in two lists, one after the other
pub position-append : {X : Type 0} (test : X → Bool) (xs ys : List X)
    → position test (xs ++ ys) ≡ option_or (position test xs) (option_map (λ k. length xs + k) (position test ys))
position-append test [] ys = same_or (position test ys)
position-append test (x ∷ xs) ys =
    position_cons test x (xs ++ ys)
    ∙ ap (λ found. cond (test x) (Some 0) (option_map (λ k. k + 1) found)) (position-append test xs ys)
    ∙ append_by (test x) (length xs) (position test xs) (position test ys)
    ∙ ap (λ found. option_or found (option_map (λ k. suc (length xs) + k) (position test ys))) (sym (position_cons test x xs))

-- ---- options

pub none_before : {A B : Type 0} (f : A → B) (found : Option A) → option_map f found ≡ None → found ≡ None
none_before f None none = refl
none_before f (Some x) none = absurd (cc)

-- ---- lists

pub All-of_map : {X Y : Type 0} (P : X → Type 0) (f : Y → X) (ys : List Y) → All P (map f ys) → All (λ y. P (f y)) ys
All-of_map P f [] all = All-nil (λ y. P (f y))
All-of_map P f (y ∷ ys) all = All-cons (λ y. P (f y)) y ys (All-head P (f y) (map f ys) all) (All-of_map P f ys (All-tail P (f y) (map f ys) all))
