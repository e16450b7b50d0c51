-- The first place at which a test passes.
use Rattle.std.proofs.Common.{◌≡◌, ℕ, suc, ◌+◌, ◌<◌, Bool, true, false, cond, not, ltb, List, ◌∷◌, Option, Some, None, length, get_or, refl, sym, ap, ◌∙◌, arith}
use Rattle.std.specs.Prelude.{position}
use Rattle.std.specs.List.{position_or_len}
use Rattle.std.specs.Option.{option_map}
use Rattle.std.proofs.lemmas.Bool.{lt-ltb, le-ltb}
use Rattle.std.proofs.lemmas.Bool.Decides.{nat_tests}
use Rattle.std.proofs.lemmas.List.Sums.{position_or_len_is}
use Rattle.memchr.specs.Find.{IsFirstByte}

position_by : (passes : Bool) (n len : ℕ) → cond (ltb (cond (not passes) (1 + n) 0) (suc len)) (Some (cond (not passes) (1 + n) 0)) None ≡ cond passes (Some 0) (option_map (λ k. k + 1) (cond (ltb n len) (Some n) None))
position_by true n len = grind (arith, nat_tests)
position_by false n len = grind (arith, nat_tests)

-- the first place, element by element
pub position_cons : {X : Type 0} (test : X → Bool) (x : X) (xs : List X) → position test (x ∷ xs) ≡ cond (test x) (Some 0) (option_map (λ k. k + 1) (position test xs))
position_cons test x xs = position_by (test x) (position_or_len test xs) (length xs)

-- a test that doesn't pass fails
pub fails : (b : Bool) → (b ≡ true → ⊥) → b ≡ false
fails true never = absurd (never refl)
fails false never = refl

some_place : (n len : ℕ) → n < len → Some n ≡ cond (ltb n len) (Some n) None
some_place n len lt = rw (lt-ltb n len lt) refl

no_place : (n len : ℕ) → n ≡ len → None ≡ cond (ltb n len) (Some n) None
no_place n len same = rw (le-ltb n len (omega arith)) refl

-- the first byte that passes a test, as its place
pub first_byte : (test : ℕ → Bool) (hay : List ℕ) (r : Option ℕ) → IsFirstByte test hay r → r ≡ position test hay
first_byte test hay None none =
    let at : position_or_len test hay ≡ length hay =
    position_or_len_is test hay (length hay) 0 (omega arith) (λ k lt. fails (test (get_or hay k 0)) (none k (omega arith) lt)) (λ lt. absurd (omega arith)) in
    no_place (position_or_len test hay) (length hay) at
first_byte test hay (Some k) found =
    let inside : k < length hay = found.0.high in
    let at : position_or_len test hay ≡ k =
    position_or_len_is test hay k 0 (omega arith) (λ q lt. fails (test (get_or hay q 0)) (found.0.before q (omega arith) lt)) (λ _. found.1) in
    ap Some (sym at) ∙ some_place (position_or_len test hay) (length hay) (omega arith)
