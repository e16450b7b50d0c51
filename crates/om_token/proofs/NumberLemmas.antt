-- Reading digits one after the other.
use Rattle.std.proofs.Common.{◌≡◌, ℕ, ◌+◌, ◌*◌, ◌^◌, ◌≤◌, Bool, true, false, cond, List, [], ◌∷◌, Option, Some, None, refl, arith}
use Rattle.std.specs.Prelude.{◌&&◌, fold, nat_lt, if◌then◌else◌}
use Rattle.std.specs.Char.{digit_value, is_digit}
use Rattle.std.specs.List.{list_all}
use Rattle.std.proofs.lemmas.Bool.{le-ltb, ltb-false}
use Rattle.std.proofs.Math.Nat.{mul-le-mul_left}

-- the number that digits write behind those of a value
abbrev pub behind : ℕ → ℕ → List ℕ → ℕ
behind base value digits = fold (λ n digit. n * base + digit_value digit) value digits

-- that number, if there are only digits and it is below 2 ^ 64
abbrev pub number_from : ℕ → ℕ → List ℕ → Option ℕ
number_from base value digits =
    if list_all (λ byte. is_digit byte base) digits && nat_lt (behind base value digits) (2 ^ 64)
    then Some (behind base value digits) else None

both_false : (a b : Bool) (n : ℕ) → b ≡ false → cond (a && b) (Some n) None ≡ None
both_false true b n e = rw e refl
both_false false b n e = refl

grows : (base value : ℕ) (digits : List ℕ) → 1 ≤ base → value ≤ behind base value digits
grows base value [] h = omega arith
grows base value (digit ∷ digits) h =
    let first : value ≤ value * base + digit_value digit = omega (arith, mul-le-mul_left value h) in
    let others = grows base (value * base + digit_value digit) digits h in
    omega (arith, first, others)

-- the number with one more digit, as the loop computes it
abbrev pub next_number : ℕ → ℕ → ℕ → Option ℕ
next_number base value digit =
    if is_digit digit base && nat_lt (value * base + digit_value digit) (2 ^ 64) then Some (value * base + digit_value digit) else None

none : (base value digit : ℕ) (digits : List ℕ) (d b : Bool) → 1 ≤ base → is_digit digit base ≡ d → nat_lt (value * base + digit_value digit) (2 ^ 64) ≡ b
    → cond (d && b) (Some (value * base + digit_value digit)) None ≡ None → number_from base value (digit ∷ digits) ≡ None
none base value digit digits true true h e f n = absurd cc
none base value digit digits false b h e f n = rw e refl
none base value digit digits true false h e f n =
    let more = grows base (value * base + digit_value digit) digits h in
    let big = ltb-false (value * base + digit_value digit) (2 ^ 64) f in
    both_false (list_all (λ byte. is_digit byte base) (digit ∷ digits)) (nat_lt (behind base (value * base + digit_value digit) digits) (2 ^ 64)) _ (le-ltb _ _ (omega (arith, more, big)))

pub number_from-none : (base value digit : ℕ) (digits : List ℕ) → 1 ≤ base → next_number base value digit ≡ None → number_from base value (digit ∷ digits) ≡ None
number_from-none base value digit digits h n = none base value digit digits _ _ h refl refl n

some : (base value digit number : ℕ) (digits : List ℕ) (d b : Bool) → is_digit digit base ≡ d
    → cond (d && b) (Some (value * base + digit_value digit)) None ≡ Some number → number_from base value (digit ∷ digits) ≡ number_from base number digits
some base value digit number digits true true e n =
    let same : value * base + digit_value digit ≡ number = cc in rw (e, same) refl
some base value digit number digits false b e n = absurd cc
some base value digit number digits true false e n = absurd cc

pub number_from-some : (base value digit number : ℕ) (digits : List ℕ) → next_number base value digit ≡ Some number → number_from base value (digit ∷ digits) ≡ number_from base number digits
number_from-some base value digit number digits n = some base value digit number digits _ _ refl n

pub ruleset number_from_steps = (number_from-none, number_from-some)
