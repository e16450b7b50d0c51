-- The bytes of a LEB128 number, one by one.
use Rattle.std.proofs.Common.{◌≡◌, ℕ, suc, ◌+◌, ◌*◌, ◌%◌, ◌^◌, ◌<◌, ◌≤◌, true, false, List, [], ◌∷◌, ◌++◌, length, get_or, take, pos, Ok, Err, refl, sym, ap, ◌∙◌, arith, length-take, add-one, inl, inr}
use Rattle.std.specs.Prelude.{Result}
use Rattle.std.specs.List.{position_or_len}
use Rattle.std.specs.Result.{result_map_both}
use Rattle.std.proofs.Math.Nat.{mul-le-mul_right, pow-le-pow_right}
use Rattle.std.proofs.lemmas.Bool.{cases_lt, le-leb, lt-leb, lt-ltb, true≢false}
use Rattle.std.proofs.lemmas.List.{take_more}
use Rattle.std.proofs.lemmas.List.Sums.{passes_at_first, position_or_len_is}
use Rattle.om_base.specs.Leb.{is_last, last_of, leb_of, result_then, signed_in, signed_of, sleb_of, sum_of, uleb_of, unsigned_in}
use Rattle.om_base.specs.LebParts.{parts_of, signed_by, unsigned_by}
use Rattle.om_base.specs.declared.leb.Leb.{Leb}
use Rattle.om_base.specs.declared.numbers.Num.{Num}
use Rattle.om_base.specs.declared.numbers.Num.TheVariants.{LebLong, Short}

-- ---- what some bytes spell

pub raised : (n : ℕ) → 128 ^ (n + 1) ≡ 128 ^ n * 128
raised n = rw add-one (omega arith)

heavier : (n s : ℕ) → 128 ^ suc n * s ≡ 128 * (128 ^ n * s)
heavier n s = let more : 128 ^ suc n ≡ 128 * 128 ^ n = omega arith in rw more (grind arith)

pub sum_of-append : (xs ys : List ℕ) → sum_of (xs ++ ys) ≡ sum_of xs + 128 ^ length xs * sum_of ys
unfolding sum_of
sum_of-append [] ys = omega arith
sum_of-append (x ∷ xs) ys =
    let more : x % 128 + 128 * sum_of (xs ++ ys) ≡ x % 128 + 128 * sum_of xs + 128 ^ suc (length xs) * sum_of ys =
    omega (arith, sum_of-append xs ys, heavier (length xs) (sum_of ys)) in
    more

pub sum_below : (xs : List ℕ) → sum_of xs < 128 ^ length xs
unfolding sum_of
sum_below [] = omega arith
sum_below (x ∷ xs) =
    let more : x % 128 + 128 * sum_of xs < 128 ^ suc (length xs) = omega (arith, sum_below xs) in
    more

pub last_of-append : (xs : List ℕ) (b : ℕ) → last_of (xs ++ b ∷ []) ≡ b
unfolding last_of
last_of-append [] b = refl
last_of-append (x ∷ []) b = refl
last_of-append (x ∷ y ∷ xs) b = last_of-append (y ∷ xs) b

one : (b : ℕ) → sum_of (b ∷ []) ≡ b % 128
unfolding sum_of
one b = omega arith

module _ (bytes : List ℕ) (i : ℕ) (inside : i < length bytes) where
  cut : take (i + 1) bytes ≡ take i bytes ++ get_or bytes i 0 ∷ []
  cut = take_more bytes i 0 inside

  pub sum_more : sum_of (take (i + 1) bytes) ≡ sum_of (take i bytes) + get_or bytes i 0 % 128 * 128 ^ i
  sum_more =
      let grown = ap sum_of cut ∙ sum_of-append (take i bytes) (get_or bytes i 0 ∷ []) in
      let size : length (take i bytes) ≡ i = omega (arith, length-take i bytes) in
      let told = rw (size, one (get_or bytes i 0)) at grown in
      omega arith

  pub last_more : last_of (take (i + 1) bytes) ≡ get_or bytes i 0
  last_more = ap last_of cut ∙ last_of-append (take i bytes) (get_or bytes i 0)

-- ---- which bytes stand in front

pub leb_is : (bytes : List ℕ) (i : ℕ) → ((k : ℕ) → k < i → is_last (get_or bytes k 0) ≡ false) → i < length bytes → is_last (get_or bytes i 0) ≡ true
    → i < 10 → leb_of bytes ≡ Ok (take (i + 1) bytes)
unfolding leb_of
leb_is bytes i before inside here few =
    let at : position_or_len is_last bytes ≡ i = position_or_len_is is_last bytes i 0 (omega arith) before (λ _. here) in
    rw (at, lt-leb 10 i few, lt-leb (length bytes) i inside) refl

pub leb_short : (bytes : List ℕ) → ((k : ℕ) → k < length bytes → is_last (get_or bytes k 0) ≡ false) → length bytes < 10 → leb_of bytes ≡ Err Short
unfolding leb_of
leb_short bytes before few =
    let at : position_or_len is_last bytes ≡ length bytes = position_or_len_is is_last bytes (length bytes) 0 (omega arith) before (λ lt. absurd (omega arith)) in
    rw (at, lt-leb 10 (length bytes) few, le-leb (length bytes) (length bytes) (omega arith)) refl

pub leb_long : (bytes : List ℕ) → ((k : ℕ) → k < 10 → is_last (get_or bytes k 0) ≡ false) → 10 ≤ length bytes → leb_of bytes ≡ Err LebLong
unfolding leb_of
leb_long bytes before many =
    elim (cases_lt (position_or_len is_last bytes) 10) [
      | inl lt ↦ absurd (true≢false (sym (passes_at_first is_last bytes 0 (omega arith)) ∙ before (position_or_len is_last bytes) lt))
      | inr ge ↦ rw (le-leb 10 (position_or_len is_last bytes) ge) refl
    ]

-- ---- what the reader keeps

pub parts_are : (bytes : List ℕ) (i sum weight : ℕ) → i < length bytes → sum ≡ sum_of (take i bytes) → weight ≡ 128 ^ i
    → parts_of (take (i + 1) bytes) ≡ record { sum = sum + get_or bytes i 0 % 128 * weight; weight = weight * 128; last = get_or bytes i 0; size = i + 1 }
unfolding parts_of
parts_are bytes i sum weight inside is heavy =
    let size : length (take (i + 1) bytes) ≡ i + 1 = omega (arith, length-take (i + 1) bytes) in
    let whole : sum_of (take (i + 1) bytes) ≡ sum + get_or bytes i 0 % 128 * weight = rw (heavy, is) (sum_more bytes i inside) in
    let more : 128 ^ length (take (i + 1) bytes) ≡ weight * 128 = rw (size, heavy) (raised i) in
    let end = last_more bytes i inside in
    rw (whole, more, size, end) refl

-- the weights of the loop, and those that are raised once more
pub weight_bound : (i : ℕ) → i ≤ 10 → 128 ^ i ≤ 128 ^ 10
weight_bound i few = pow-le-pow_right (omega arith) few

pub weight_fits : (i : ℕ) → i < 10 → 128 ^ i ≤ 128 ^ 9
weight_fits i few = let within : i ≤ 9 = omega arith in pow-le-pow_right (omega arith) within

-- what one byte adds
pub adds_little : (b weight : ℕ) → b % 128 * weight ≤ 127 * weight
adds_little b weight = let small : b % 128 ≤ 127 = omega arith in mul-le-mul_right weight small

-- ---- what the functions answer

pub uleb_byte : (bytes : List ℕ) → 0 < length bytes → get_or bytes 0 0 < 128 → uleb_of bytes ≡ Ok (get_or bytes 0 0, 1)
unfolding uleb_of sum_of
uleb_byte [] some last = absurd (omega arith)
uleb_byte (b ∷ bs) some last =
    let whole : b % 128 + 128 * 0 ≡ b = omega arith in
    rw (leb_is (b ∷ bs) 0 (λ k lt. absurd (omega arith)) some (lt-ltb b 128 last) (omega arith), whole, lt-ltb b (2 ^ 64) (omega arith)) refl

pub sleb_byte : (bytes : List ℕ) → 0 < length bytes → get_or bytes 0 0 < 64 → sleb_of bytes ≡ Ok (pos (get_or bytes 0 0), 1)
unfolding sleb_of signed_of sum_of last_of
sleb_byte [] some last = absurd (omega arith)
sleb_byte (b ∷ bs) some last =
    let whole : b % 128 + 128 * 0 ≡ b = omega arith in
    rw (leb_is (b ∷ bs) 0 (λ k lt. absurd (omega arith)) some (lt-ltb b 128 (omega arith)) (omega arith), whole, lt-ltb b 64 last, lt-ltb b (2 ^ 63) (omega arith)) refl

unsigned_of : (leb : Leb) (front : Result (List ℕ) Num) → Ok leb ≡ result_map_both parts_of (λ fault. fault) front → unsigned_by leb ≡ result_then unsigned_in front
unfolding parts_of
unsigned_of leb (Ok text) is = let same : leb ≡ parts_of text = cc in ap unsigned_by same
unsigned_of leb (Err fault) is = absurd cc

pub uleb_by_parts : (leb : Leb) (bytes : List ℕ) → Ok leb ≡ result_map_both parts_of (λ fault. fault) (leb_of bytes) → unsigned_by leb ≡ uleb_of bytes
unfolding uleb_of
uleb_by_parts leb bytes is = unsigned_of leb (leb_of bytes) is

signed_from : (leb : Leb) (front : Result (List ℕ) Num) → Ok leb ≡ result_map_both parts_of (λ fault. fault) front → signed_by leb ≡ result_then signed_in front
unfolding parts_of signed_of
signed_from leb (Ok text) is = let same : leb ≡ parts_of text = cc in ap signed_by same
signed_from leb (Err fault) is = absurd cc

pub sleb_by_parts : (leb : Leb) (bytes : List ℕ) → Ok leb ≡ result_map_both parts_of (λ fault. fault) (leb_of bytes) → signed_by leb ≡ sleb_of bytes
unfolding sleb_of
sleb_by_parts leb bytes is = signed_from leb (leb_of bytes) is
