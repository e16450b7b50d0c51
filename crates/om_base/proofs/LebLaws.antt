-- A LEB128 number is read from some bytes exactly where it stands in front of them.
use Rattle.std.proofs.Common.{◌≡◌, ◌↔◌, ℕ, suc, ◌+◌, ◌^◌, ◌<◌, ◌≤◌, Bool, true, false, cond, ◌&&◌, leb, ltb, List, [], ◌∷◌, ◌++◌, length, get_or, take, ℤ, pos, neg_ℤ, ◌≤ℤ◌, ◌<ℤ◌, int_le, int_lt, Ok, Err, refl, sym, ap, subst, ◌∙◌, arith, inl, inr, length-append, length-take}
use Rattle.std.specs.Prelude.{Result, All}
use Rattle.std.specs.List.{position_or_len}
use Rattle.std.proofs.lemmas.Bool.{cases_lt, le-leb, le-ltb, lt-leb, lt-ltb}
use Rattle.std.proofs.lemmas.Bool.Decides.{nat_tests}
use Rattle.std.proofs.lemmas.Int.{ints}
use Rattle.std.proofs.lemmas.List.{take_at}
use Rattle.std.proofs.lemmas.List.Sums.{fails_before_first}
use Rattle.om_base.specs.Leb.{IsLeb, IsSleb, IsUleb, is_last, leb_of, result_then, signed_in, signed_of, sleb_of, sum_of, uleb_of, unsigned_in}
use Rattle.om_base.specs.Reading.{IsReading, with_rest}
use Rattle.om_base.specs.declared.numbers.Num.{Num}
use Rattle.om_base.specs.declared.numbers.Num.TheVariants.{LebLong, Short}
use Rattle.om_base.proofs.LebLemmas.{leb_short}
use Rattle.om_base.proofs.ReadingLaws.{counted, ok_is}

-- ---- the bytes

more : (b : ℕ) (bs : List ℕ) → 128 ≤ b → IsLeb bs → IsLeb (b ∷ bs)
more b [] high is = absurd is
more b (c ∷ bs) high is = (high, is)

first_is : (b : ℕ) (bs : List ℕ) → b < 128 → position_or_len is_last (b ∷ bs) ≡ 0
first_is b bs low = rw (lt-ltb b 128 low) refl

first_after : (b : ℕ) (bs : List ℕ) → 128 ≤ b → position_or_len is_last (b ∷ bs) ≡ 1 + position_or_len is_last bs
first_after b bs high = rw (le-ltb b 128 high) refl

-- what is cut after the first last byte ends with the only one
ends_once : (bytes : List ℕ) → position_or_len is_last bytes < length bytes → IsLeb (take (position_or_len is_last bytes + 1) bytes)
ends_once [] inside = absurd (omega arith)
ends_once (b ∷ bs) inside =
    elim (cases_lt b 128) [
      | inl low ↦ subst (λ n. IsLeb (take (n + 1) (b ∷ bs))) (sym (first_is b bs low)) low
      | inr high ↦ (
          let next = first_after b bs high in
          let size : position_or_len is_last (b ∷ bs) + 1 ≡ suc (position_or_len is_last bs + 1) = omega arith in
          subst (λ n. IsLeb (take n (b ∷ bs))) (sym size) (more b (take (position_or_len is_last bs + 1) bs) high (ends_once bs (omega arith))))
    ]

-- and what so ends is cut after its first last byte
place_of : (text rest : List ℕ) → IsLeb text → position_or_len is_last (text ++ rest) + 1 ≡ length text
place_of [] rest is = absurd is
place_of (b ∷ []) rest low = let next = first_is b rest low in omega arith
place_of (b ∷ c ∷ bs) rest is =
    let next = first_after b ((c ∷ bs) ++ rest) is.0 in
    let others = place_of (c ∷ bs) rest is.1 in
    omega arith

chosen : (p len : ℕ) (cut text : List ℕ) → cond (leb 10 p) (Err LebLong) (cond (leb len p) (Err Short) (Ok cut)) ≡ Ok text → (p < 10) × (p < len) × (cut ≡ text)
chosen p len cut text e =
    elim (cases_lt p 10) [
      | inl few ↦ elim (cases_lt p len) [
        | inl inside ↦ (let e' = rw (lt-leb 10 p few, lt-leb len p inside) at e in (few, inside, cc))
        | inr past ↦ (let e' = rw (lt-leb 10 p few, le-leb len p past) at e in absurd cc)
      ]
      | inr many ↦ (let e' = rw (le-leb 10 p many) at e in absurd cc)
    ]

pub record StandsIn (text bytes : List ℕ) : Type 0 where
  pub leb : IsLeb text
  pub few : length text ≤ 10
  pub front : take (length text) bytes ≡ text
  pub within : length text ≤ length bytes

leb_takes : (bytes text : List ℕ) → leb_of bytes ≡ Ok text → StandsIn text bytes
unfolding leb_of
leb_takes bytes text e =
    let p = position_or_len is_last bytes in
    let is = chosen p (length bytes) (take (p + 1) bytes) text e in
    let size : length text ≡ p + 1 = omega (arith, ap length is.2, length-take (p + 1) bytes) in
    record { leb = subst IsLeb is.2 (ends_once bytes is.1); few = omega arith; front = ap (λ n. take n bytes) size ∙ is.2; within = omega arith }

leb_again : (text rest : List ℕ) → IsLeb text → length text ≤ 10 → leb_of (text ++ rest) ≡ Ok text
unfolding leb_of
leb_again text rest is few =
    let p = position_or_len is_last (text ++ rest) in
    let size : p + 1 ≡ length text = place_of text rest is in
    let inside : p < length (text ++ rest) = omega (arith, length-append text rest) in
    let below : p < 10 = omega arith in
    rw (lt-leb 10 p below, lt-leb (length (text ++ rest)) p inside) (ap Ok (take_at text rest (p + 1) (sym size)))

is_high : (b : ℕ) → is_last b ≡ false → 128 ≤ b
is_high b e = grind (arith, nat_tests)

-- ---- the values

then_ok : {A B E : Type 0} (f : A → Result B E) (r : Result A E) (y : B) → result_then f r ≡ Ok y → (x : A) × (r ≡ Ok x) × (f x ≡ Ok y)
then_ok f (Ok x) y e = (x, refl, e)
then_ok f (Err fault) y e = absurd cc

kept : {A : Type 0} (passes : Bool) (value read : A) (size count : ℕ) → cond {A = Result (A × ℕ) Num} passes (Ok (value, size)) (Err LebLong) ≡ Ok (read, count)
    → (passes ≡ true) × (read ≡ value) × (count ≡ size)
kept true value read size count e =
    let pairs : (value, size) ≡ (read, count) = ok_is (value, size) (read, count) e in
    (refl, sym (ap (λ p. p.0) pairs), sym (ap (λ p. p.1) pairs))
kept false value read size count e = absurd cc

cut_is : (text bytes : List ℕ) (size : ℕ) → StandsIn text bytes → size ≡ length text → text ≡ take size bytes
cut_is text bytes size stands is = sym (ap (λ n. take n bytes) is ∙ stands.front)

is_below : (n high : ℕ) → ltb n high ≡ true → n < high
is_below n high e = grind (arith, nat_tests)

uleb_taken : (bytes : List ℕ) (n size : ℕ) → uleb_of bytes ≡ Ok (n, size) → IsUleb (take size bytes) n
unfolding uleb_of
uleb_taken bytes n size e =
    let text = then_ok unsigned_in (leb_of bytes) (n, size) e in
    let stands = leb_takes bytes text.0 text.1 in
    let value = kept (ltb (sum_of text.0) (2 ^ 64)) (sum_of text.0) n (length text.0) size text.2 in
    let fits = is_below (sum_of text.0) (2 ^ 64) value.0 in
    subst (λ front. IsUleb front n) (cut_is text.0 bytes size stands value.2)
    (record { leb = stands.leb; few = stands.few; value = value.1; fits = omega arith })

uleb_told : (text rest : List ℕ) (n : ℕ) → IsUleb text n → uleb_of (text ++ rest) ≡ Ok (n, length text)
unfolding uleb_of
uleb_told text rest n is =
    let fits : sum_of text < 2 ^ 64 = omega (arith, is.value, is.fits) in
    rw (leb_again text rest is.leb is.few, lt-ltb (sum_of text) (2 ^ 64) fits) (ap (λ m. Ok (m, length text)) (sym is.value))

pub uleb_reads : IsReading (with_rest uleb_of) IsUleb
uleb_reads = counted uleb_taken uleb_told

within : (low z high : ℤ) → (int_le low z && int_lt z high) ≡ true → (low ≤ℤ z) × (z <ℤ high)
within low z high e = grind (arith, nat_tests, ints)

is_within : (low z high : ℤ) → low ≤ℤ z → z <ℤ high → (int_le low z && int_lt z high) ≡ true
is_within low z high above below = grind (arith, nat_tests, ints)

sleb_taken : (bytes : List ℕ) (z : ℤ) (size : ℕ) → sleb_of bytes ≡ Ok (z, size) → IsSleb (take size bytes) z
unfolding sleb_of
sleb_taken bytes z size e =
    let text = then_ok signed_in (leb_of bytes) (z, size) e in
    let stands = leb_takes bytes text.0 text.1 in
    let value = kept (int_le (neg_ℤ (pos (2 ^ 63))) (signed_of text.0) && int_lt (signed_of text.0) (pos (2 ^ 63))) (signed_of text.0) z (length text.0) size text.2 in
    let fits = within (neg_ℤ (pos (2 ^ 63))) (signed_of text.0) (pos (2 ^ 63)) value.0 in
    subst (λ front. IsSleb front z) (cut_is text.0 bytes size stands value.2)
    (record { leb = stands.leb; few = stands.few; value = value.1; low = subst (λ y. neg_ℤ (pos (2 ^ 63)) ≤ℤ y) (sym value.1) fits.0; high = subst (λ y. y <ℤ pos (2 ^ 63)) (sym value.1) fits.1 })

sleb_told : (text rest : List ℕ) (z : ℤ) → IsSleb text z → sleb_of (text ++ rest) ≡ Ok (z, length text)
unfolding sleb_of
sleb_told text rest z is =
    let low = subst (λ y. neg_ℤ (pos (2 ^ 63)) ≤ℤ y) is.value is.low in
    let high = subst (λ y. y <ℤ pos (2 ^ 63)) is.value is.high in
    rw (leb_again text rest is.leb is.few, is_within (neg_ℤ (pos (2 ^ 63))) (signed_of text) (pos (2 ^ 63)) low high) (ap (λ y. Ok (y, length text)) (sym is.value))

pub sleb_reads : IsReading (with_rest sleb_of) IsSleb
sleb_reads = counted sleb_taken sleb_told

-- ---- where it breaks off

broken : (p len : ℕ) (cut : List ℕ) → cond (leb 10 p) (Err LebLong) (cond (leb len p) (Err Short) (Ok cut)) ≡ Err Short → (p < 10) × (len ≤ p)
broken p len cut e =
    elim (cases_lt p 10) [
      | inl few ↦ elim (cases_lt p len) [
        | inl inside ↦ (let e' = rw (lt-leb 10 p few, lt-leb len p inside) at e in absurd cc)
        | inr past ↦ (few, past)
      ]
      | inr many ↦ (let e' = rw (le-leb 10 p many) at e in absurd cc)
    ]

all_high : (bytes : List ℕ) → leb_of bytes ≡ Err Short → All (λ b. 128 ≤ b) bytes × (length bytes < 10)
unfolding leb_of
all_high bytes e =
    let p = position_or_len is_last bytes in
    let is = broken p (length bytes) (take (p + 1) bytes) e in
    (λ k d inside. let not_last = fails_before_first is_last bytes k d (omega arith) in is_high (get_or bytes k d) not_last, omega arith)

none_last : (bytes : List ℕ) → All (λ b. 128 ≤ b) bytes → (k : ℕ) → k < length bytes → is_last (get_or bytes k 0) ≡ false
none_last bytes high k inside = le-ltb (get_or bytes k 0) 128 (high k 0 inside)

then_short : {A : Type 0} (f : List ℕ → Result A Num) (r : Result (List ℕ) Num) → ((text : List ℕ) → f text ≡ Err Short → ⊥) → result_then f r ≡ Err Short → r ≡ Err Short
then_short f (Ok text) never e = absurd (never text e)
then_short f (Err fault) never e = cc

not_short : {A : Type 0} (passes : Bool) (value : A × ℕ) → cond passes (Ok value) (Err LebLong) ≡ Err Short → ⊥
not_short true value e = cc
not_short false value e = cc

pub uleb_short : (bytes : List ℕ) → (uleb_of bytes ≡ Err Short) ↔ (All (λ b. 128 ≤ b) bytes × (length bytes < 10))
unfolding uleb_of
uleb_short bytes = (
  λ short. all_high bytes (then_short unsigned_in (leb_of bytes) (λ text. not_short (ltb (sum_of text) (2 ^ 64)) (sum_of text, length text)) short),
  λ all. ap (result_then unsigned_in) (leb_short bytes (none_last bytes all.0) all.1),
)

pub sleb_short : (bytes : List ℕ) → (sleb_of bytes ≡ Err Short) ↔ (All (λ b. 128 ≤ b) bytes × (length bytes < 10))
unfolding sleb_of
sleb_short bytes = (
  λ short. all_high bytes (then_short signed_in (leb_of bytes)
      (λ text. not_short (int_le (neg_ℤ (pos (2 ^ 63))) (signed_of text) && int_lt (signed_of text) (pos (2 ^ 63))) (signed_of text, length text)) short),
  λ all. ap (result_then signed_in) (leb_short bytes (none_last bytes all.0) all.1),
)
