-- A number of a fixed width, and a text, are read from some bytes exactly where they stand in front of them.
use Rattle.std.proofs.Common.{◌≡◌, ◌≢◌, ℕ, ◌+◌, ◌<◌, ◌≤◌, Bool, true, false, cond, nat_eq, leb, ltb, List, [], ◌∷◌, ◌++◌, length, get_or, take, drop, Option, Some, None, Ok, Err, ok_or, refl, sym, ap, subst, ◌∙◌, arith, inl, inr, length-append, length-drop, length-take, append_assoc}
use Rattle.std.specs.Prelude.{All, Result, position}
use Rattle.std.specs.List.{position_or_len}
use Rattle.std.specs.Option.{option_map}
use Rattle.std.proofs.lemmas.Bool.{cases_lt, eq-eqb, eqb-false, eqb-true, le-leb, leb-true, lt-leb, lt-ltb}
use Rattle.std.proofs.lemmas.Bool.Decides.{nat_tests}
use Rattle.std.proofs.lemmas.List.{get_or-take, get_or_append_left, get_or_at, take_at, take_more}
use Rattle.std.proofs.lemmas.List.Sums.{fails_before_first, passes_at_first, position_or_len_is}
use Rattle.om_base.specs.Leb.{from_place}
use Rattle.om_base.specs.Nul.{nul_from}
use Rattle.om_base.specs.Numbers.{le, number_at}
use Rattle.om_base.specs.Reading.{IsNumber, IsReading, IsText, number_of, text_of, with_rest}
use Rattle.om_base.specs.declared.numbers.Num.{Num}
use Rattle.om_base.specs.declared.numbers.Num.TheVariants.{NoNul, Short}
use Rattle.om_base.proofs.PlaceLemmas.{fails}
use Rattle.om_base.proofs.ReadingLaws.{counted, ok_is}

-- ---- numbers

number_by : (passes : Bool) (width : ℕ) (field : List ℕ) (n size : ℕ)
    → ◌≡◌ {A = Result (ℕ × ℕ) Num} (ok_or (option_map (λ (m : ℕ). (m, width)) (option_map le (cond passes (Some field) None))) Short) (Ok (n, size))
    → (passes ≡ true) × (n ≡ le field) × (size ≡ width)
number_by true width field n size e =
    let pairs : (le field, width) ≡ (n, size) = ok_is (le field, width) (n, size) e in
    (refl, sym (ap (λ p. p.0) pairs), sym (ap (λ p. p.1) pairs))
number_by false width field n size e = absurd cc

number_taken : (width : ℕ) (bytes : List ℕ) (n size : ℕ) → number_of width bytes ≡ Ok (n, size) → IsNumber width (take size bytes) n
unfolding number_at
number_taken width bytes n size e =
    let is = number_by (leb (0 + width) (length bytes)) width (take width bytes) n size e in
    let whole = leb-true (0 + width) (length bytes) is.0 in
    let long : length (take width bytes) ≡ width = omega (arith, length-take width bytes) in
    subst (λ k. IsNumber width (take k bytes) n) (sym is.2) (record { size = long; value = is.1 })

number_told : (width : ℕ) (text rest : List ℕ) (n : ℕ) → IsNumber width text n → number_of width (text ++ rest) ≡ Ok (n, length text)
unfolding number_at
number_told width text rest n is =
    let long : 0 + width ≤ length (text ++ rest) = omega (arith, length-append text rest, is.size) in
    rw (le-leb (0 + width) (length (text ++ rest)) long, take_at text rest width is.size, is.size, is.value) refl

pub number_reads : (width : ℕ) → IsReading (with_rest (number_of width)) (IsNumber width)
number_reads width = counted (number_taken width) (number_told width)

-- ---- texts

text_by : (passes : Bool) (at : ℕ) (bytes name : List ℕ) (size : ℕ)
    → ◌≡◌ {A = Result (List ℕ × ℕ) Num} (ok_or (option_map (λ (k : ℕ). (take k bytes, k + 1)) (option_map (λ (k : ℕ). 0 + k) (cond passes (Some at) None))) NoNul) (Ok (name, size))
    → (passes ≡ true) × (name ≡ take (0 + at) bytes) × (size ≡ 0 + at + 1)
text_by true at bytes name size e =
    let pairs : (take (0 + at) bytes, 0 + at + 1) ≡ (name, size) = ok_is (take (0 + at) bytes, 0 + at + 1) (name, size) e in
    (refl, sym (ap (λ p. p.0) pairs), sym (ap (λ p. p.1) pairs))
text_by false at bytes name size e = absurd cc

not_zero : (b : ℕ) → nat_eq b 0 ≡ false → b ≢ 0
not_zero b e = eqb-false b 0 e

no_zero_before : (bytes : List ℕ) (at : ℕ) → at ≡ position_or_len (λ b. nat_eq b 0) bytes → at ≤ length bytes → All (λ b. b ≢ 0) (take at bytes)
no_zero_before bytes at is inside k d before =
    let below : k < at = omega (arith, length-take at bytes) in
    let there : get_or (take at bytes) k d ≡ get_or bytes k d = get_or-take at bytes k d below in
    let first = fails_before_first (λ b. nat_eq b 0) bytes k d (omega arith) in
    subst (λ b. b ≢ 0) (sym there) (not_zero (get_or bytes k d) first)

text_taken : (bytes name : List ℕ) (size : ℕ) → text_of bytes ≡ Ok (name, size) → IsText (take size bytes) name
unfolding nul_from
text_taken bytes name size e =
    let at = position_or_len (λ b. nat_eq b 0) bytes in
    let is = text_by (ltb at (length bytes)) at bytes name size e in
    let inside : at < length bytes = grind (arith, nat_tests, is.0) in
    let front : name ≡ take at bytes = is.1 ∙ ap (λ n. take n bytes) (omega arith) in
    let count : size ≡ at + 1 = omega (arith, is.2) in
    let zero : get_or bytes at 0 ≡ 0 = eqb-true (get_or bytes at 0) 0 (passes_at_first (λ b. nat_eq b 0) bytes 0 inside) in
    let ends : take size bytes ≡ name ++ 0 ∷ [] =
    ap (λ n. take n bytes) count ∙ take_more bytes at 0 inside ∙ ap (λ b. take at bytes ++ b ∷ []) zero ∙ ap (λ xs. xs ++ 0 ∷ []) (sym front) in
    record { no_zero = subst (All (λ b. b ≢ 0)) (sym front) (no_zero_before bytes at refl (omega arith)); ends = ends }

place_told : (name rest : List ℕ) → All (λ b. b ≢ 0) name → position_or_len (λ b. nat_eq b 0) (name ++ 0 ∷ rest) ≡ length name
place_told name rest no_zero =
    position_or_len_is (λ b. nat_eq b 0) (name ++ 0 ∷ rest) (length name) 0 (omega (arith, length-append name (0 ∷ rest)))
    (λ k before. fails (nat_eq (get_or (name ++ 0 ∷ rest) k 0) 0)
    (λ e. no_zero k 0 before (sym (get_or_append_left name (0 ∷ rest) 0 k before) ∙ eqb-true (get_or (name ++ 0 ∷ rest) k 0) 0 e)))
    (λ _. eq-eqb (get_or (name ++ 0 ∷ rest) (length name) 0) 0 (get_or_at name 0 rest 0 (length name) refl))

text_at : (name rest : List ℕ) → All (λ b. b ≢ 0) name → text_of (name ++ 0 ∷ rest) ≡ Ok (name, length name + 1)
unfolding nul_from
text_at name rest no_zero =
    let place = place_told name rest no_zero in
    let inside : length name < length (name ++ 0 ∷ rest) = omega (arith, length-append name (0 ∷ rest)) in
    let plain : 0 + length name ≡ length name = omega arith in
    rw (place, lt-ltb (length name) (length (name ++ 0 ∷ rest)) inside, plain, take_at name (0 ∷ rest) (length name) refl) refl

text_told : (text rest name : List ℕ) → IsText text name → text_of (text ++ rest) ≡ Ok (name, length text)
text_told text rest name is =
    let whole : text ++ rest ≡ name ++ 0 ∷ rest = ap (λ xs. xs ++ rest) is.ends ∙ append_assoc name (0 ∷ []) rest in
    let count : length name + 1 ≡ length text = omega (arith, ap length is.ends, length-append name (0 ∷ [])) in
    ap text_of whole ∙ text_at name rest is.no_zero ∙ ap (λ n. Ok (name, n)) count

pub text_reads : IsReading (with_rest text_of) IsText
text_reads = counted text_taken text_told

-- ---- from a place on

pub number_from : (width at : ℕ) (bytes : List ℕ) → 0 < width → number_at width bytes at ≡ number_at width (drop at bytes) 0
unfolding number_at
number_from width at bytes some =
    elim (cases_lt (length bytes) (at + width)) [
      | inl short ↦ rw (lt-leb (at + width) (length bytes) short, lt-leb (0 + width) (length (drop at bytes)) (omega (arith, length-drop at bytes))) refl
      | inr long ↦ rw (le-leb (at + width) (length bytes) long, le-leb (0 + width) (length (drop at bytes)) (omega (arith, length-drop at bytes))) refl
    ]

plain_place : (at : ℕ) (place : Option ℕ) → option_map (λ k. at + k) place ≡ option_map (λ k. at + k) (option_map (λ k. 0 + k) place)
plain_place at None = refl
plain_place at (Some k) = let plain : 0 + k ≡ k = omega arith in rw plain refl

pub nul_after : (at : ℕ) (bytes : List ℕ) → nul_from at bytes ≡ option_map (λ k. at + k) (nul_from 0 (drop at bytes))
unfolding nul_from
nul_after at bytes = plain_place at (position (λ b. nat_eq b 0) (drop at bytes))

-- from the start on
pub from_start : {A E : Type 0} (read : Result (A × ℕ) E) → from_place 0 read ≡ read
from_start (Ok x) = let plain : 0 + x.1 ≡ x.1 = omega arith in rw plain refl
from_start (Err fault) = refl
