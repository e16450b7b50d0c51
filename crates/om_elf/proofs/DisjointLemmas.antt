-- Spans of which no number is in two, in any order.
use Rattle.std.proofs.Common.{◌≡◌, ℕ, ◌+◌, ◌<◌, ◌≤◌, Bool, true, false, cond, ltb, leb, ◌&&◌, max, min, List, [], ◌∷◌, Some, None, length, refl, sym, ap, ◌∙◌, arith, count_by, subst, take, get_or}
use Rattle.std.specs.Prelude.{position}
use Rattle.std.specs.List.Sorted.{IsPermutation}
use Rattle.std.specs.Option.{option_map, option_or}
use Rattle.std.proofs.lemmas.Bool.Decides.{nat_tests}
use Rattle.std.proofs.lemmas.List.{take_all}
use Rattle.std.proofs.lemmas.List.Sorted.{sum_by-IsPermutation}
use Rattle.std.proofs.lemmas.List.Sums.{sum_by-cons, sum_by_more}
use Rattle.om_base.specs.Spans.{overlap_of, shares}
use Rattle.om_base.specs.declared.span.Span.{Span}
use Rattle.om_base.proofs.PlaceLemmas.{position_cons}
use Rattle.om_base.proofs.SpanLemmas.{overlap_from, overlap_cons, overlap_nil, overlap_of-from}
use Rattle.om_elf.specs.Disjoint.{AreDisjoint, has}

-- one more span
count_cons : (n : ℕ) (s : Span) (spans : List Span) → count_by (has n) (s ∷ spans) ≡ cond (has n s) 1 0 + count_by (has n) spans
count_cons n s spans = sum_by-cons (λ x. cond (has n x) 1 0) s spans

-- the greater beginning is in both of two spans that share a number
in_both : (a b c d : ℕ) → ltb (max a b) (min c d) ≡ true → ((leb a (max a b) && ltb (max a b) c) ≡ true) × ((leb b (max a b) && ltb (max a b) d) ≡ true)
in_both a b c d share = (grind (arith, nat_tests), grind (arith, nat_tests))

too_many : (b : Bool) (n : ℕ) → b ≡ true → cond b 1 0 + n ≡ 0 → ⊥
too_many b n is none = grind arith

later_none : (b : Bool) (n : ℕ) → cond b 1 0 + n ≡ 0 → n ≡ 0
later_none b n none = omega arith

at_most_more : (b : Bool) (n : ℕ) → b ≡ true → cond b 1 0 + n ≤ 1 → n ≡ 0
at_most_more b n is few = grind arith

fewer : (b : Bool) (n : ℕ) → cond b 1 0 + n ≤ 1 → n ≤ 1
fewer b n few = omega arith

not_true : (b : Bool) → (b ≡ true → ⊥) → b ≡ false
not_true true never = absurd (never refl)
not_true false never = refl

-- a span shares no number with any of some spans that have none of its numbers
alone : (s : Span) (spans : List Span) → ((n : ℕ) → has n s ≡ true → count_by (has n) spans ≡ 0) → position (shares s) spans ≡ None
alone s [] none = refl
alone s (t ∷ spans) none =
    let unshared : shares s t ≡ false = not_true (shares s t) (λ share.
    let both = in_both s.lo t.lo s.hi t.hi share in
    let n = max s.lo t.lo in
    too_many (has n t) (count_by (has n) spans) both.1 (sym (count_cons n t spans) ∙ none n both.0)) in
    let others : position (shares s) spans ≡ None = alone s spans (λ n in'. later_none (has n t) (count_by (has n) spans) (sym (count_cons n t spans) ∙ none n in')) in
    position_cons (shares s) t spans ∙ ap (λ b. cond b (Some 0) (option_map (λ k. k + 1) (position (shares s) spans))) unshared ∙ ap (option_map (λ k. k + 1)) others

apart_from : (n : ℕ) (spans : List Span) → AreDisjoint spans → overlap_from n spans ≡ None
apart_from n [] disjoint = overlap_nil n [] refl
apart_from n (s ∷ spans) disjoint =
    let first : position (shares s) spans ≡ None = alone s spans (λ m in'. at_most_more (has m s) (count_by (has m) spans) in' (subst (λ c. c ≤ 1) (count_cons m s spans) (disjoint m))) in
    let others : overlap_from (n + 1) spans ≡ None = apart_from (n + 1) spans (λ m. fewer (has m s) (count_by (has m) spans) (subst (λ c. c ≤ 1) (count_cons m s spans) (disjoint m))) in
    overlap_cons n s spans ∙ ap (λ found. option_or (option_map (λ k. (n, n + 1 + k)) found) (overlap_from (n + 1) spans)) first ∙ others

-- where a list of the same spans in another order is disjoint, no two of them share a number
pub apart_sorted : (spans copy sorted ordered : List Span) → copy ≡ spans → IsPermutation copy sorted → ordered ≡ sorted → AreDisjoint ordered → overlap_of spans ≡ None
apart_sorted spans copy sorted ordered copied same reads disjoint =
    let all : AreDisjoint copy = λ n. subst (λ c. c ≤ 1) (ap (count_by (has n)) reads ∙ sum_by-IsPermutation (λ x. cond (has n x) 1 0) copy sorted same) (disjoint n) in
    ap overlap_of (sym copied) ∙ overlap_of-from copy ∙ apart_from 0 copy all

-- ---- span by span

count_more : (spans : List Span) (i n : ℕ) (d : Span) → i < length spans → count_by (has n) (take (i + 1) spans) ≡ count_by (has n) (take i spans) + cond (has n (get_or spans i d)) 1 0
count_more spans i n d inside = sum_by_more (λ x. cond (has n x) 1 0) spans i d inside

one_more : (lo hi n end count : ℕ) → end ≤ lo → count ≤ 1 → (end ≤ n → count ≡ 0) → count + cond (leb lo n && ltb n hi) 1 0 ≤ 1
one_more lo hi n end count follows few none = grind (arith, nat_tests)

none_past : (lo hi n end count : ℕ) → hi ≤ n → count ≡ 0 → count + cond (leb lo n && ltb n hi) 1 0 ≡ 0
none_past lo hi n end count past none = grind (arith, nat_tests)

pub disjoint_more : (spans : List Span) (i end : ℕ) (d : Span) → i < length spans → end ≤ (get_or spans i d).lo
    → AreDisjoint (take i spans) → ((n : ℕ) → end ≤ n → count_by (has n) (take i spans) ≡ 0) → AreDisjoint (take (i + 1) spans)
disjoint_more spans i end d inside follows few none n =
    let s = get_or spans i d in
    rw (count_more spans i n d inside) (one_more s.lo s.hi n end (count_by (has n) (take i spans)) follows (few n) (none n))

pub past_more : (spans : List Span) (i end new n : ℕ) (d : Span) → i < length spans → new ≡ max end (get_or spans i d).hi → new ≤ n
    → ((m : ℕ) → end ≤ m → count_by (has m) (take i spans) ≡ 0) → count_by (has n) (take (i + 1) spans) ≡ 0
past_more spans i end new n d inside is later none =
    let s = get_or spans i d in
    let old : end ≤ n = omega arith in
    rw (count_more spans i n d inside) (none_past s.lo s.hi n end (count_by (has n) (take i spans)) (omega arith) (none n old))

pub disjoint_all : (spans : List Span) (i : ℕ) → length spans ≤ i → AreDisjoint (take i spans) → AreDisjoint spans
disjoint_all spans i past few = rw take_all at few
