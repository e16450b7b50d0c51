-- The least pair of spans that share a number, span by span.
use Rattle.std.proofs.Common.{◌≡◌, ◌↔◌, ℕ, ◌+◌, ◌<◌, ◌≤◌, ltb, max, min, Bool, true, false, cond, List, [], ◌∷◌, Some, None, map, length, refl, sym, ap, ◌∙◌, arith}
use Rattle.std.specs.Prelude.{Option, find, position}
use Rattle.std.specs.List.{enumerate_from}
use Rattle.std.specs.Option.{option_map, option_or}
use Rattle.std.proofs.lemmas.Bool.Decides.{nat_tests}
use Rattle.std.proofs.lemmas.List.Folds.{find-append}
use Rattle.om_base.specs.Spans.{IsIn, first_sharing, overlap_of, pairs, shares}
use Rattle.om_base.specs.declared.span.Span.{Span}
use Rattle.om_base.proofs.PlaceLemmas.{position_cons}

-- of pairs of elements with their places, the first whose elements pass a test, by their places
abbrev first_pair : {X : Type 0} → (X → X → Bool) → List ((ℕ × X) × (ℕ × X)) → Option (ℕ × ℕ)
first_pair test placed = option_map (λ w. (w.0.0, w.1.0)) (find (λ w. test w.0.1 w.1.1) placed)

pair_by : (passes : Bool) (a n : ℕ) (found : Option (ℕ × ℕ)) (place : Option ℕ) → found ≡ option_map (λ k. (a, n + 1 + k)) place
    → cond passes (Some (a, n)) found ≡ option_map (λ k. (a, n + k)) (cond passes (Some 0) (option_map (λ k. k + 1) place))
pair_by true a n found place is = grind arith
pair_by false a n found None is = is
pair_by false a n found (Some k) is = grind arith

map_cond : {A B : Type 0} (f : A → B) (passes : Bool) (x : A) (found : Option A) → option_map f (cond passes (Some x) found) ≡ cond passes (Some (f x)) (option_map f found)
map_cond f true x found = refl
map_cond f false x found = refl

-- of one element and those after it
first_with : {X : Type 0} (test : X → X → Bool) (a n : ℕ) (p : X) (others : List X)
    → first_pair test (map (λ (y : ℕ × X). ((a, p), y)) (enumerate_from n others)) ≡ option_map (λ k. (a, n + k)) (position (test p) others)
first_with test a n p [] = refl
first_with test a n p (q ∷ others) =
    map_cond (λ w. (w.0.0, w.1.0)) (test p q) ((a, p), (n, q)) (find (λ w. test w.0.1 w.1.1) (map (λ y. ((a, p), y)) (enumerate_from (n + 1) others)))
    ∙ pair_by (test p q) a n _ (position (test p) others) (first_with test a (n + 1) p others)
    ∙ ap (option_map (λ k. (a, n + k))) (sym (position_cons (test p) q others))

map_or : {A B : Type 0} (f : A → B) (found other : Option A) → option_map f (option_or found other) ≡ option_or (option_map f found) (option_map f other)
map_or f None other = refl
map_or f (Some x) other = refl

-- the least pair of places from one on
unfoldable pub overlap_from : ℕ → List Span → Option (ℕ × ℕ)
overlap_from n spans = first_sharing (pairs (enumerate_from n spans))

pub overlap_of-from : (spans : List Span) → overlap_of spans ≡ overlap_from 0 spans
unfolding overlap_of overlap_from
overlap_of-from spans = refl

pub overlap_nil : (n : ℕ) (rest : List Span) → length rest ≡ 0 → overlap_from n rest ≡ None
unfolding overlap_from
overlap_nil n [] none = refl
overlap_nil n (p ∷ rest) none = absurd (omega arith)

pub overlap_cons : (n : ℕ) (p : Span) (others : List Span)
    → overlap_from n (p ∷ others) ≡ option_or (option_map (λ k. (n, n + 1 + k)) (position (shares p) others)) (overlap_from (n + 1) others)
unfolding overlap_from
overlap_cons n p others =
    ap (option_map (λ w. (w.0.0, w.1.0))) (find-append (λ w. shares w.0.1 w.1.1) (map (λ y. ((n, p), y)) (enumerate_from (n + 1) others)) (pairs (enumerate_from (n + 1) others)))
    ∙ map_or (λ w. (w.0.0, w.1.0)) (find (λ w. shares w.0.1 w.1.1) (map (λ y. ((n, p), y)) (enumerate_from (n + 1) others))) (find (λ w. shares w.0.1 w.1.1) (pairs (enumerate_from (n + 1) others)))
    ∙ ap (λ x. option_or x (first_sharing (pairs (enumerate_from (n + 1) others)))) (first_with shares n (n + 1) p others)

pub ruleset overlaps = (overlap_of-from, overlap_nil, overlap_cons)

-- ---- a number in both

shared_by : (a b c d : ℕ) → ltb (max a b) (min c d) ≡ true → (a ≤ max a b) × (max a b < c) × (b ≤ max a b) × (max a b < d)
shared_by a b c d e = grind (arith, nat_tests)

sharing : (a b c d n : ℕ) → a ≤ n → n < c → b ≤ n → n < d → ltb (max a b) (min c d) ≡ true
sharing a b c d n = λ from below starts ends. grind (arith, nat_tests)

pub share_where : (a b : Span) → (shares a b ≡ true) ↔ ((n : ℕ) × IsIn a n × IsIn b n)
share_where a b = (
  λ e. let both = shared_by a.lo b.lo a.hi b.hi e in (max a.lo b.lo, (both.0, both.1), (both.2, both.3)),
  λ some. sharing a.lo b.lo a.hi b.hi some.0 some.1.0 some.1.1 some.2.0 some.2.1,
)
