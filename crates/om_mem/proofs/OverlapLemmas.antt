-- The least pair of regions that share an address, region by region.
use Rattle.std.proofs.Common.{◌≡◌, ℕ, ◌+◌, Bool, true, false, cond, List, [], ◌∷◌, map, refl, sym, ap, ◌∙◌}
use Rattle.std.specs.Prelude.{Option, Some, None, position}
use Rattle.std.specs.Option.{option_map, option_or}
use Rattle.om_base.specs.Spans as spans
use Rattle.om_base.proofs.PlaceLemmas.{position_cons}
use Rattle.om_base.proofs.SpanLemmas as span_lemmas
use Rattle.om_mem.specs.Contents.{overlap_of, span_of}
use Rattle.om_mem.specs.declared.region.Region.{Region}

-- two regions share an address
abbrev pub shares : Region → Region → Bool
shares r s = spans.shares (span_of r) (span_of s)

-- of the places from n on, the least pair whose regions share an address
abbrev pub overlap_from : ℕ → List Region → Option (ℕ × ℕ)
overlap_from n [] = None
overlap_from n (r ∷ rs) =
    option_or (option_map (λ k. (n, n + 1 + k)) (position (shares r) rs)) (overlap_from (n + 1) rs)

position-map : {A B : Type 0} (f : A → B) (test : B → Bool) (xs : List A) → position test (map f xs) ≡ position (λ x. test (f x)) xs
position-map f test [] = refl
position-map f test (x ∷ xs) =
    position_cons test (f x) (map f xs)
    ∙ ap (λ (place : Option ℕ). cond (test (f x)) (Some 0) (option_map (λ k. k + 1) place)) (position-map f test xs)
    ∙ sym (position_cons (λ y. test (f y)) x xs)

overlap_from-spans : (n : ℕ) (rs : List Region) → span_lemmas.overlap_from n (map span_of rs) ≡ overlap_from n rs
overlap_from-spans n [] = span_lemmas.overlap_nil n [] refl
overlap_from-spans n (r ∷ rs) =
    span_lemmas.overlap_cons n (span_of r) (map span_of rs)
    ∙ ap (λ (place : Option ℕ). option_or (option_map (λ k. (n, n + 1 + k)) place) (span_lemmas.overlap_from (n + 1) (map span_of rs))) (position-map span_of (spans.shares (span_of r)) rs)
    ∙ ap (option_or (option_map (λ k. (n, n + 1 + k)) (position (shares r) rs))) (overlap_from-spans (n + 1) rs)

-- the least pair of all places
pub overlap_of-from : (rs : List Region) → overlap_of rs ≡ overlap_from 0 rs
overlap_of-from rs = span_lemmas.overlap_of-from (map span_of rs) ∙ overlap_from-spans 0 rs

-- where there is no pair, none begins with the first region, and there is none of the others
pub overlap_parts : (n : ℕ) (r : Region) (rs : List Region) → overlap_from n (r ∷ rs) ≡ None → (position (shares r) rs ≡ None) × (overlap_from (n + 1) rs ≡ None)
overlap_parts n r rs none =
    elim (position (shares r) rs) as (λ p. option_or (option_map (λ k. (n, n + 1 + k)) p) (overlap_from (n + 1) rs) ≡ None → (p ≡ None) × (overlap_from (n + 1) rs ≡ None)) [
      | None ↦ λ is. (refl, is)
      | Some k ↦ λ is. absurd (cc)
    ] none

-- what isn't found isn't the first, and isn't behind it
pub position_none : {X : Type 0} (p : X → Bool) (x : X) (xs : List X) → position p (x ∷ xs) ≡ None → (p x ≡ false) × (position p xs ≡ None)
position_none p x xs none = first_fails (p x) (position p xs) (sym (position_cons p x xs) ∙ none)
  where
    first_fails : (b : Bool) (place : Option ℕ) → cond b (Some 0) (option_map (λ k. k + 1) place) ≡ None → (b ≡ false) × (place ≡ None)
    first_fails true place e = absurd (cc)
    first_fails false None e = (refl, refl)
    first_fails false (Some k) e = absurd (cc)
