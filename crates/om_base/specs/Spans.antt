-- Which half-open spans have a number in common.
use Rattle.std.specs.Prelude.{ℕ, ◌<◌, ◌≤◌, Bool, nat_lt, min, max, List, [], ◌∷◌, ◌++◌, map, find, Option}
use Rattle.std.specs.List.{enumerate_from}
use Rattle.std.specs.Option.{option_map}
use Rattle.om_base.specs.declared.span.Span.{Span}

-- a number is in a span
abbrev pub IsIn : Span → ℕ → Type 0
IsIn span n = (span.lo ≤ n) × (n < span.hi)

-- some number is in both spans
abbrev pub shares : Span → Span → Bool
shares a b = nat_lt (max a.lo b.lo) (min a.hi b.hi)

-- each element with each later one, in the order of their places
abbrev pub pairs : {X : Type 0} → List X → List (X × X)
pairs [] = []
pairs (x ∷ xs) = map (λ y. (x, y)) xs ++ pairs xs

-- of some spans with their places, the first two that share a number, by their places
abbrev pub first_sharing : List ((ℕ × Span) × (ℕ × Span)) → Option (ℕ × ℕ)
first_sharing placed = option_map (λ w. (w.0.0, w.1.0)) (find (λ w. shares w.0.1 w.1.1) placed)

-- the least pair of places whose spans share a number, if any do
unfoldable pub overlap_of : List Span → Option (ℕ × ℕ)
overlap_of spans = first_sharing (pairs (enumerate_from 0 spans))
