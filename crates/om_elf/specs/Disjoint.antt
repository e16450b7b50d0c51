-- Spans of which no number is in two.
use Rattle.std.specs.Prelude.{ℕ, ◌≤◌, Bool, ◌&&◌, nat_le, nat_lt, List, count_by}
use Rattle.om_base.specs.declared.span.Span.{Span}

-- a number is in a span
abbrev pub has : ℕ → Span → Bool
has n span = nat_le span.lo n && nat_lt n span.hi

-- each number is in at most one of the spans
abbrev pub AreDisjoint : List Span → Type 0
AreDisjoint spans = (n : ℕ) → count_by (has n) spans ≤ 1
