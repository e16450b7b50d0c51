-- One line more in the widths of the columns.
use Rattle.std.specs.Prelude.{ℕ, max, List, length, map}
use Rattle.std.specs.List.{zip}

-- each width, or the length of the cell in its column where that is greater
unfoldable pub wider : List ℕ → List (List ℕ) → List ℕ
wider widths cells = map (λ (pair : ℕ × List ℕ). max pair.0 (length pair.1)) (zip widths cells)
