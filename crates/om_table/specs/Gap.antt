-- What parts a cell from the one before it.
use Rattle.std.specs.Prelude.{ℕ, List, [], nat_eq, if◌then◌else◌}

-- what parts two cells, and nothing before the first cell of a line
abbrev pub gap : List ℕ → ℕ → List ℕ
gap between column = if nat_eq column 0 then [] else between
