-- How a variable is named.
use Rattle.std.specs.Prelude.{ℕ, List, ◌∷◌, ◌++◌, Option, Some, None}

-- by its function, where it is inside one, a point and its own name
abbrev pub qualified : Option (List ℕ) → List ℕ → List ℕ
qualified (Some function) own = function ++ 46 ∷ own
qualified None own = own
