-- The entries that are open on a walk over a unit.
use Rattle.std.specs.Prelude.{ℕ, nat_lt, if◌then◌else◌, List, [], ◌∷◌}
use Rattle.om_names.specs.Around.{nothing}
use Rattle.om_names.specs.declared.around.Around.{Around}
use Rattle.om_names.specs.declared.open_entries.Open.{Open}

-- of open entries, the last first, those that a new one of a depth leaves open
unfoldable pub closed : ℕ → List Open → List Open
closed depth [] = []
closed depth (last ∷ stack) = if nat_lt last.depth depth then last ∷ stack else closed depth stack

-- what the next entry stands in
abbrev pub last_inside : List Open → Around
last_inside [] = nothing
last_inside (last ∷ stack) = last.inside
