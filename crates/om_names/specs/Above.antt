-- What stands above an entry: DWARF 4, section 2.3 "Relationship of Debugging Information Entries".
use Rattle.std.specs.Prelude.{ℕ, nat_lt, if◌then◌else◌, List, [], ◌∷◌}
use Rattle.om_die.specs.declared.die.Die.{Die}

-- of the entries of a unit before one of a depth, the last first, those that it stands below, the nearest first: each is less deep
-- than it, and than all between
unfoldable pub above : ℕ → List Die → List Die
above depth [] = []
above depth (die ∷ before) = if nat_lt die.depth depth then die ∷ above die.depth before else above depth before

-- an entry with those that it stands below, the nearest first
pub record Placed : Type 0 where
  pub die : Die
  pub line : List Die

-- the entries of a unit behind some others, which are given the last first
unfoldable pub placed_behind : List Die → List Die → List Placed
placed_behind before [] = []
placed_behind before (die ∷ dies) = record { die = die; line = above die.depth before } ∷ placed_behind (die ∷ before) dies
