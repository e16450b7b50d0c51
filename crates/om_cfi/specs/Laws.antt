-- What the laws of call frame instructions say.
use Rattle.std.specs.Prelude.{ℕ, ◌<◌, ◌≤◌, ◌⊎◌, List, [], ◌∷◌, All}
use Rattle.om_cfi.specs.Rules.{moved}
use Rattle.om_cfi.specs.declared.instruction.Item.{Item}
use Rattle.om_cfi.specs.declared.instruction.Item.TheVariants.{Broken, Known, Unknown}

-- the locations before and behind instructions that begin at one
unfoldable pub locations : ℕ → ℕ → List Item → List ℕ
locations code location [] = location ∷ []
locations code location (Known instruction ∷ items) = location ∷ locations code (moved code location instruction) items
locations code location (Unknown ∷ items) = location ∷ []
locations code location (Broken ∷ items) = location ∷ []

-- no location is above an address and at another one or below
abbrev pub NoneBetween : ℕ → ℕ → List ℕ → Type 0
NoneBetween low high locations = All (λ location. (location ≤ low) ⊎ (high < location)) locations
