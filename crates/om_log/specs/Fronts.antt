-- What appending leaves, and what a writer holds.
use Rattle.std.specs.Prelude.{◌≡◌, ℕ, List, [], ◌∷◌, ◌++◌, length, take, drop, ◌⊎◌}
use Rattle.om_log.specs.Grammar.{header}
use Rattle.om_log.specs.declared.start.Start.{Start}

-- these bytes stand in front of those
pub record IsFront (front bytes : List ℕ) : Type 0 where
  pub kept : take (length front) bytes ≡ front

-- what stands in front of the next entry: the header, where nothing was written before
abbrev pub headed : Start → List ℕ → List ℕ
headed start [] = header start
headed start (byte ∷ bytes) = byte ∷ bytes

-- nothing was written yet, or the header of this start stands in front
abbrev pub IsHeaded : Start → List ℕ → Type 0
IsHeaded start bytes = (bytes ≡ []) ⊎ (bytes ≡ header start ++ drop 20 bytes)
