-- A write of a call, by value.
use Rattle.std.specs.Prelude.{ℕ, List, [], ◌∷◌, Option, Some, None}

-- an address, and the bytes that go there and behind
pub record Chunk : Type 0 where
  pub addr : ℕ
  pub bytes : List ℕ

-- the first of a list with the others, if there is one
abbrev pub first_and_others : {A : Type 0} → List A → Option (A × List A)
first_and_others [] = None
first_and_others (x ∷ xs) = Some (x, xs)
