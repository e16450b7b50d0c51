-- The first of several things that may not be there, as the first of several faults.
use Rattle.std.specs.Prelude.{Bool, if◌then◌else◌, List, [], ◌∷◌, Option, Some, None}
use Rattle.std.specs.Option.{option_or}

-- the first one that is there, if any is
abbrev pub first_of : {A : Type 0} → List (Option A) → Option A
first_of [] = None
first_of (one ∷ others) = option_or one (first_of others)

-- a rule's fault, where it is broken
abbrev pub unless : {A : Type 0} → Bool → A → Option A
unless kept fault = if kept then None else Some fault
