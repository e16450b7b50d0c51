-- What a fault tells.
use Rattle.std.specs.Prelude.{ℕ, List, [], ◌∷◌, ◌++◌, decimal, Option, Some, None}
use Rattle.om_command.specs.declared.told.Told.{Told}

-- a number behind a space, if it is told
abbrev pub number_text : Option ℕ → List ℕ
number_text None = []
number_text (Some number) = 32 ∷ decimal number

-- the words of a fault, with its numbers
abbrev pub told_text : Told → List ℕ
told_text told = told.words.now ++ (number_text told.first ++ number_text told.second)
