-- What the laws of line programs say.
use Rattle.std.specs.Prelude.{◌≡◌, ◌≢◌, ℕ, List, [], ◌∷◌, Option, None, Some, Ok, Err}
use Rattle.om_line.specs.Head.{Head}
use Rattle.om_line.specs.Instructions.{instruction_in}
use Rattle.om_line.specs.declared.fields.Broken.{Broken}
use Rattle.om_line.specs.declared.instruction.Instruction.{Instruction}

-- instructions stand one after another at the front of some bytes, before others
abbrev pub StandBefore : Head → List ℕ → List Instruction → List ℕ → Type 0
StandBefore head bytes [] rest = bytes ≡ rest
StandBefore head bytes (instruction ∷ instructions) rest = (behind : List ℕ) × (instruction_in head bytes ≡ Ok (instruction, behind)) × StandBefore head behind instructions rest

-- no instruction stands in front of some bytes
abbrev pub IsCut : Head → List ℕ → Type 0
IsCut head bytes = (bytes ≢ []) × ((why : Broken) × (instruction_in head bytes ≡ Err why))

-- instructions fill some bytes, or stand before others that break off
abbrev pub Fill : Head → List ℕ → List Instruction → Option (List ℕ) → Type 0
Fill head bytes instructions None = StandBefore head bytes instructions []
Fill head bytes instructions (Some rest) = StandBefore head bytes instructions rest × IsCut head rest
