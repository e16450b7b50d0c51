-- A text that grows up to a limit.
use Rattle.std.specs.Prelude.{◌≡◌, ℕ, ◌<◌, ◌≤◌, List, length, Result, Ok, Err}
use Rattle.om_table.specs.declared.fault.TableFault.{TableFault}
use Rattle.om_table.specs.declared.fault.TableFault.TheVariants.{NoMemory, TooManyBytes}

-- the text is within the limit, or that it isn't is told
abbrev pub Keeps : List ℕ → ℕ → Result (Unit {0}) TableFault → Type 0
Keeps text limit (Ok done) = length text ≤ limit
Keeps text limit (Err (TooManyBytes told)) = (told ≡ limit) × (limit < length text)
Keeps text limit (Err NoMemory) = ⊥
