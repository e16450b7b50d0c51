-- A text that is given up to a limit.
use Rattle.std.specs.Prelude.{◌≡◌, ℕ, ◌<◌, ◌≤◌, List, ◌++◌, length, Contains, Result, Ok, Err}
use Rattle.om_eval.specs.declared.catalog.VarInfo.{VarInfo}
use Rattle.om_info.specs.Text.{variable_line}
use Rattle.om_info.specs.declared.fault.InfoFault.{InfoFault}
use Rattle.om_info.specs.declared.fault.InfoFault.TheVariants.{NoMemory, TooManyBytes}

-- a text is given, or that it is longer than the limit; want of memory may come at any text
abbrev pub Gives : List ℕ → ℕ → Result (List ℕ) InfoFault → Type 0
Gives text limit (Ok given) = (given ≡ text) × (length text ≤ limit)
Gives text limit (Err TooManyBytes) = limit < length text
Gives text limit (Err NoMemory) = Unit {0}

-- what a text came to, where nothing was refused
abbrev pub grown : Result (Unit {0}) InfoFault → List ℕ → Result (List ℕ) InfoFault
grown (Ok nothing) text = Ok text
grown (Err fault) text = Err fault

-- the line of one of some variables ends a text, and what stands before it is within the limit
pub record IsPassedBy (variables : List VarInfo) (limit : ℕ) (text : List ℕ) : Type 0 where
  pub before : List ℕ
  pub variable : VarInfo
  pub listed : Contains variables variable
  pub text_is : text ≡ before ++ variable_line variable
  pub within : length before ≤ limit
