-- What debugging information tells of a program: all that may be asked.
use Rattle.std.specs.Prelude.{ℕ, ℤ, List, Option}
use Rattle.om_cfi.specs.Frames.{rules_in}
use Rattle.om_line.specs.Tables.{LineFacts, line_facts}
use Rattle.om_names.specs.Functions.{counts_of, func_at}
use Rattle.om_names.specs.Information.{Information}
use Rattle.om_names.specs.Variables.{VariableFacts, variable_facts, variables_in}
use Rattle.om_names.specs.declared.debug_counts.Counts.{Counts}

pub record Facts : Type 0 where
  -- the name of the function that an address lies in, if there is one and it has a name
  pub func_at : ℕ → Option (List ℕ)
  -- the row of the line tables that an address belongs to, if there is one, and the name of its file
  pub lines : LineFacts
  -- the variables
  pub variables : VariableFacts
  -- the rule for the canonical frame address at an address, if there is one: a register, and what is added to its content
  pub cfa : ℕ → Option (ℕ × ℤ)
  -- how much there is
  pub counts : Counts

-- what some information tells
abbrev pub facts_of : Information → Facts
facts_of info = record { func_at = func_at info; lines = line_facts info.lines; variables = variable_facts (variables_in info.ranges info.units); cfa = rules_in info.frames; counts = counts_of info }
