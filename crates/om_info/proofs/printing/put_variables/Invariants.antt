use Rattle.std.proofs.Common.{◌≡◌, ◌≤◌, ℕ, List, ◌++◌, flat_map, length, Contains}
use Rattle.om_eval.specs.declared.catalog.VarInfo.{VarInfo}
use Rattle.om_info.specs.Text.{variable_line}
use Rattle.om_info.proofs.printing.put_variables.Given as goal

-- the text so far, which is within the limit, and the lines of the variables that are left are the whole
pub record IsSoFar (whole so_far rest : List ℕ) (limit : ℕ) (all left : List VarInfo) : Type 0 where
  pub whole_is : whole ≡ so_far ++ rest
  pub within : length so_far ≤ limit
  pub listed : (variable : VarInfo) → Contains left variable → Contains all variable

abbrev pub invariant-loop-variables : goal.invariant-loop-variables
invariant-loop-variables l =
    IsSoFar (l.initial.text ++ flat_map variable_line l.initial.variables) l.text (flat_map variable_line l.variables) l.limit l.initial.variables l.variables

abbrev pub decreases-loop-variables : goal.decreases-loop-variables
decreases-loop-variables l = length l.variables
