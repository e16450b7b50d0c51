-- The answer of a query: a filter over the rows of all states of the run.
use Rattle.std.specs.Prelude.{ℕ, ◌+◌, Bool, true, false, List, [], ◌∷◌, map, filter}
use Rattle.om_eval.specs.Meaning.{truth, value}
use Rattle.om_eval.specs.Row.{Row, row_tuple}
use Rattle.om_eval.specs.declared.cond.Cond.{Cond}
use Rattle.om_eval.specs.declared.cond.Cond.TheViews as cond
use Rattle.om_eval.specs.declared.truth.Truth.{Truth}
use Rattle.om_eval.specs.declared.truth.Truth.TheVariants.{Yes, No, Unknown}
use Rattle.om_eval.specs.declared.value.Owned.{Owned}
use Rattle.om_log.specs.declared.entry.Entry.{Entry}
use Rattle.om_run.specs.Run.{states}
use Rattle.om_step.specs.State.{State}
use Rattle.om_table.specs.Text.{text_of}
use Rattle.om_table.specs.declared.table.Style.TheVariants.{Columns}
use Rattle.om_names.specs.Facts.{Facts}
use Rattle.om_view.specs.Row.{row_of}
use Rattle.om_type.specs.declared.typed.Output.{Output}
use Rattle.om_type.specs.declared.typed.Typed.{Typed}

-- ---- the relation

-- the rows of states that follow one another, the first of which is the one after so many steps
abbrev pub rows_from : Facts → ℕ → List State → List Row
rows_from facts step [] = []
rows_from facts step (state ∷ later) = row_of facts state step ∷ rows_from facts (step + 1) later

-- the relation: the rows of all states of a run, with what is known of its executable
abbrev pub relation : Facts → List Entry → State → List Row
relation facts entries first = rows_from facts 0 (states entries first)

-- ---- the answer

abbrev pub is_yes : Truth → Bool
is_yes Yes = true
is_yes No = false
is_yes Unknown = false

-- a condition is true at a row
abbrev pub is_kept : Cond → Row → Bool
is_kept condition row = is_yes (truth (row_tuple row) condition)

-- the cell of a row for an output
abbrev pub cell_of : Row → Output → Owned
cell_of row output = value (row_tuple row) output.expr

-- the cells of a row, one for each output
abbrev pub cells_of : List Output → Row → List Owned
cells_of outputs row = map (cell_of row) outputs

-- of some rows, the cells of those at which a condition is true
abbrev pub kept_of : Cond → List Output → List Row → List (List Owned)
kept_of condition outputs rows = map (cells_of outputs) (filter (is_kept condition) rows)

-- the rows of the answer to outputs at which a condition is true
unfoldable pub answer_rows : Facts → List Entry → State → Cond → List Output → List (List Owned)
answer_rows facts entries first condition outputs = kept_of condition outputs (relation facts entries first)

-- all conjuncts of a query hold
abbrev pub condition_of : Typed → Cond
condition_of typed = cond.And typed.conjuncts

-- the names above the columns of the answer
abbrev pub names_of : List Output → List (List ℕ)
names_of outputs = map (λ output. output.name) outputs

-- the text of the answer
abbrev pub answer_text : Facts → List Entry → State → Cond → List Output → List ℕ
answer_text facts entries first condition outputs =
    text_of Columns (record { names = names_of outputs; rows = answer_rows facts entries first condition outputs })
