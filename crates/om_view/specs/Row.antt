-- The row of the relation that a state of the machine stands for.
use Rattle.std.specs.Prelude.{ℕ, pos, nat_eq, if◌then◌else◌, List, Option, Some, None}
use Rattle.om_mem.specs.Contents.{loaded}
use Rattle.om_step.specs.State.{State, register}
use Rattle.om_eval.specs.Row.{Row}
use Rattle.om_eval.specs.declared.column.ColumnId.{ColumnId}
use Rattle.om_eval.specs.declared.column.ColumnId.TheVariants as id
use Rattle.om_eval.specs.declared.value.Owned.{Owned}
use Rattle.om_eval.specs.declared.value.Owned.TheVariants.{Int, Text, Null}
use Rattle.om_line.specs.declared.row.LineRow.{LineRow}
use Rattle.om_names.specs.Facts.{Facts}
use Rattle.om_view.specs.Variable.{held_value}

-- a number, NULL where there is none
abbrev pub value_of : Option ℕ → Owned
value_of (Some number) = Int (pos number)
value_of None = Null

-- a name, NULL where there is none
abbrev pub text_of : Option (List ℕ) → Owned
text_of (Some name) = Text name
text_of None = Null

-- the line of a row of a line table; 0 says that there is none: DWARF 4, section 6.2.2
abbrev pub line_of : Option LineRow → Option ℕ
line_of (Some row) = if nat_eq row.line 0 then None else Some row.line
line_of None = None

-- the value of a column at a state after so many steps
abbrev pub cell_of : Facts → State → ℕ → ColumnId → Owned
cell_of facts state step id.Step = Int (pos step)
cell_of facts state step id.Pc = Int (pos state.pc)
cell_of facts state step id.Insn = value_of (loaded state.memory state.pc 4)
cell_of facts state step (id.Reg number) = Int (pos (register state number))
cell_of facts state step id.Func = text_of (facts.func_at state.pc)
cell_of facts state step id.File = text_of (facts.lines.file_at state.pc)
cell_of facts state step id.Line = value_of (line_of (facts.lines.line_at state.pc))
cell_of facts state step (id.Var place) = held_value state (facts.cfa state.pc) (facts.variables.held place state.pc)

-- the row of the state after so many steps
abbrev pub row_of : Facts → State → ℕ → Row
row_of facts state step = record { cell = cell_of facts state step; mem = λ address width. value_of (loaded state.memory address width) }
