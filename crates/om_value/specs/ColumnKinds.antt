-- The kinds of the columns of the relation `states`.
use Rattle.std.specs.Prelude.{pos, ◌-◌, ◌^◌, List, Option, Some, None}
use Rattle.std.specs.List.{slice_get}
use Rattle.om_base.specs.declared.interval.Interval.{Interval}
use Rattle.om_value.specs.Kinds.{numbers}
use Rattle.om_value.specs.declared.catalog.VarInfo.{VarInfo}
use Rattle.om_value.specs.declared.column.ColumnId.{ColumnId}
use Rattle.om_value.specs.declared.column.ColumnId.TheVariants as id
use Rattle.om_value.specs.declared.kind.Kind.{Kind}
use Rattle.om_value.specs.declared.kind.Kind.TheVariants.{Int, Text, Null}

-- the numbers of 32 bits
abbrev pub word_numbers : Kind
word_numbers = numbers (pos 0) (pos (2 ^ 32 - 1))

-- of a variable: the numbers that it may hold, and NULL alone where it holds none or there is none
abbrev pub scalar_kind : Option Interval → Kind
scalar_kind None = Null
scalar_kind (Some found) = Int found

abbrev pub variable_kind : Option VarInfo → Kind
variable_kind None = Null
variable_kind (Some info) = scalar_kind info.scalar

-- of a column
unfoldable pub column_kind : List VarInfo → ColumnId → Kind
column_kind catalog id.Step = word_numbers
column_kind catalog id.Pc = word_numbers
column_kind catalog id.Insn = word_numbers
column_kind catalog id.Func = Text
column_kind catalog id.File = Text
column_kind catalog id.Line = word_numbers
column_kind catalog (id.Reg number) = word_numbers
column_kind catalog (id.Var place) = variable_kind (slice_get catalog place)
