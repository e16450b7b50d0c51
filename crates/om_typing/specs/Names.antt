-- What the names of a query mean: SQL-92, sections 5.4, 6.3 and 6.4.
use Rattle.std.specs.Prelude.{ℕ, ◌+◌, ◌^◌, nat_lt, nat_eq, Bool, false, ◌&&◌, List, [], ◌∷◌, codes, Option, Some, None, if◌then◌else◌}
use Rattle.std.specs.List.{list_any, slice_get}
use Rattle.std.specs.Option.{option_map, option_map_or, option_and_then}
use Rattle.std.specs.Str.{bytes_eq, str_eq_ignore_ascii_case}
use Rattle.om_grammar.specs.declared.tree.ColumnName.{ColumnName}
use Rattle.om_grammar.specs.declared.tree.Identifier.{Identifier}
use Rattle.om_grammar.specs.declared.tree.Identifier.TheVariants as i
use Rattle.om_grammar.specs.declared.tree.Label.{Label}
use Rattle.om_grammar.specs.declared.tree.TableName.{TableName}
use Rattle.om_value.specs.declared.catalog.VarInfo.{VarInfo}
use Rattle.om_value.specs.declared.column.ColumnId.{ColumnId}
use Rattle.om_value.specs.declared.column.ColumnId.TheVariants as id
use Rattle.om_typing.specs.Columns.{column_names}
use Rattle.om_typing.specs.declared.scope.Grouped.{Grouped}

-- the variables of the program, in order
abbrev pub Variables : Type 0
Variables = List VarInfo

-- what names are resolved in: the variables, the tables of FROM, and the columns of GROUP BY
pub record Scope : Type 0 where
  pub catalog : Variables
  pub tables : List TableName
  pub groups : List Grouped

-- a place of 32 bits
abbrev pub narrow : ℕ → Option ℕ
narrow place = if nat_lt place (2 ^ 32) then Some place else None

-- ---- range variables

-- the name of a table's range variable
abbrev pub variable_name : TableName → List ℕ
variable_name table = option_map_or (λ label. label.name) table.variable (codes "states")

-- the place of the first table, counted from a place on, whose range variable has this name, in any case
abbrev pub table_from : ℕ → List TableName → List ℕ → Option ℕ
table_from place [] name = None
table_from place (table ∷ tables) name = if str_eq_ignore_ascii_case (variable_name table) name then Some place else table_from (place + 1) tables name

-- the place of the range variable that is meant: the first of that name, and without a name the only one
abbrev pub table_meant : List TableName → Option Label → Option ℕ
table_meant tables (Some label) = option_and_then narrow (table_from 0 tables label.name)
table_meant (table ∷ []) None = Some 0
table_meant _ None = None

-- ---- columns

-- the column of the first row whose name is this one, in any case
abbrev pub column_in : List (List ℕ × ColumnId) → List ℕ → Option ColumnId
column_in [] name = None
column_in (row ∷ rows) name = if str_eq_ignore_ascii_case row.0 name then Some row.1 else column_in rows name

-- the column that a regular identifier means
unfoldable pub column_named : List ℕ → Option ColumnId
column_named name = column_in column_names name

-- the place of the first variable, counted from a place on, that has these bytes as its name
abbrev pub variable_from : ℕ → Variables → List ℕ → Option ℕ
variable_from place [] name = None
variable_from place (info ∷ infos) name = if bytes_eq name info.name then Some place else variable_from (place + 1) infos name

-- the place of the variable that a delimited identifier means
unfoldable pub variable_named : Variables → List ℕ → Option ℕ
variable_named catalog name = option_and_then narrow (variable_from 0 catalog name)

-- the column that an identifier means
abbrev pub column_meant : Variables → Identifier → Option ColumnId
column_meant catalog (i.Regular name) = column_named name
column_meant catalog (i.Delimited said) = option_map id.Var (variable_named catalog said)

-- what is known of the variable that a column is; none for another column
abbrev pub info_of : Variables → Option ColumnId → Option VarInfo
info_of catalog (Some (id.Var place)) = slice_get catalog place
info_of catalog _ = None

-- ---- groups

abbrev pub grouped : ℕ → ColumnId → Grouped
grouped table column = record { table = table; column = column }

-- the column of a range variable that is meant, where both are known
abbrev pub place_meant : Option ℕ → Option ColumnId → Option Grouped
place_meant (Some table) (Some column) = Some (grouped table column)
place_meant _ _ = None

abbrev pub place_of : Variables → List TableName → ColumnName → Option Grouped
place_of catalog tables column = place_meant (table_meant tables column.qualifier) (column_meant catalog column.name)

-- which column it is, but for the number of a register or a variable
abbrev pub sort_of : ColumnId → ℕ
sort_of id.Step = 0
sort_of id.Pc = 1
sort_of id.Insn = 2
sort_of id.Func = 3
sort_of id.File = 4
sort_of id.Line = 5
sort_of (id.Reg number) = 6
sort_of (id.Var place) = 7

-- that number
abbrev pub number_of : ColumnId → ℕ
number_of (id.Reg number) = number
number_of (id.Var place) = place
number_of _ = 0

-- both are one column of one range variable
abbrev pub is_same : Grouped → Grouped → Bool
is_same one other = nat_eq one.table other.table && (nat_eq (sort_of one.column) (sort_of other.column) && nat_eq (number_of one.column) (number_of other.column))

-- a column is among those that are grouped
abbrev pub is_grouped : List Grouped → Option Grouped → Bool
is_grouped groups None = false
is_grouped groups (Some place) = list_any (λ one. is_same one place) groups
