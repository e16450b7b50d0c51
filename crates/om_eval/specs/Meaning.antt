-- What expressions and conditions mean at a tuple of rows: SQL-92, sections 8.2 and 8.12.
use Rattle.std.specs.Prelude.{pos, Bool, true, false, not, List, Option, Some, None, if◌then◌else◌, nat_lt}
use Rattle.std.specs.List.{list_any}
use Rattle.std.specs.Option.{option_map_or}
use Rattle.std.specs.Ordering.{nat_cmp, int_cmp, is_eq, is_lt, is_gt}
use Rattle.std.specs.Cmp.Lexicographic.{slice_cmp}
use Rattle.std.specs.declared.cmp.Ordering.{Ordering}
use Rattle.om_eval.specs.Row.{Row, Tuple}
use Rattle.om_eval.specs.declared.column.ColumnId.{ColumnId}
use Rattle.om_eval.specs.declared.column.ColumnId.TheVariants as id
use Rattle.om_eval.specs.declared.comparison.Compare.{Compare}
use Rattle.om_eval.specs.declared.comparison.Compare.TheVariants as compare
use Rattle.om_eval.specs.declared.cond.Cond.{Cond}
use Rattle.om_eval.specs.declared.cond.Cond.TheFolds.{fold-Cond}
use Rattle.om_eval.specs.declared.cond.Cond.TheOpen.{Cond-F}
use Rattle.om_eval.specs.declared.expr.Expr.{Expr}
use Rattle.om_eval.specs.declared.expr.Expr.TheVariants as expr
use Rattle.om_eval.specs.declared.truth.Truth.{Truth}
use Rattle.om_eval.specs.declared.truth.Truth.TheVariants.{Yes, No, Unknown}
use Rattle.om_eval.specs.declared.value.Owned.{Owned}
use Rattle.om_eval.specs.declared.value.Owned.TheVariants.{Int, Text, Null}
use Rattle.om_eval.specs.declared.value.Value.{Value}
use Rattle.om_eval.specs.declared.value.Value.TheVariants as borrowed

-- the value that a borrowed one is
abbrev pub owned : Value → Owned
owned (borrowed.Int number) = Int number
owned (borrowed.Text bytes) = Text bytes
owned borrowed.Null = Null

-- ---- expressions

-- the cell of a row at a column, NULL past its 32 registers
abbrev pub cell_at : Row → ColumnId → Owned
cell_at row (id.Reg number) = if nat_lt number 32 then row.cell (id.Reg number) else Null
cell_at row column = row.cell column

-- the value of an expression at a tuple
unfoldable pub value : Tuple → Expr → Owned
value tuple (expr.Column column) = cell_at (tuple column.table) column.id
value tuple (expr.Numeral number) = Int (pos number)

-- ---- comparisons

-- how two values are ordered: numbers as whole numbers, texts by their bytes, and others not
abbrev pub order : Owned → Owned → Option Ordering
order (Int left) (Int right) = Some (int_cmp left right)
order (Text left) (Text right) = Some (slice_cmp nat_cmp left right)
order _ _ = None

-- whether a comparison holds of two values in that order
abbrev pub holds : Compare → Ordering → Bool
holds compare.Equal order = is_eq order
holds compare.NotEqual order = not (is_eq order)
holds compare.Less order = is_lt order
holds compare.LessEqual order = not (is_gt order)
holds compare.Greater order = is_gt order
holds compare.GreaterEqual order = not (is_lt order)

-- the truth of what is known to hold or not
abbrev pub decided : Bool → Truth
decided true = Yes
decided false = No

-- the truth of a comparison of two values
unfoldable pub compared : Compare → Owned → Owned → Truth
compared compare left right = option_map_or (λ found. decided (holds compare found)) (order left right) Unknown

-- ---- conditions

abbrev pub is_no : Truth → Bool
is_no No = true
is_no _ = false

abbrev pub is_unknown : Truth → Bool
is_unknown Unknown = true
is_unknown _ = false

-- the truth of AND: No where a member is No, else Unknown where one is Unknown, else Yes
abbrev pub all_of : List Truth → Truth
all_of members = if list_any is_no members then No else if list_any is_unknown members then Unknown else Yes

-- one condition, with the truth of each member in its place
abbrev pub truth_step : Tuple → Cond-F Truth → Truth
truth_step tuple (Cond-F.Compare compare left right) = compared compare (value tuple left) (value tuple right)
truth_step tuple (Cond-F.And members) = all_of members

-- the truth of a condition at a tuple
unfoldable pub truth : Tuple → Cond → Truth
truth tuple = fold-Cond Truth (truth_step tuple)
