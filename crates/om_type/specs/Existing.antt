-- Which columns a typed query uses, and that a row has them.
use Rattle.std.specs.Prelude.{◌<◌, List, [], ◌∷◌, ◌++◌, length, All}
use Rattle.std.specs.List.{flat_map}
use Rattle.om_eval.specs.Row.{IsColumn}
use Rattle.om_eval.specs.declared.column.Column.{Column}
use Rattle.om_eval.specs.declared.cond.Cond.{Cond}
use Rattle.om_eval.specs.declared.cond.Cond.TheFolds.{fold-Cond}
use Rattle.om_eval.specs.declared.cond.Cond.TheOpen.{Cond-F}
use Rattle.om_eval.specs.declared.expr.Expr.{Expr}
use Rattle.om_eval.specs.declared.expr.Expr.TheVariants as expr
use Rattle.om_type.specs.declared.typed.Typed.{Typed}

-- the columns of an expression
abbrev pub columns_of : Expr → List Column
columns_of (expr.Column column) = column ∷ []
columns_of (expr.Numeral number) = []

-- one condition, with the columns of each member in its place
abbrev pub columns_step : Cond-F (List Column) → List Column
columns_step (Cond-F.Compare compare left right) = columns_of left ++ columns_of right
columns_step (Cond-F.And members) = flat_map (λ those. those) members

-- the columns of a condition
unfoldable pub columns_in : Cond → List Column
columns_in = fold-Cond (List Column) columns_step

-- a column of a range variable that there is
abbrev pub IsThere : Typed → Column → Type 0
IsThere typed column = (column.table < length typed.tables) × IsColumn column.id

-- each column of a query is one of a range variable that there is
pub record AllExist (typed : Typed) : Type 0 where
  pub outputs : All (λ output. All (IsThere typed) (columns_of output.expr)) typed.outputs
  pub conjuncts : All (λ cond. All (IsThere typed) (columns_in cond)) typed.conjuncts
