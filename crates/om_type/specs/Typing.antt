-- What a query asks: its names resolved, its WHERE split at its ANDs, its outputs named. SQL-92, sections 6.4, 7.9 and 8.2,
-- as far as the query language has them.
use Rattle.std.specs.Prelude.{◌≡◌, ◌≢◌, ℕ, ◌+◌, ◌^◌, ◌<◌, Bool, true, false, List, [], ◌∷◌, ◌++◌, codes, Option, Some, None}
use Rattle.std.specs.Fmt.{decimal}
use Rattle.std.specs.List.{flat_map, slice_get}
use Rattle.std.specs.Option.{IsSome}
use Rattle.om_eval.specs.declared.catalog.VarInfo.{VarInfo}
use Rattle.om_eval.specs.declared.column.ColumnId.{ColumnId}
use Rattle.om_eval.specs.declared.column.ColumnId.TheVariants as id
use Rattle.om_eval.specs.declared.comparison.Compare.{Compare}
use Rattle.om_eval.specs.declared.comparison.Compare.TheVariants as compare
use Rattle.om_eval.specs.declared.cond.Cond.{Cond}
use Rattle.om_eval.specs.declared.cond.Cond.TheVariants as cond
use Rattle.om_eval.specs.declared.expr.Expr.{Expr}
use Rattle.om_eval.specs.declared.expr.Expr.TheVariants as expr
use Rattle.om_parse.specs.Identifiers.{said}
use Rattle.om_parse.specs.declared.tree.Identifier.TheVariants as i
use Rattle.om_parse.specs.declared.tree.Query.{Query}
use Rattle.om_parse.specs.declared.tree.Item.{Item}
use Rattle.om_parse.specs.declared.tree.TableName.{TableName}
use Rattle.om_parse.specs.declared.tree.ExprTree.{ExprTree}
use Rattle.om_parse.specs.declared.tree.ExprTree.TheVariants as e
use Rattle.om_parse.specs.declared.tree.CondTree.{CondTree}
use Rattle.om_parse.specs.declared.tree.CondTree.TheVariants as c
use Rattle.om_parse.specs.declared.tree.CondTree.TheFolds.{fold-CondTree}
use Rattle.om_parse.specs.declared.tree.CondTree.TheOpen.{CondTree-F}
use Rattle.om_parse.specs.declared.tree.CompareOp.{CompareOp}
use Rattle.om_parse.specs.declared.tree.CompareOp.TheVariants as o
use Rattle.om_type.specs.Columns.{Means, is_relation}
use Rattle.om_type.specs.declared.typed.Typed.{Typed}
use Rattle.om_type.specs.declared.typed.Output.{Output}

-- the variables of the program, in order
abbrev pub Variables : Type 0
Variables = List VarInfo

-- a name means, by its bytes, the variable at this place: the first of that name, which is one variable and holds numbers
pub record IsVariable (catalog : Variables) (name : List ℕ) (place : ℕ) : Type 0 where
  pub info : VarInfo
  pub there : slice_get catalog place ≡ Some info
  pub named : info.name ≡ name
  pub first : (earlier : ℕ) (other : VarInfo) → earlier < place → slice_get catalog earlier ≡ Some other → other.name ≢ name
  pub alone : info.ambiguous ≡ false
  pub numbers : IsSome info.scalar
  pub narrow : place < 2 ^ 32

-- ---- expressions

-- the column of the only range variable
abbrev pub own : ColumnId → Expr
own id = expr.Column (record { table = 0; id = id })

-- an expression's names, resolved
pub data IsExpr (catalog : Variables) : ExprTree → Expr → Type 0 where
  column : {at : ℕ} {name : List ℕ} {id : ColumnId} → Means name id → IsExpr catalog (e.Column (record { at = at; name = i.Regular name })) (own id)
  variable : {at : ℕ} {name : List ℕ} {place : ℕ} → IsVariable catalog (said (i.Delimited name)) place
      → IsExpr catalog (e.Column (record { at = at; name = i.Delimited name })) (own (id.Var place))
  numeral : {at value : ℕ} → IsExpr catalog (e.Numeral (record { at = at; value = value })) (expr.Numeral value)

-- the values of a column are texts or NULL; those of any other are numbers or NULL
abbrev pub has_texts : ColumnId → Bool
has_texts id.Step = false
has_texts id.Pc = false
has_texts id.Insn = false
has_texts id.Func = true
has_texts id.File = true
has_texts id.Line = false
has_texts (id.Reg number) = false
has_texts (id.Var place) = false

-- the values of an expression are texts or NULL; those of any other are numbers or NULL
abbrev pub is_text : Expr → Bool
is_text (expr.Column found) = has_texts found.id
is_text (expr.Numeral number) = false

-- ---- conditions

-- the comparison that an operator stands for
abbrev pub compare_of : CompareOp → Compare
compare_of o.Equal = compare.Equal
compare_of o.NotEqual = compare.NotEqual
compare_of o.Less = compare.Less
compare_of o.LessOrEqual = compare.LessEqual
compare_of o.Greater = compare.Greater
compare_of o.GreaterOrEqual = compare.GreaterEqual

-- a comparison of numbers
pub data IsTest (catalog : Variables) : CondTree → Cond → Type 0 where
  compared : {at : ℕ} {op : CompareOp} {left_tree right_tree : ExprTree} {left right : Expr}
      → IsExpr catalog left_tree left → is_text left ≡ false
      → IsExpr catalog right_tree right → is_text right ≡ false
      → IsTest catalog (c.Compare at op left_tree right_tree) (cond.Compare (compare_of op) left right)

-- each condition as a comparison of numbers
pub data AreTests (catalog : Variables) : List CondTree → List Cond → Type 0 where
  none : AreTests catalog [] []
  more : {tree : CondTree} {trees : List CondTree} {test : Cond} {tests : List Cond}
      → IsTest catalog tree test → AreTests catalog trees tests → AreTests catalog (tree ∷ trees) (test ∷ tests)

-- the conjuncts of an AND are those of its members; any other condition is one conjunct
abbrev pub conjuncts_step : CondTree-F (List CondTree) → List CondTree
conjuncts_step (CondTree-F.Compare at op left right) = c.Compare at op left right ∷ []
conjuncts_step (CondTree-F.All members) = flat_map (λ those. those) members

-- the conjuncts of a condition, first to last
unfoldable pub conjuncts_in : CondTree → List CondTree
conjuncts_in = fold-CondTree (List CondTree) conjuncts_step

-- the conjuncts of a WHERE; none where there is none
abbrev pub conjuncts_of : Option CondTree → List CondTree
conjuncts_of None = []
conjuncts_of (Some tree) = conjuncts_in tree

-- ---- the result's columns

-- the name of the output at a position, from 1: what a column's identifier says, of another expression its position behind `col`
abbrev pub name_of : ℕ → ExprTree → List ℕ
name_of position (e.Column written) = said written.name
name_of position (e.Numeral written) = codes "col" ++ decimal position

-- the outputs of items, the first of which is at a position
pub data AreOutputs (catalog : Variables) : ℕ → List Item → List Output → Type 0 where
  none : {position : ℕ} → AreOutputs catalog position [] []
  more : {position : ℕ} {item : Item} {items : List Item} {value : Expr} {outputs : List Output}
      → IsExpr catalog item.expr value → AreOutputs catalog (position + 1) items outputs
      → AreOutputs catalog position (item ∷ items) (record { name = name_of position item.expr; expr = value } ∷ outputs)

-- ---- the query

-- the relation is the only table
pub data IsFrom : List TableName → List (List ℕ) → Type 0 where
  states : {at : ℕ} {name : List ℕ} → is_relation name ≡ true → IsFrom (record { at = at; name = name } ∷ []) (name ∷ [])

-- what a query asks
pub record IsTyped (catalog : Variables) (query : Query) (typed : Typed) : Type 0 where
  pub tables : IsFrom query.tables typed.tables
  pub outputs : AreOutputs catalog 1 query.items typed.outputs
  pub conjuncts : AreTests catalog (conjuncts_of query.filter) typed.conjuncts
