-- What isn't built, of what a query may ask.
use Rattle.std.specs.Prelude.{◌≡◌, ◌≢◌, ◌⊎◌, ℕ, Result, Err, true, false, List, length, Contains}
use Rattle.om_eval.specs.declared.column.ColumnId.{ColumnId}
use Rattle.om_eval.specs.declared.expr.Expr.{Expr}
use Rattle.om_parse.specs.Identifiers.{said}
use Rattle.om_parse.specs.declared.tree.Identifier.TheVariants as i
use Rattle.om_parse.specs.declared.tree.Query.{Query}
use Rattle.om_parse.specs.declared.tree.Item.{Item}
use Rattle.om_parse.specs.declared.tree.TableName.{TableName}
use Rattle.om_parse.specs.declared.tree.ExprTree.{ExprTree}
use Rattle.om_parse.specs.declared.tree.ExprTree.TheVariants as e
use Rattle.om_parse.specs.declared.tree.CondTree.{CondTree}
use Rattle.om_parse.specs.declared.tree.CondTree.TheVariants as c
use Rattle.om_parse.specs.declared.tree.CompareOp.{CompareOp}
use Rattle.om_type.specs.Columns.{Means, is_relation}
use Rattle.om_type.specs.Typing.{Variables, IsVariable, IsExpr, is_text, conjuncts_of}
use Rattle.om_type.specs.declared.fault.TypeFault.{TypeFault}
use Rattle.om_type.specs.declared.fault.TypeFault.TheVariants.{NoMemory}
use Rattle.om_type.specs.declared.typed.Typed.{Typed}

-- an expression has a name that means no column, or a delimited one that means no variable
pub data IsUnbuiltExpr (catalog : Variables) : ExprTree → Type 0 where
  name : {at : ℕ} {name : List ℕ} → ((id : ColumnId) → Means name id → ⊥) → IsUnbuiltExpr catalog (e.Column (record { at = at; name = i.Regular name }))
  variable : {at : ℕ} {name : List ℕ} → ((place : ℕ) → IsVariable catalog (said (i.Delimited name)) place → ⊥)
      → IsUnbuiltExpr catalog (e.Column (record { at = at; name = i.Delimited name }))

-- an expression can't be compared with a number
pub data IsNoNumber (catalog : Variables) (tree : ExprTree) : Type 0 where
  unbuilt : IsUnbuiltExpr catalog tree → IsNoNumber catalog tree
  text : {value : Expr} → IsExpr catalog tree value → is_text value ≡ true → IsNoNumber catalog tree

-- a condition is no comparison of numbers. An AND is none; but no conjunct is an AND
pub data IsUnbuiltTest (catalog : Variables) : CondTree → Type 0 where
  left : {at : ℕ} {op : CompareOp} {left right : ExprTree} → IsNoNumber catalog left → IsUnbuiltTest catalog (c.Compare at op left right)
  right : {at : ℕ} {op : CompareOp} {left right : ExprTree} → IsNoNumber catalog right → IsUnbuiltTest catalog (c.Compare at op left right)
  all : (members : List CondTree) → IsUnbuiltTest catalog (c.All members)

-- a query has no table or several, a table that isn't the relation, or an item or a conjunct that isn't built
pub data IsUnbuilt (catalog : Variables) (query : Query) : Type 0 where
  tables : length query.tables ≢ 1 → IsUnbuilt catalog query
  table : {table : TableName} → Contains query.tables table → is_relation table.name ≡ false → IsUnbuilt catalog query
  item : {item : Item} → Contains query.items item → IsUnbuiltExpr catalog item.expr → IsUnbuilt catalog query
  conjunct : {tree : CondTree} → Contains (conjuncts_of query.filter) tree → IsUnbuiltTest catalog tree → IsUnbuilt catalog query

-- a call answers this, unless memory ran out
abbrev pub Answers : Result Typed TypeFault → Result Typed TypeFault → Type 0
Answers result wanted = (result ≡ wanted) ⊎ (result ≡ Err NoMemory)
