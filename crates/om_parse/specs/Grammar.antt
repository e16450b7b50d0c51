-- The trees of a list of tokens, a case for each alternative of a production: SQL-92, sections 7.9, 8.2 and 8.12,
-- as far as the query language has them.
use Rattle.std.specs.Prelude.{ℕ, List, [], ◌∷◌, ◌++◌, Option, Some, None}
use Rattle.om_token.specs.declared.token.Kind.{Kind}
use Rattle.om_token.specs.declared.token.Kind.TheVariants as k
use Rattle.om_token.specs.declared.token.Token.{Token}
use Rattle.om_token.specs.declared.terminal.Terminal.{Terminal}
use Rattle.om_token.specs.declared.terminal.Terminal.TheVariants as t
use Rattle.om_parse.specs.declared.tree.Query.{Query}
use Rattle.om_parse.specs.declared.tree.Item.{Item}
use Rattle.om_parse.specs.declared.tree.TableName.{TableName}
use Rattle.om_parse.specs.declared.tree.ColumnName.{ColumnName}
use Rattle.om_parse.specs.declared.tree.Identifier.TheVariants as i
use Rattle.om_parse.specs.declared.tree.Numeral.{Numeral}
use Rattle.om_parse.specs.declared.tree.ExprTree.TheVariants as e
use Rattle.om_parse.specs.declared.tree.CondTree.{CondTree}
use Rattle.om_parse.specs.declared.tree.CondTree.TheVariants as c
use Rattle.om_parse.specs.declared.tree.CompareOp.{CompareOp}
use Rattle.om_parse.specs.declared.tree.CompareOp.TheVariants as o

abbrev pub Tokens : Type 0
Tokens = List Token

-- which tokens have which trees
abbrev pub Lang : Type 0 → Type 1
Lang A = Tokens → A → Type 0

-- a token at an offset
abbrev pub token : ℕ → Kind → Token
token at kind = record { at = at; kind = kind }

-- a reserved word or a symbol at an offset
abbrev pub terminal : ℕ → Terminal → Token
terminal at which = token at (k.Terminal which)

-- column = regular | delimited
pub data IsColumn : Tokens → ColumnName → Type 0 where
  regular : {at : ℕ} {name : List ℕ} → IsColumn (token at (k.Regular name) ∷ []) (record { at = at; name = i.Regular name })
  delimited : {at : ℕ} {name : List ℕ} → IsColumn (token at (k.Delimited name) ∷ []) (record { at = at; name = i.Delimited name })

-- a numeral
pub data IsNumeral : Tokens → Numeral → Type 0 where
  numeral : {at value : ℕ} → IsNumeral (token at (k.Numeral value) ∷ []) (record { at = at; value = value })

-- item = column
pub data IsItem : Tokens → Item → Type 0 where
  column : {u : Tokens} {name : ColumnName} → IsColumn u name → IsItem u (record { expr = e.Column name })

-- {, item}
pub data AreMoreItems : Tokens → List Item → Type 0 where
  none : AreMoreItems [] []
  more : {u v : Tokens} {item : Item} {items : List Item} (at : ℕ) → IsItem u item → AreMoreItems v items
      → AreMoreItems (terminal at t.Comma ∷ (u ++ v)) (item ∷ items)

-- item {, item}
pub data AreItems : Tokens → List Item → Type 0 where
  list : {u v : Tokens} {item : Item} {items : List Item} → IsItem u item → AreMoreItems v items → AreItems (u ++ v) (item ∷ items)

-- table = regular
pub data IsTable : Tokens → TableName → Type 0 where
  regular : {at : ℕ} {name : List ℕ} → IsTable (token at (k.Regular name) ∷ []) (record { at = at; name = name })

-- op = "=" | "<>" | "<" | "<=" | ">" | ">="
pub data IsOperator : Terminal → CompareOp → Type 0 where
  equal : IsOperator t.Equal o.Equal
  not_equal : IsOperator t.NotEqual o.NotEqual
  less : IsOperator t.Less o.Less
  less_or_equal : IsOperator t.LessOrEqual o.LessOrEqual
  greater : IsOperator t.Greater o.Greater
  greater_or_equal : IsOperator t.GreaterOrEqual o.GreaterOrEqual

-- test = column op numeral
pub data IsTest : Tokens → CondTree → Type 0 where
  comparison : {u v : Tokens} {left : ColumnName} {sign : Terminal} {op : CompareOp} {right : Numeral} (at : ℕ)
      → IsColumn u left → IsOperator sign op → IsNumeral v right
      → IsTest (u ++ terminal at sign ∷ v) (c.Compare at op (e.Column left) (e.Numeral right))

-- {AND test}
pub data AreMoreTests : Tokens → List CondTree → Type 0 where
  none : AreMoreTests [] []
  more : {u v : Tokens} {test : CondTree} {tests : List CondTree} (at : ℕ) → IsTest u test → AreMoreTests v tests
      → AreMoreTests (terminal at t.And ∷ (u ++ v)) (test ∷ tests)

-- conditions joined by AND: one alone is itself
abbrev pub all_of : CondTree → List CondTree → CondTree
all_of test [] = test
all_of test (other ∷ tests) = c.All (test ∷ other ∷ tests)

-- cond = test {AND test}
pub data IsCond : Tokens → CondTree → Type 0 where
  all : {u v : Tokens} {test : CondTree} {tests : List CondTree} → IsTest u test → AreMoreTests v tests → IsCond (u ++ v) (all_of test tests)

-- [WHERE cond]
pub data IsFilter : Tokens → Option CondTree → Type 0 where
  none : IsFilter [] None
  some : {u : Tokens} {cond : CondTree} (at : ℕ) → IsCond u cond → IsFilter (terminal at t.Where ∷ u) (Some cond)

-- query = SELECT item {, item} FROM table [WHERE cond]
pub data IsQuery : Tokens → Query → Type 0 where
  select : {u v w : Tokens} {items : List Item} {table : TableName} {filter : Option CondTree} (at from_at : ℕ)
      → AreItems u items → IsTable v table → IsFilter w filter
      → IsQuery (terminal at t.Select ∷ (u ++ terminal from_at t.From ∷ (v ++ w))) (record { items = items; tables = table ∷ []; filter = filter })
