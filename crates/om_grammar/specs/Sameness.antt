-- Trees that are the same apart from their offsets.
use Rattle.std.specs.Prelude.{◌≡◌, ℕ, List, [], ◌∷◌, Option, Some, None}
use Rattle.om_grammar.specs.declared.tree.Query.{Query}
use Rattle.om_grammar.specs.declared.tree.Item.{Item}
use Rattle.om_grammar.specs.declared.tree.Alias.{Alias}
use Rattle.om_grammar.specs.declared.tree.TableName.{TableName}
use Rattle.om_grammar.specs.declared.tree.Label.{Label}
use Rattle.om_grammar.specs.declared.tree.ColumnName.{ColumnName}
use Rattle.om_grammar.specs.declared.tree.SortKey.{SortKey}
use Rattle.om_grammar.specs.declared.expr_tree.ExprTree.{ExprTree}
use Rattle.om_grammar.specs.declared.expr_tree.ExprTree.TheVariants as v
use Rattle.om_grammar.specs.declared.expr_tree.ExprTree.TheViews as e
use Rattle.om_grammar.specs.declared.expr_tree.Addend.{Addend}
use Rattle.om_grammar.specs.declared.expr_tree.Factor.{Factor}
use Rattle.om_grammar.specs.declared.expr_tree.Numeral.{Numeral}
use Rattle.om_grammar.specs.declared.expr_tree.Sign.{Sign}
use Rattle.om_grammar.specs.declared.expr_tree.Scale.{Scale}
use Rattle.om_grammar.specs.declared.expr_tree.Width.{Width}
use Rattle.om_grammar.specs.declared.expr_tree.Function.{Function}
use Rattle.om_grammar.specs.declared.cond_tree.CondTree.{CondTree}
use Rattle.om_grammar.specs.declared.cond_tree.CondTree.TheVariants as b
use Rattle.om_grammar.specs.declared.cond_tree.CondTree.TheViews as c
use Rattle.om_grammar.specs.declared.cond_tree.Predicate.{Predicate}
use Rattle.om_grammar.specs.declared.cond_tree.Predicate.TheVariants as p
use Rattle.om_grammar.specs.declared.cond_tree.Polarity.{Polarity}
use Rattle.om_grammar.specs.declared.cond_tree.CompareOp.{CompareOp}
use Rattle.om_grammar.specs.Grammar.{addend, factor}

-- ---- members

-- both are absent, or both are there and the same
pub data SameOption {A : Type 0} (Same : A → A → Type 0) : Option A → Option A → Type 0 where
  none : SameOption Same None None
  some : {x y : A} → Same x y → SameOption Same (Some x) (Some y)

-- as many members, and each the same
pub data SameList {A : Type 0} (Same : A → A → Type 0) : List A → List A → Type 0 where
  none : SameList Same [] []
  more : {x y : A} {xs ys : List A} → Same x y → SameList Same xs ys → SameList Same (x ∷ xs) (y ∷ ys)

-- ---- names

abbrev pub SameLabel : Label → Label → Type 0
SameLabel x y = x.name ≡ y.name

abbrev pub SameAlias : Alias → Alias → Type 0
SameAlias x y = x.name ≡ y.name

pub record SameColumn (x y : ColumnName) : Type 0 where
  pub qualifier : SameOption SameLabel x.qualifier y.qualifier
  pub name : x.name ≡ y.name

-- ---- expressions

mutual
  pub data SameExpr : ExprTree → ExprTree → Type 0 where
    numeral : {x y : Numeral} → x.value ≡ y.value → SameExpr (v.Numeral x) (v.Numeral y)
    text : {said : List ℕ} (m n : ℕ) → SameExpr (v.Text m said) (v.Text n said)
    null : (m n : ℕ) → SameExpr (v.Null m) (v.Null n)
    column : {x y : ColumnName} → SameColumn x y → SameExpr (v.Column x) (v.Column y)
    sum : {x y : ExprTree} {xs ys : List Addend} → SameExpr x y → SameAddends xs ys → SameExpr (e.Sum x xs) (e.Sum y ys)
    product : {x y : ExprTree} {xs ys : List Factor} → SameExpr x y → SameFactors xs ys → SameExpr (e.Product x xs) (e.Product y ys)
    sign : {sign : Sign} {x y : ExprTree} (m n : ℕ) → SameExpr x y → SameExpr (e.Sign m sign x) (e.Sign n sign y)
    signed : {x y : ExprTree} (m n : ℕ) → SameExpr x y → SameExpr (e.Signed m x) (e.Signed n y)
    bits : {x y : ExprTree} {high low other_high other_low : Numeral} (m n : ℕ) → SameExpr x y → high.value ≡ other_high.value → low.value ≡ other_low.value
        → SameExpr (e.Bits m x high low) (e.Bits n y other_high other_low)
    memory : {q r : Option Label} {width : Width} {x y : ExprTree} (m n : ℕ) → SameOption SameLabel q r → SameExpr x y → SameExpr (e.Memory q m width x) (e.Memory r n width y)
    rows : (m n : ℕ) → SameExpr (v.CountRows m) (v.CountRows n)
    aggregate : {function : Function} {x y : ExprTree} (m n : ℕ) → SameExpr x y → SameExpr (e.Aggregate m function x) (e.Aggregate n function y)

  pub data SameAddends : List Addend → List Addend → Type 0 where
    no_addend : SameAddends [] []
    addends : {sign : Sign} {x y : ExprTree} {xs ys : List Addend} (m n : ℕ) → SameExpr x y → SameAddends xs ys → SameAddends (addend m sign x ∷ xs) (addend n sign y ∷ ys)

  pub data SameFactors : List Factor → List Factor → Type 0 where
    no_factor : SameFactors [] []
    factors : {scale : Scale} {x y : ExprTree} {xs ys : List Factor} (m n : ℕ) → SameExpr x y → SameFactors xs ys → SameFactors (factor m scale x ∷ xs) (factor n scale y ∷ ys)

-- ---- conditions

pub data SamePredicate : Predicate → Predicate → Type 0 where
  comparison : {op : CompareOp} {a b c d : ExprTree} (m n : ℕ) → SameExpr a b → SameExpr c d → SamePredicate (p.Compare m op a c) (p.Compare n op b d)
  between : {polarity : Polarity} {a b c d x y : ExprTree} (m n : ℕ) → SameExpr a b → SameExpr c d → SameExpr x y → SamePredicate (p.Between m polarity a c x) (p.Between n polarity b d y)
  within : {polarity : Polarity} {x y : ExprTree} {xs ys : List ExprTree} (m n : ℕ) → SameExpr x y → SameList SameExpr xs ys → SamePredicate (p.In m polarity x xs) (p.In n polarity y ys)
  is_null : {polarity : Polarity} {x y : ExprTree} (m n : ℕ) → SameExpr x y → SamePredicate (p.IsNull m polarity x) (p.IsNull n polarity y)

mutual
  pub data SameCond : CondTree → CondTree → Type 0 where
    predicate : {x y : Predicate} → SamePredicate x y → SameCond (b.Predicate x) (b.Predicate y)
    negation : {x y : CondTree} (m n : ℕ) → SameCond x y → SameCond (c.Not m x) (c.Not n y)
    all : {xs ys : List CondTree} → SameConds xs ys → SameCond (c.All xs) (c.All ys)
    any : {xs ys : List CondTree} → SameConds xs ys → SameCond (c.Any xs) (c.Any ys)

  pub data SameConds : List CondTree → List CondTree → Type 0 where
    no_cond : SameConds [] []
    conds : {x y : CondTree} {xs ys : List CondTree} → SameCond x y → SameConds xs ys → SameConds (x ∷ xs) (y ∷ ys)

-- ---- queries

pub record SameItem (x y : Item) : Type 0 where
  pub expr : SameExpr x.expr y.expr
  pub alias : SameOption SameAlias x.alias y.alias

pub record SameTable (x y : TableName) : Type 0 where
  pub name : x.name ≡ y.name
  pub variable : SameOption SameLabel x.variable y.variable

pub record SameSortKey (x y : SortKey) : Type 0 where
  pub key : x.key ≡ y.key
  pub direction : x.direction ≡ y.direction

pub record SameQuery (x y : Query) : Type 0 where
  pub items : SameList SameItem x.items y.items
  pub tables : SameList SameTable x.tables y.tables
  pub filter : SameOption SameCond x.filter y.filter
  pub groups : SameList SameColumn x.groups y.groups
  pub keys : SameList SameSortKey x.keys y.keys
