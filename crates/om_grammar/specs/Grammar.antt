-- The trees of a list of tokens, a case for each alternative of a production: SQL-92, sections 6.11, 7.3 to 7.9, 8.1 to 8.12
-- and 13.1, as far as the query language has them. Parentheses leave no node, and a list of one is its member.
use Rattle.std.specs.Prelude.{ℕ, List, [], ◌∷◌, ◌++◌, Option, Some, None}
use Rattle.om_token.specs.declared.token.Kind.{Kind}
use Rattle.om_token.specs.declared.token.Kind.TheVariants as k
use Rattle.om_token.specs.declared.token.Token.{Token}
use Rattle.om_token.specs.declared.terminal.Terminal.{Terminal}
use Rattle.om_token.specs.declared.terminal.Terminal.TheVariants as t
use Rattle.om_token.specs.Quotes.{unquoted}
use Rattle.om_grammar.specs.declared.tree.Query.{Query}
use Rattle.om_grammar.specs.declared.tree.Item.{Item}
use Rattle.om_grammar.specs.declared.tree.Alias.{Alias}
use Rattle.om_grammar.specs.declared.tree.TableName.{TableName}
use Rattle.om_grammar.specs.declared.tree.Label.{Label}
use Rattle.om_grammar.specs.declared.tree.ColumnName.{ColumnName}
use Rattle.om_grammar.specs.declared.tree.Identifier.{Identifier}
use Rattle.om_grammar.specs.declared.tree.Identifier.TheVariants as i
use Rattle.om_grammar.specs.declared.tree.SortKey.{SortKey}
use Rattle.om_grammar.specs.declared.tree.Key.{Key}
use Rattle.om_grammar.specs.declared.tree.Key.TheVariants as key
use Rattle.om_grammar.specs.declared.tree.Direction.{Direction}
use Rattle.om_grammar.specs.declared.tree.Direction.TheVariants as direction
use Rattle.om_grammar.specs.declared.expr_tree.ExprTree.{ExprTree}
use Rattle.om_grammar.specs.declared.expr_tree.ExprTree.TheVariants as v
use Rattle.om_grammar.specs.declared.expr_tree.ExprTree.TheViews as e
use Rattle.om_grammar.specs.declared.expr_tree.ExprTree.TheViews.{roll-Addend, roll-Factor}
use Rattle.om_grammar.specs.declared.expr_tree.Addend.{Addend}
use Rattle.om_grammar.specs.declared.expr_tree.Factor.{Factor}
use Rattle.om_grammar.specs.declared.expr_tree.Sign.{Sign}
use Rattle.om_grammar.specs.declared.expr_tree.Sign.TheVariants as sign
use Rattle.om_grammar.specs.declared.expr_tree.Scale.{Scale}
use Rattle.om_grammar.specs.declared.expr_tree.Scale.TheVariants as scale
use Rattle.om_grammar.specs.declared.expr_tree.Width.{Width}
use Rattle.om_grammar.specs.declared.expr_tree.Width.TheVariants as width
use Rattle.om_grammar.specs.declared.expr_tree.Function.{Function}
use Rattle.om_grammar.specs.declared.expr_tree.Function.TheVariants as function
use Rattle.om_grammar.specs.declared.cond_tree.CondTree.{CondTree}
use Rattle.om_grammar.specs.declared.cond_tree.CondTree.TheVariants as b
use Rattle.om_grammar.specs.declared.cond_tree.CondTree.TheViews as c
use Rattle.om_grammar.specs.declared.cond_tree.Predicate.{Predicate}
use Rattle.om_grammar.specs.declared.cond_tree.Predicate.TheVariants as p
use Rattle.om_grammar.specs.declared.cond_tree.Polarity.{Polarity}
use Rattle.om_grammar.specs.declared.cond_tree.Polarity.TheVariants as polarity
use Rattle.om_grammar.specs.declared.cond_tree.CompareOp.{CompareOp}
use Rattle.om_grammar.specs.declared.cond_tree.CompareOp.TheVariants as o
use Rattle.om_grammar.specs.declared.aggregates.Aggregates.{Aggregates}
use Rattle.om_grammar.specs.declared.aggregates.Aggregates.TheVariants as aggregates

abbrev pub Tokens : Type 0
Tokens = List Token

-- which tokens have which trees
abbrev pub Lang : Type 0 → Type 1
Lang A = Tokens → A → Type 0

-- a token at an offset
abbrev pub token : ℕ → Kind → Token
token at kind = record { at = at; kind = kind }

-- a reserved word or a symbol at an offset
abbrev pub terminal : ℕ → Terminal → Token
terminal at which = token at (k.Terminal which)

-- tokens between parentheses
abbrev pub in_parens : ℕ → ℕ → Tokens → Tokens
in_parens open_at close_at u = terminal open_at t.LeftParen ∷ (u ++ terminal close_at t.RightParen ∷ [])

-- ---- names

-- regular | delimited
pub data IsIdentifier : Kind → Identifier → Type 0 where
  regular : {name : List ℕ} → IsIdentifier (k.Regular name) (i.Regular name)
  delimited : {inside : List ℕ} → IsIdentifier (k.Delimited inside) (i.Delimited (unquoted 34 inside))

-- column = [regular "."] (regular | delimited)
pub data IsColumn : Tokens → ColumnName → Type 0 where
  alone : {kind : Kind} {name : Identifier} (at : ℕ) → IsIdentifier kind name → IsColumn (token at kind ∷ []) (record { qualifier = None; at = at; name = name })
  qualified : {variable : List ℕ} {kind : Kind} {name : Identifier} (variable_at dot_at at : ℕ) → IsIdentifier kind name
      → IsColumn (token variable_at (k.Regular variable) ∷ terminal dot_at t.Dot ∷ token at kind ∷ [])
      (record { qualifier = Some (record { at = variable_at; name = variable }); at = at; name = name })

-- [regular "."]
pub data IsQualifier : Tokens → Option Label → Type 0 where
  none : IsQualifier [] None
  some : {variable : List ℕ} (at dot_at : ℕ) → IsQualifier (token at (k.Regular variable) ∷ terminal dot_at t.Dot ∷ []) (Some (record { at = at; name = variable }))

-- ---- lists

-- {separator member}
pub data AreMore {A : Type 0} (separator : Terminal) (M : Lang A) : Tokens → List A → Type 0 where
  none : AreMore separator M [] []
  more : {u w : Tokens} {x : A} {xs : List A} (at : ℕ) → M u x → AreMore separator M w xs → AreMore separator M (terminal at separator ∷ (u ++ w)) (x ∷ xs)

-- member {separator member}
pub data AreListed {A : Type 0} (separator : Terminal) (M : Lang A) : Tokens → List A → Type 0 where
  list : {u w : Tokens} {x : A} {xs : List A} → M u x → AreMore separator M w xs → AreListed separator M (u ++ w) (x ∷ xs)

-- ---- expressions

-- "+" | "-"
pub data IsSign : Terminal → Sign → Type 0 where
  plus : IsSign t.Plus sign.Plus
  minus : IsSign t.Minus sign.Minus

-- "*" | "/"
pub data IsScale : Terminal → Scale → Type 0 where
  times : IsScale t.Star scale.Times
  divide : IsScale t.Slash scale.Divide

-- mem = MEM8 | MEM16 | MEM32
pub data IsWidth : Terminal → Width → Type 0 where
  byte : IsWidth t.Mem8 width.Byte
  half : IsWidth t.Mem16 width.Half
  word : IsWidth t.Mem32 width.Word

-- COUNT | MIN | MAX
pub data IsFunction : Terminal → Function → Type 0 where
  count : IsFunction t.Count function.Count
  least : IsFunction t.Min function.Min
  greatest : IsFunction t.Max function.Max

abbrev pub addend : ℕ → Sign → ExprTree → Addend
addend at sign x = roll-Addend (record { at = at; sign = sign; term = x })

abbrev pub factor : ℕ → Scale → ExprTree → Factor
factor at scale x = roll-Factor (record { at = at; scale = scale; factor = x })

abbrev pub sum_of : ExprTree → List Addend → ExprTree
sum_of x [] = x
sum_of x (y ∷ ys) = e.Sum x (y ∷ ys)

abbrev pub product_of : ExprTree → List Factor → ExprTree
product_of x [] = x
product_of x (y ∷ ys) = e.Product x (y ∷ ys)

-- in an expression aggregates are allowed or refused
mutual
  -- expr = term {("+" | "-") term}
  pub data IsExpr : Aggregates → Tokens → ExprTree → Type 0 where
    sum : {g : Aggregates} {u w : Tokens} {x : ExprTree} {xs : List Addend} → IsTerm g u x → AreAddends g w xs → IsExpr g (u ++ w) (sum_of x xs)

  pub data AreAddends : Aggregates → Tokens → List Addend → Type 0 where
    no_addend : {g : Aggregates} → AreAddends g [] []
    addends : {g : Aggregates} {u w : Tokens} {which : Terminal} {sign : Sign} {x : ExprTree} {xs : List Addend} (at : ℕ)
        → IsSign which sign → IsTerm g u x → AreAddends g w xs → AreAddends g (terminal at which ∷ (u ++ w)) (addend at sign x ∷ xs)

  -- term = factor {("*" | "/") factor}
  pub data IsTerm : Aggregates → Tokens → ExprTree → Type 0 where
    product : {g : Aggregates} {u w : Tokens} {x : ExprTree} {xs : List Factor} → IsFactor g u x → AreFactors g w xs → IsTerm g (u ++ w) (product_of x xs)

  pub data AreFactors : Aggregates → Tokens → List Factor → Type 0 where
    no_factor : {g : Aggregates} → AreFactors g [] []
    factors : {g : Aggregates} {u w : Tokens} {which : Terminal} {scale : Scale} {x : ExprTree} {xs : List Factor} (at : ℕ)
        → IsScale which scale → IsFactor g u x → AreFactors g w xs → AreFactors g (terminal at which ∷ (u ++ w)) (factor at scale x ∷ xs)

  -- factor = {"+" | "-"} primary
  pub data IsFactor : Aggregates → Tokens → ExprTree → Type 0 where
    primary : {g : Aggregates} {u : Tokens} {x : ExprTree} → IsPrimary g u x → IsFactor g u x
    with_sign : {g : Aggregates} {u : Tokens} {which : Terminal} {sign : Sign} {x : ExprTree} (at : ℕ) → IsSign which sign → IsFactor g u x
        → IsFactor g (terminal at which ∷ u) (e.Sign at sign x)

  -- primary = numeral | text | NULL | column | "(" expr ")" | SIGNED "(" expr ")" | BITS "(" expr "," numeral "," numeral ")"
  --         | [regular "."] mem "(" expr ")" | COUNT "(" "*" ")" | (COUNT | MIN | MAX) "(" expr ")"
  pub data IsPrimary : Aggregates → Tokens → ExprTree → Type 0 where
    numeral : {g : Aggregates} {value : ℕ} (at : ℕ) → IsPrimary g (token at (k.Numeral value) ∷ []) (v.Numeral (record { at = at; value = value }))
    text : {g : Aggregates} {inside : List ℕ} (at : ℕ) → IsPrimary g (token at (k.Text inside) ∷ []) (v.Text at (unquoted 39 inside))
    null : {g : Aggregates} (at : ℕ) → IsPrimary g (terminal at t.Null ∷ []) (v.Null at)
    column : {g : Aggregates} {u : Tokens} {name : ColumnName} → IsColumn u name → IsPrimary g u (v.Column name)
    parens : {g : Aggregates} {u : Tokens} {x : ExprTree} (open_at close_at : ℕ) → IsExpr g u x → IsPrimary g (in_parens open_at close_at u) x
    signed : {g : Aggregates} {u : Tokens} {x : ExprTree} (at open_at close_at : ℕ) → IsExpr g u x
        → IsPrimary g (terminal at t.Signed ∷ in_parens open_at close_at u) (e.Signed at x)
    bits : {g : Aggregates} {u : Tokens} {x : ExprTree} {high low : ℕ} (at open_at comma_at high_at other_at low_at close_at : ℕ) → IsExpr g u x
        → IsPrimary g
        (terminal at t.Bits ∷ in_parens open_at close_at
        (u ++ terminal comma_at t.Comma ∷ token high_at (k.Numeral high) ∷ terminal other_at t.Comma ∷ token low_at (k.Numeral low) ∷ []))
        (e.Bits at x (record { at = high_at; value = high }) (record { at = low_at; value = low }))
    memory : {g : Aggregates} {q u : Tokens} {qualifier : Option Label} {which : Terminal} {width : Width} {x : ExprTree} (at open_at close_at : ℕ)
        → IsQualifier q qualifier → IsWidth which width → IsExpr g u x
        → IsPrimary g (q ++ terminal at which ∷ in_parens open_at close_at u) (e.Memory qualifier at width x)
    rows : (at open_at star_at close_at : ℕ)
        → IsPrimary aggregates.Allowed (terminal at t.Count ∷ in_parens open_at close_at (terminal star_at t.Star ∷ [])) (v.CountRows at)
    aggregate : {u : Tokens} {which : Terminal} {function : Function} {x : ExprTree} (at open_at close_at : ℕ)
        → IsFunction which function → IsExpr aggregates.Refused u x
        → IsPrimary aggregates.Allowed (terminal at which ∷ in_parens open_at close_at u) (e.Aggregate at function x)

-- ---- conditions

-- op = "=" | "<>" | "<" | "<=" | ">" | ">="
pub data IsOperator : Terminal → CompareOp → Type 0 where
  equal : IsOperator t.Equal o.Equal
  not_equal : IsOperator t.NotEqual o.NotEqual
  less : IsOperator t.Less o.Less
  less_or_equal : IsOperator t.LessOrEqual o.LessOrEqual
  greater : IsOperator t.Greater o.Greater
  greater_or_equal : IsOperator t.GreaterOrEqual o.GreaterOrEqual

-- [NOT]
pub data IsPolarity : Tokens → Polarity → Type 0 where
  plain : IsPolarity [] polarity.Plain
  negated : (at : ℕ) → IsPolarity (terminal at t.Not ∷ []) polarity.Negated

-- an expression without aggregates
abbrev pub IsValue : Lang ExprTree
IsValue = IsExpr aggregates.Refused

-- predicate = expr op expr | expr [NOT] BETWEEN expr AND expr | expr [NOT] IN "(" expr {"," expr} ")" | expr IS [NOT] NULL
pub data IsPredicate : Tokens → Predicate → Type 0 where
  comparison : {u w : Tokens} {which : Terminal} {op : CompareOp} {left right : ExprTree} (at : ℕ)
      → IsValue u left → IsOperator which op → IsValue w right → IsPredicate (u ++ terminal at which ∷ w) (p.Compare at op left right)
  between : {u n v w : Tokens} {polarity : Polarity} {what low high : ExprTree} (at and_at : ℕ)
      → IsValue u what → IsPolarity n polarity → IsValue v low → IsValue w high
      → IsPredicate (u ++ (n ++ terminal at t.Between ∷ (v ++ terminal and_at t.And ∷ w))) (p.Between at polarity what low high)
  within : {u n w : Tokens} {polarity : Polarity} {what : ExprTree} {list : List ExprTree} (at open_at close_at : ℕ)
      → IsValue u what → IsPolarity n polarity → AreListed t.Comma IsValue w list
      → IsPredicate (u ++ (n ++ terminal at t.In ∷ in_parens open_at close_at w)) (p.In at polarity what list)
  is_null : {u n : Tokens} {polarity : Polarity} {what : ExprTree} (at null_at : ℕ)
      → IsValue u what → IsPolarity n polarity
      → IsPredicate (u ++ terminal at t.Is ∷ (n ++ terminal null_at t.Null ∷ [])) (p.IsNull at polarity what)

abbrev pub all_of : CondTree → List CondTree → CondTree
all_of x [] = x
all_of x (y ∷ ys) = c.All (x ∷ y ∷ ys)

abbrev pub any_of : CondTree → List CondTree → CondTree
any_of x [] = x
any_of x (y ∷ ys) = c.Any (x ∷ y ∷ ys)

mutual
  -- cond = conj {OR conj}
  pub data IsCond : Tokens → CondTree → Type 0 where
    any : {u w : Tokens} {x : CondTree} {xs : List CondTree} → IsConj u x → AreConjs w xs → IsCond (u ++ w) (any_of x xs)

  pub data AreConjs : Tokens → List CondTree → Type 0 where
    no_conj : AreConjs [] []
    conjs : {u w : Tokens} {x : CondTree} {xs : List CondTree} (at : ℕ) → IsConj u x → AreConjs w xs → AreConjs (terminal at t.Or ∷ (u ++ w)) (x ∷ xs)

  -- conj = neg {AND neg}
  pub data IsConj : Tokens → CondTree → Type 0 where
    all : {u w : Tokens} {x : CondTree} {xs : List CondTree} → IsNeg u x → AreNegs w xs → IsConj (u ++ w) (all_of x xs)

  pub data AreNegs : Tokens → List CondTree → Type 0 where
    no_neg : AreNegs [] []
    negs : {u w : Tokens} {x : CondTree} {xs : List CondTree} (at : ℕ) → IsNeg u x → AreNegs w xs → AreNegs (terminal at t.And ∷ (u ++ w)) (x ∷ xs)

  -- neg = {NOT} test
  pub data IsNeg : Tokens → CondTree → Type 0 where
    test : {u : Tokens} {x : CondTree} → IsTest u x → IsNeg u x
    negation : {u : Tokens} {x : CondTree} (at : ℕ) → IsNeg u x → IsNeg (terminal at t.Not ∷ u) (c.Not at x)

  -- test = "(" cond ")" | predicate
  pub data IsTest : Tokens → CondTree → Type 0 where
    nested : {u : Tokens} {x : CondTree} (open_at close_at : ℕ) → IsCond u x → IsTest (in_parens open_at close_at u) x
    predicate : {u : Tokens} {x : Predicate} → IsPredicate u x → IsTest u (b.Predicate x)

-- ---- queries

-- alias = regular | delimited
pub data IsAlias : Tokens → Alias → Type 0 where
  alias : {kind : Kind} {name : Identifier} (at : ℕ) → IsIdentifier kind name → IsAlias (token at kind ∷ []) (record { at = at; name = name })

-- the name of a range variable
pub data IsLabel : Tokens → Label → Type 0 where
  label : {name : List ℕ} (at : ℕ) → IsLabel (token at (k.Regular name) ∷ []) (record { at = at; name = name })

-- [[AS] name]
pub data IsNaming {A : Type 0} (M : Lang A) : Tokens → Option A → Type 0 where
  none : IsNaming M [] None
  bare : {u : Tokens} {x : A} → M u x → IsNaming M u (Some x)
  «as» : {u : Tokens} {x : A} (at : ℕ) → M u x → IsNaming M (terminal at t.As ∷ u) (Some x)

-- item = expr [[AS] alias]
pub data IsItem : Tokens → Item → Type 0 where
  item : {u w : Tokens} {x : ExprTree} {name : Option Alias} → IsExpr aggregates.Allowed u x → IsNaming IsAlias w name → IsItem (u ++ w) (record { expr = x; alias = name })

-- table = regular [[AS] regular]
pub data IsTable : Tokens → TableName → Type 0 where
  table : {w : Tokens} {name : List ℕ} {variable : Option Label} (at : ℕ) → IsNaming IsLabel w variable
      → IsTable (token at (k.Regular name) ∷ w) (record { at = at; name = name; variable = variable })

-- numeral | alias
pub data IsKey : Kind → Key → Type 0 where
  position : {value : ℕ} → IsKey (k.Numeral value) (key.Position value)
  named : {kind : Kind} {name : Identifier} → IsIdentifier kind name → IsKey kind (key.Named name)

-- [ASC | DESC]
pub data IsDirection : Tokens → Direction → Type 0 where
  none : IsDirection [] direction.Ascending
  ascending : (at : ℕ) → IsDirection (terminal at t.Asc ∷ []) direction.Ascending
  descending : (at : ℕ) → IsDirection (terminal at t.Desc ∷ []) direction.Descending

-- key = (numeral | alias) [ASC | DESC]
pub data IsSortKey : Tokens → SortKey → Type 0 where
  sort_key : {w : Tokens} {kind : Kind} {key : Key} {direction : Direction} (at : ℕ) → IsKey kind key → IsDirection w direction
      → IsSortKey (token at kind ∷ w) (record { at = at; key = key; direction = direction })

-- [WHERE cond]
pub data IsFilter : Tokens → Option CondTree → Type 0 where
  none : IsFilter [] None
  some : {u : Tokens} {cond : CondTree} (at : ℕ) → IsCond u cond → IsFilter (terminal at t.Where ∷ u) (Some cond)

-- [word BY member {"," member}]
pub data IsBy {A : Type 0} (word : Terminal) (M : Lang A) : Tokens → List A → Type 0 where
  none : IsBy word M [] []
  by : {u : Tokens} {xs : List A} (at by_at : ℕ) → AreListed t.Comma M u xs → IsBy word M (terminal at word ∷ terminal by_at t.By ∷ u) xs

-- [";"]
pub data IsEnd : Tokens → Type 0 where
  none : IsEnd []
  some : (at : ℕ) → IsEnd (terminal at t.Semicolon ∷ [])

-- query = SELECT item {"," item} FROM table {"," table} [WHERE cond] [GROUP BY column {"," column}] [ORDER BY key {"," key}] [";"]
pub data IsQuery : Tokens → Query → Type 0 where
  select : {u v w x y z : Tokens} {items : List Item} {tables : List TableName} {filter : Option CondTree} {groups : List ColumnName} {keys : List SortKey} (at from_at : ℕ)
      → AreListed t.Comma IsItem u items → AreListed t.Comma IsTable v tables → IsFilter w filter
      → IsBy t.Group IsColumn x groups → IsBy t.Order IsSortKey y keys → IsEnd z
      → IsQuery (terminal at t.Select ∷ (u ++ terminal from_at t.From ∷ (v ++ (w ++ (x ++ (y ++ z))))))
      (record { items = items; tables = tables; filter = filter; groups = groups; keys = keys })
