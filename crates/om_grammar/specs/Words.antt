-- The text of a tree, to the byte. One space stands between words, none inside of parentheses, and a comma and a space between
-- the members of a list. Parentheses stand only where the tree needs them.
use Rattle.std.specs.Prelude.{ℕ, List, [], ◌∷◌, ◌++◌, codes, map, Option, Some, None, if◌then◌else◌, ◌==◌}
use Rattle.std.specs.Fmt.{decimal}
use Rattle.std.specs.List.{flat_map}
use Rattle.om_token.specs.declared.terminal.Terminal.{Terminal}
use Rattle.om_token.specs.declared.terminal.Terminal.TheVariants as t
use Rattle.om_token.specs.Quotes.{quoted}
use Rattle.om_grammar.specs.declared.tree.Query.{Query}
use Rattle.om_grammar.specs.declared.tree.Item.{Item}
use Rattle.om_grammar.specs.declared.tree.Alias.{Alias}
use Rattle.om_grammar.specs.declared.tree.TableName.{TableName}
use Rattle.om_grammar.specs.declared.tree.Label.{Label}
use Rattle.om_grammar.specs.declared.tree.ColumnName.{ColumnName}
use Rattle.om_grammar.specs.declared.tree.Identifier.{Identifier}
use Rattle.om_grammar.specs.declared.tree.Identifier.TheVariants as i
use Rattle.om_grammar.specs.declared.tree.SortKey.{SortKey}
use Rattle.om_grammar.specs.declared.tree.Key.{Key}
use Rattle.om_grammar.specs.declared.tree.Key.TheVariants as key
use Rattle.om_grammar.specs.declared.tree.Direction.{Direction}
use Rattle.om_grammar.specs.declared.tree.Direction.TheVariants as direction
use Rattle.om_grammar.specs.declared.expr_tree.ExprTree.{ExprTree}
use Rattle.om_grammar.specs.declared.expr_tree.ExprTree.TheFolds.{fold-ExprTree}
use Rattle.om_grammar.specs.declared.expr_tree.ExprTree.TheOpen.{ExprTree-F, Addend-F, Factor-F}
use Rattle.om_grammar.specs.declared.expr_tree.Addend.{Addend}
use Rattle.om_grammar.specs.declared.expr_tree.Factor.{Factor}
use Rattle.om_grammar.specs.declared.expr_tree.Sign.{Sign}
use Rattle.om_grammar.specs.declared.expr_tree.Sign.TheVariants as sign
use Rattle.om_grammar.specs.declared.expr_tree.Scale.{Scale}
use Rattle.om_grammar.specs.declared.expr_tree.Scale.TheVariants as scale
use Rattle.om_grammar.specs.declared.expr_tree.Width.{Width}
use Rattle.om_grammar.specs.declared.expr_tree.Width.TheVariants as width
use Rattle.om_grammar.specs.declared.expr_tree.Function.{Function}
use Rattle.om_grammar.specs.declared.expr_tree.Function.TheVariants as function
use Rattle.om_grammar.specs.declared.cond_tree.CondTree.{CondTree}
use Rattle.om_grammar.specs.declared.cond_tree.CondTree.TheFolds.{fold-CondTree}
use Rattle.om_grammar.specs.declared.cond_tree.CondTree.TheOpen.{CondTree-F}
use Rattle.om_grammar.specs.declared.cond_tree.Predicate.{Predicate}
use Rattle.om_grammar.specs.declared.cond_tree.Predicate.TheVariants as p
use Rattle.om_grammar.specs.declared.cond_tree.Polarity.{Polarity}
use Rattle.om_grammar.specs.declared.cond_tree.Polarity.TheVariants as polarity
use Rattle.om_grammar.specs.declared.cond_tree.CompareOp.{CompareOp}
use Rattle.om_grammar.specs.declared.cond_tree.CompareOp.TheVariants as o

-- ---- words and symbols

-- a reserved word in capitals, or a symbol
abbrev pub word : Terminal → List ℕ
word t.Select = codes "SELECT"
word t.From = codes "FROM"
word t.Where = codes "WHERE"
word t.Group = codes "GROUP"
word t.By = codes "BY"
word t.Order = codes "ORDER"
word t.Asc = codes "ASC"
word t.Desc = codes "DESC"
word t.And = codes "AND"
word t.Or = codes "OR"
word t.Not = codes "NOT"
word t.Between = codes "BETWEEN"
word t.In = codes "IN"
word t.Is = codes "IS"
word t.Null = codes "NULL"
word t.As = codes "AS"
word t.Count = codes "COUNT"
word t.Min = codes "MIN"
word t.Max = codes "MAX"
word t.Signed = codes "SIGNED"
word t.Bits = codes "BITS"
word t.Mem8 = codes "MEM8"
word t.Mem16 = codes "MEM16"
word t.Mem32 = codes "MEM32"
word t.Distinct = codes "DISTINCT"
word t.Having = codes "HAVING"
word t.Equal = codes "="
word t.NotEqual = codes "<>"
word t.LessOrEqual = codes "<="
word t.GreaterOrEqual = codes ">="
word t.Less = codes "<"
word t.Greater = codes ">"
word t.Plus = codes "+"
word t.Minus = codes "-"
word t.Star = codes "*"
word t.Slash = codes "/"
word t.LeftParen = codes "("
word t.RightParen = codes ")"
word t.Comma = codes ","
word t.Dot = codes "."
word t.Semicolon = codes ";"

-- between two spaces
abbrev pub spaced : Terminal → List ℕ
spaced which = 32 ∷ (word which ++ 32 ∷ [])

abbrev pub sign_word : Sign → Terminal
sign_word sign.Plus = t.Plus
sign_word sign.Minus = t.Minus

abbrev pub scale_word : Scale → Terminal
scale_word scale.Times = t.Star
scale_word scale.Divide = t.Slash

abbrev pub width_word : Width → Terminal
width_word width.Byte = t.Mem8
width_word width.Half = t.Mem16
width_word width.Word = t.Mem32

abbrev pub function_word : Function → Terminal
function_word function.Count = t.Count
function_word function.Min = t.Min
function_word function.Max = t.Max

abbrev pub operator_word : CompareOp → Terminal
operator_word o.Equal = t.Equal
operator_word o.NotEqual = t.NotEqual
operator_word o.Less = t.Less
operator_word o.LessOrEqual = t.LessOrEqual
operator_word o.Greater = t.Greater
operator_word o.GreaterOrEqual = t.GreaterOrEqual

-- ---- names and lists

-- what stands between quotes for one byte
abbrev pub said : ℕ → ℕ → List ℕ
said quote byte = if byte == quote then quote ∷ quote ∷ [] else byte ∷ []

-- between quotes, with two quotes for each one
abbrev pub in_quotes : ℕ → List ℕ → List ℕ
in_quotes quote said = quote ∷ (quoted quote said ++ quote ∷ [])

-- between parentheses
abbrev pub in_brackets : List ℕ → List ℕ
in_brackets text = 40 ∷ (text ++ 41 ∷ [])

abbrev pub identifier_text : Identifier → List ℕ
identifier_text (i.Regular name) = name
identifier_text (i.Delimited said) = in_quotes 34 said

-- a range variable and its point
abbrev pub qualifier_text : Option Label → List ℕ
qualifier_text None = []
qualifier_text (Some label) = label.name ++ codes "."

abbrev pub column_text : ColumnName → List ℕ
column_text column = qualifier_text column.qualifier ++ identifier_text column.name

-- members behind commas
abbrev pub more_text : {A : Type 0} → (A → List ℕ) → List A → List ℕ
more_text text = flat_map (λ member. codes ", " ++ text member)

-- members with commas between them
abbrev pub list_text : {A : Type 0} → (A → List ℕ) → List A → List ℕ
list_text text [] = []
list_text text (first ∷ rest) = text first ++ more_text text rest

-- texts one behind the other
abbrev pub joined : List (List ℕ) → List ℕ
joined = flat_map (λ text. text)

-- ---- expressions

-- the texts of an expression: as a whole, as a term of a sum, and as a factor of a product or behind a sign
pub record ExprTexts : Type 0 where
  pub whole : List ℕ
  pub term : List ℕ
  pub factor : List ℕ

-- it needs no parentheses
abbrev pub as_factor : List ℕ → ExprTexts
as_factor text = record { whole = text; term = text; factor = text }

-- it needs them as a factor
abbrev pub as_term : List ℕ → ExprTexts
as_term text = record { whole = text; term = text; factor = in_brackets text }

-- it needs them as a term or a factor
abbrev pub as_sum : List ℕ → ExprTexts
as_sum text = record { whole = text; term = in_brackets text; factor = in_brackets text }

-- an expression between the parentheses of a function
abbrev pub call_text : Terminal → List ℕ → List ℕ
call_text which inside = word which ++ in_brackets inside

-- the bounds of BITS, each behind a comma
abbrev pub bounds_text : ℕ → ℕ → List ℕ
bounds_text high low = codes ", " ++ (decimal high ++ (codes ", " ++ decimal low))

abbrev pub expr_step : ExprTree-F ExprTexts (List ℕ) (List ℕ) → ExprTexts
expr_step (ExprTree-F.Numeral numeral) = as_factor (decimal numeral.value)
expr_step (ExprTree-F.Text at said) = as_factor (in_quotes 39 said)
expr_step (ExprTree-F.Null at) = as_factor (codes "NULL")
expr_step (ExprTree-F.Column column) = as_factor (column_text column)
expr_step (ExprTree-F.Sum first rest) = as_sum (first.term ++ joined rest)
expr_step (ExprTree-F.Product first rest) = as_term (first.factor ++ joined rest)
expr_step (ExprTree-F.Sign at sign expr) = as_factor (word (sign_word sign) ++ (32 ∷ expr.factor))
expr_step (ExprTree-F.Signed at expr) = as_factor (call_text t.Signed expr.whole)
expr_step (ExprTree-F.Bits at expr high low) =
    as_factor (call_text t.Bits (expr.whole ++ bounds_text high.value low.value))
expr_step (ExprTree-F.Memory qualifier at width address) = as_factor (qualifier_text qualifier ++ call_text (width_word width) address.whole)
expr_step (ExprTree-F.CountRows at) = as_factor (codes "COUNT(*)")
expr_step (ExprTree-F.Aggregate at function expr) = as_factor (call_text (function_word function) expr.whole)

abbrev pub factor_step : Factor-F ExprTexts (List ℕ) (List ℕ) → List ℕ
factor_step factor = spaced (scale_word factor.scale) ++ factor.factor.factor

abbrev pub addend_step : Addend-F ExprTexts (List ℕ) (List ℕ) → List ℕ
addend_step addend = spaced (sign_word addend.sign) ++ addend.term.term

unfoldable pub expr_texts : ExprTree → ExprTexts
expr_texts = fold-ExprTree ExprTexts (List ℕ) (List ℕ) expr_step addend_step factor_step

-- a term of a sum after the first, behind its sign
abbrev pub addend_text : Addend → List ℕ
addend_text addend = spaced (sign_word addend.sign) ++ (expr_texts addend.term).term

-- a factor of a product after the first, behind its operator
abbrev pub factor_text : Factor → List ℕ
factor_text factor = spaced (scale_word factor.scale) ++ (expr_texts factor.factor).factor

abbrev pub expr_text : ExprTree → List ℕ
expr_text expr = (expr_texts expr).whole

-- ---- conditions

-- one text where a predicate is asked as it is, and the other where it is asked with NOT
abbrev pub chosen : Polarity → List ℕ → List ℕ → List ℕ
chosen polarity.Plain plain negated = plain
chosen polarity.Negated plain negated = negated

-- a word behind an expression, with NOT before it where the predicate is negated
abbrev pub negatable_text : Polarity → Terminal → List ℕ
negatable_text polarity which = chosen polarity (spaced which) (32 ∷ (word t.Not ++ spaced which))

-- the bounds of BETWEEN
abbrev pub range_text : ExprTree → ExprTree → List ℕ
range_text low high = expr_text low ++ (spaced t.And ++ expr_text high)

unfoldable pub predicate_text : Predicate → List ℕ
predicate_text (p.Compare at op left right) = expr_text left ++ (spaced (operator_word op) ++ expr_text right)
predicate_text (p.Between at polarity what low high) =
    expr_text what ++ (negatable_text polarity t.Between ++ range_text low high)
predicate_text (p.In at polarity what list) = expr_text what ++ (negatable_text polarity t.In ++ in_brackets (list_text expr_text list))
predicate_text (p.IsNull at polarity what) = expr_text what ++ chosen polarity (codes " IS NULL") (codes " IS NOT NULL")

-- the texts of a condition: as a whole, as a member of OR, and as a member of AND or behind NOT
pub record CondTexts : Type 0 where
  pub whole : List ℕ
  pub conj : List ℕ
  pub neg : List ℕ

-- members with a word between them
abbrev pub between_words : Terminal → List (List ℕ) → List ℕ
between_words which [] = []
between_words which (first ∷ rest) = first ++ flat_map (λ member. spaced which ++ member) rest

abbrev pub cond_step : CondTree-F CondTexts → CondTexts
cond_step (CondTree-F.Predicate predicate) =
    record { whole = predicate_text predicate; conj = predicate_text predicate; neg = predicate_text predicate }
cond_step (CondTree-F.Not at cond) =
    let text = word t.Not ++ (32 ∷ cond.neg) in record { whole = text; conj = text; neg = text }
cond_step (CondTree-F.All conds) =
    let text = between_words t.And (map (λ cond. cond.neg) conds) in record { whole = text; conj = text; neg = in_brackets text }
cond_step (CondTree-F.Any conds) =
    let text = between_words t.Or (map (λ cond. cond.conj) conds) in record { whole = text; conj = in_brackets text; neg = in_brackets text }

unfoldable pub cond_texts : CondTree → CondTexts
cond_texts = fold-CondTree CondTexts cond_step

-- ---- queries

-- the word AS and a name, where there is one
abbrev pub naming_text : {A : Type 0} → (A → List ℕ) → Option A → List ℕ
naming_text text None = []
naming_text text (Some name) = codes " AS " ++ text name

abbrev pub alias_text : Alias → List ℕ
alias_text alias = identifier_text alias.name

abbrev pub label_text : Label → List ℕ
label_text label = label.name

unfoldable pub item_text : Item → List ℕ
item_text item = expr_text item.expr ++ naming_text alias_text item.alias

unfoldable pub table_text : TableName → List ℕ
table_text table = table.name ++ naming_text label_text table.variable

abbrev pub key_text : Key → List ℕ
key_text (key.Position number) = decimal number
key_text (key.Named name) = identifier_text name

abbrev pub direction_text : Direction → List ℕ
direction_text direction.Ascending = []
direction_text direction.Descending = codes " DESC"

unfoldable pub sort_key_text : SortKey → List ℕ
sort_key_text key = key_text key.key ++ direction_text key.direction

unfoldable pub filter_text : Option CondTree → List ℕ
filter_text None = []
filter_text (Some cond) = codes " WHERE " ++ (cond_texts cond).whole

-- words and a list behind them, where it isn't empty
abbrev pub by_text : {A : Type 0} → List ℕ → (A → List ℕ) → List A → List ℕ
by_text words text [] = []
by_text words text (first ∷ rest) = words ++ list_text text (first ∷ rest)

-- what stands behind the tables
unfoldable pub clauses_text : Query → List ℕ
clauses_text query =
    filter_text query.filter ++ (by_text (codes " GROUP BY ") column_text query.groups ++ by_text (codes " ORDER BY ") sort_key_text query.keys)

-- the text of a query
unfoldable pub query_text : Query → List ℕ
query_text query =
    codes "SELECT " ++ (list_text item_text query.items ++ (codes " FROM " ++ (list_text table_text query.tables ++ clauses_text query)))
