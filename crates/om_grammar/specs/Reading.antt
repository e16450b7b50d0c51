-- What the parser reads of each production. `depth` is how many more parentheses and signs may be open.
use Rattle.std.specs.Prelude.{ℕ, zero, suc, Bool, false, List, Ok, Err, [], ◌∷◌, Option, Some, None, if◌then◌else◌}
use Rattle.om_token.specs.declared.token.Kind.{Kind}
use Rattle.om_token.specs.declared.token.Kind.TheVariants as k
use Rattle.om_token.specs.declared.token.Token.{Token}
use Rattle.om_token.specs.declared.terminal.Terminal.{Terminal}
use Rattle.om_token.specs.declared.terminal.Terminal.TheVariants as t
use Rattle.om_token.specs.Terminals.{same}
use Rattle.om_token.specs.Quotes.{unquoted}
use Rattle.om_grammar.specs.declared.tree.Query.{Query}
use Rattle.om_grammar.specs.declared.tree.Item.{Item}
use Rattle.om_grammar.specs.declared.tree.Alias.{Alias}
use Rattle.om_grammar.specs.declared.tree.TableName.{TableName}
use Rattle.om_grammar.specs.declared.tree.Label.{Label}
use Rattle.om_grammar.specs.declared.tree.ColumnName.{ColumnName}
use Rattle.om_grammar.specs.declared.tree.Identifier.{Identifier}
use Rattle.om_grammar.specs.declared.tree.Identifier.TheVariants as i
use Rattle.om_grammar.specs.declared.tree.SortKey.{SortKey}
use Rattle.om_grammar.specs.declared.tree.Key.{Key}
use Rattle.om_grammar.specs.declared.tree.Key.TheVariants as key
use Rattle.om_grammar.specs.declared.tree.Direction.{Direction}
use Rattle.om_grammar.specs.declared.tree.Direction.TheVariants as direction
use Rattle.om_grammar.specs.declared.expr_tree.ExprTree.{ExprTree}
use Rattle.om_grammar.specs.declared.expr_tree.ExprTree.TheVariants as v
use Rattle.om_grammar.specs.declared.expr_tree.ExprTree.TheViews as e
use Rattle.om_grammar.specs.declared.expr_tree.Addend.{Addend}
use Rattle.om_grammar.specs.declared.expr_tree.Factor.{Factor}
use Rattle.om_grammar.specs.declared.expr_tree.Numeral.{Numeral}
use Rattle.om_grammar.specs.declared.expr_tree.Sign.{Sign}
use Rattle.om_grammar.specs.declared.expr_tree.Sign.TheVariants as sign
use Rattle.om_grammar.specs.declared.expr_tree.Scale.{Scale}
use Rattle.om_grammar.specs.declared.expr_tree.Scale.TheVariants as scale
use Rattle.om_grammar.specs.declared.expr_tree.Width.TheVariants as width
use Rattle.om_grammar.specs.declared.expr_tree.Function.TheVariants as function
use Rattle.om_grammar.specs.declared.cond_tree.CondTree.{CondTree}
use Rattle.om_grammar.specs.declared.cond_tree.CondTree.TheVariants as b
use Rattle.om_grammar.specs.declared.cond_tree.CondTree.TheViews as c
use Rattle.om_grammar.specs.declared.cond_tree.Predicate.{Predicate}
use Rattle.om_grammar.specs.declared.cond_tree.Predicate.TheVariants as p
use Rattle.om_grammar.specs.declared.cond_tree.Polarity.{Polarity}
use Rattle.om_grammar.specs.declared.cond_tree.Polarity.TheVariants as polarity
use Rattle.om_grammar.specs.declared.cond_tree.CompareOp.TheVariants as o
use Rattle.om_grammar.specs.declared.aggregates.Aggregates.{Aggregates}
use Rattle.om_grammar.specs.declared.aggregates.Aggregates.TheVariants as aggregates
use Rattle.om_grammar.specs.declared.found.Found.{Found}
use Rattle.om_grammar.specs.declared.found.Found.TheVariants as f
use Rattle.om_grammar.specs.declared.lead.Lead.{Lead}
use Rattle.om_grammar.specs.declared.lead.Lead.TheVariants as l
use Rattle.om_grammar.specs.declared.start.Start.{Start}
use Rattle.om_grammar.specs.declared.start.Start.TheVariants as start
use Rattle.om_grammar.specs.declared.start.Form.{Form}
use Rattle.om_grammar.specs.declared.start.Form.TheVariants as form
use Rattle.om_grammar.specs.declared.lead.Dotted.{Dotted}
use Rattle.om_grammar.specs.declared.lead.Dotted.TheVariants as dotted
use Rattle.om_grammar.specs.declared.lead.Word.{Word}
use Rattle.om_grammar.specs.declared.lead.Word.TheVariants as word
use Rattle.om_grammar.specs.declared.lead.Negatable.{Negatable}
use Rattle.om_grammar.specs.declared.lead.Negatable.TheVariants as negatable
use Rattle.om_grammar.specs.Grammar.{addend, factor, sum_of, product_of, all_of, any_of}
use Rattle.om_grammar.specs.declared.stop.Stop.TheVariants as stop
use Rattle.om_grammar.specs.Parsers.{Parser, ◌>>=◌, pure, wrong, deep, one, branch, tails}

-- ---- one token

abbrev pub is : Terminal → Kind → Bool
is which (k.Terminal other) = same which other
is which _ = false

-- the offset of a reserved word or a symbol
abbrev pub offset_of : Terminal → Token → Option ℕ
offset_of which token = if is which token.kind then Some token.at else None

abbrev pub sign_in : ℕ → Kind → Option (ℕ × Sign)
sign_in at (k.Terminal t.Plus) = Some (at, sign.Plus)
sign_in at (k.Terminal t.Minus) = Some (at, sign.Minus)
sign_in at _ = None

-- a sign, and its offset
abbrev pub sign_of : Token → Option (ℕ × Sign)
sign_of token = sign_in token.at token.kind

abbrev pub scale_in : ℕ → Kind → Option (ℕ × Scale)
scale_in at (k.Terminal t.Star) = Some (at, scale.Times)
scale_in at (k.Terminal t.Slash) = Some (at, scale.Divide)
scale_in at _ = None

-- the operator of a product, and its offset
abbrev pub scale_of : Token → Option (ℕ × Scale)
scale_of token = scale_in token.at token.kind

abbrev pub numeral_in : ℕ → Kind → Option Numeral
numeral_in at (k.Numeral value) = Some (record { at = at; value = value })
numeral_in at _ = None

abbrev pub numeral_of : Token → Option Numeral
numeral_of token = numeral_in token.at token.kind

abbrev pub label_in : ℕ → Kind → Option Label
label_in at (k.Regular name) = Some (record { at = at; name = name })
label_in at _ = None

-- a regular identifier
abbrev pub label_of : Token → Option Label
label_of token = label_in token.at token.kind

abbrev pub alias_in : ℕ → Kind → Option Alias
alias_in at (k.Regular name) = Some (record { at = at; name = i.Regular name })
alias_in at (k.Delimited inside) = Some (record { at = at; name = i.Delimited (unquoted 34 inside) })
alias_in at _ = None

-- an identifier
abbrev pub alias_of : Token → Option Alias
alias_of token = alias_in token.at token.kind

-- what a reserved word begins, where aggregates are refused, and where they are allowed
abbrev pub lead_word : ℕ → Terminal → Option Lead
lead_word at t.Null = Some (l.Null at)
lead_word at t.LeftParen = Some l.Paren
lead_word at t.Signed = Some (l.Signed at)
lead_word at t.Bits = Some (l.Bits at)
lead_word at t.Mem8 = Some (l.Memory at width.Byte)
lead_word at t.Mem16 = Some (l.Memory at width.Half)
lead_word at t.Mem32 = Some (l.Memory at width.Word)
lead_word at _ = None

abbrev pub lead_aggregate : ℕ → Terminal → Option Lead
lead_aggregate at t.Count = Some (l.Count at)
lead_aggregate at t.Min = Some (l.Extreme at function.Min)
lead_aggregate at t.Max = Some (l.Extreme at function.Max)
lead_aggregate at which = lead_word at which

abbrev pub lead_terminal : Aggregates → ℕ → Terminal → Option Lead
lead_terminal aggregates.Allowed at which = lead_aggregate at which
lead_terminal aggregates.Refused at which = lead_word at which

abbrev pub lead_in : Aggregates → ℕ → Kind → Option Lead
lead_in g at (k.Terminal which) = lead_terminal g at which
lead_in g at (k.Regular name) = Some (l.Regular at name)
lead_in g at (k.Delimited inside) = Some (l.Delimited at inside)
lead_in g at (k.Numeral value) = Some (l.Numeral (record { at = at; value = value }))
lead_in g at (k.Text inside) = Some (l.Text at inside)

-- what begins a primary
abbrev pub lead_of : Aggregates → Token → Option Lead
lead_of g token = lead_in g token.at token.kind

abbrev pub dotted_in : ℕ → Kind → Option Dotted
dotted_in at (k.Regular name) = Some (dotted.Regular at name)
dotted_in at (k.Delimited inside) = Some (dotted.Delimited at inside)
dotted_in at (k.Terminal t.Mem8) = Some (dotted.Memory at width.Byte)
dotted_in at (k.Terminal t.Mem16) = Some (dotted.Memory at width.Half)
dotted_in at (k.Terminal t.Mem32) = Some (dotted.Memory at width.Word)
dotted_in at _ = None

-- what stands behind a range variable and its point
abbrev pub dotted_of : Token → Option Dotted
dotted_of token = dotted_in token.at token.kind

abbrev pub word_in : ℕ → Kind → Option Word
word_in at (k.Terminal t.Equal) = Some (word.Compare at o.Equal)
word_in at (k.Terminal t.NotEqual) = Some (word.Compare at o.NotEqual)
word_in at (k.Terminal t.Less) = Some (word.Compare at o.Less)
word_in at (k.Terminal t.LessOrEqual) = Some (word.Compare at o.LessOrEqual)
word_in at (k.Terminal t.Greater) = Some (word.Compare at o.Greater)
word_in at (k.Terminal t.GreaterOrEqual) = Some (word.Compare at o.GreaterOrEqual)
word_in at (k.Terminal t.Not) = Some word.Not
word_in at (k.Terminal t.Between) = Some (word.Between at)
word_in at (k.Terminal t.In) = Some (word.In at)
word_in at (k.Terminal t.Is) = Some (word.Is at)
word_in at _ = None

-- what makes a predicate of the expression before it
abbrev pub word_of : Token → Option Word
word_of token = word_in token.at token.kind

abbrev pub negatable_in : ℕ → Kind → Option Negatable
negatable_in at (k.Terminal t.Between) = Some (negatable.Between at)
negatable_in at (k.Terminal t.In) = Some (negatable.In at)
negatable_in at _ = None

abbrev pub negatable_of : Token → Option Negatable
negatable_of token = negatable_in token.at token.kind

abbrev pub key_in : Kind → Option Key
key_in (k.Numeral value) = Some (key.Position value)
key_in (k.Regular name) = Some (key.Named (i.Regular name))
key_in (k.Delimited inside) = Some (key.Named (i.Delimited (unquoted 34 inside)))
key_in _ = None

abbrev pub key_at : ℕ → Option Key → Option (ℕ × Key)
key_at at (Some key) = Some (at, key)
key_at at None = None

-- what rows are sorted by, and its offset
abbrev pub key_of : Token → Option (ℕ × Key)
key_of token = key_at token.at (key_in token.kind)

abbrev pub direction_in : Kind → Option Direction
direction_in (k.Terminal t.Asc) = Some direction.Ascending
direction_in (k.Terminal t.Desc) = Some direction.Descending
direction_in _ = None

abbrev pub direction_of : Token → Option Direction
direction_of token = direction_in token.kind

abbrev pub expect : Terminal → Parser ℕ
expect which = one (offset_of which)

-- ---- frames

-- up to the parenthesis that closes
unfoldable pub closed : {A : Type 0} → Parser A → Parser A
closed inner = inner >>= λ x. expect t.RightParen >>= λ _. pure x

-- between parentheses
unfoldable pub enclosed : {A : Type 0} → Parser A → Parser A
enclosed inner = expect t.LeftParen >>= λ _. closed inner

-- a member, and more of them behind commas
unfoldable pub listed : {A : Type 0} → Parser A → Parser (List A)
listed member = member >>= λ x. tails (offset_of t.Comma) (λ _. member) >>= λ xs. pure (x ∷ xs)

-- ---- expressions, over a parser of factors

unfoldable pub more_factors : Parser ExprTree → Parser (List Factor)
more_factors one_factor = tails scale_of (λ s. one_factor >>= λ x. pure (factor s.0 s.1 x))

-- the rest of a product
unfoldable pub product : Parser ExprTree → ExprTree → Parser ExprTree
product one_factor first = more_factors one_factor >>= λ xs. pure (product_of first xs)

unfoldable pub term : Parser ExprTree → Parser ExprTree
term one_factor = one_factor >>= λ x. product one_factor x

unfoldable pub more_addends : Parser ExprTree → Parser (List Addend)
more_addends one_factor = tails sign_of (λ s. term one_factor >>= λ x. pure (addend s.0 s.1 x))

-- the rest of a sum
unfoldable pub sum : Parser ExprTree → ExprTree → Parser ExprTree
sum one_factor first = more_addends one_factor >>= λ xs. pure (sum_of first xs)

unfoldable pub expr_over : Parser ExprTree → Parser ExprTree
expr_over one_factor = term one_factor >>= λ x. sum one_factor x

-- the rest of an expression that begins with a primary
unfoldable pub resumed : Parser ExprTree → ExprTree → Parser ExprTree
resumed one_factor first = product one_factor first >>= λ x. sum one_factor x

-- ---- primaries, over a parser of the expressions in parentheses

abbrev pub column_tree : Option Label → ℕ → Identifier → ExprTree
column_tree qualifier at name = v.Column (record { qualifier = qualifier; at = at; name = name })

-- the parenthesis behind a function's word
unfoldable pub opened : Form → Parser Start
opened form = expect t.LeftParen >>= λ _. pure (start.Open form)

-- what stands behind a range variable and its point
unfoldable pub after_dot : Label → Dotted → Parser Start
after_dot variable (dotted.Regular at name) = pure (start.Whole (column_tree (Some variable) at (i.Regular name)))
after_dot variable (dotted.Delimited at inside) = pure (start.Whole (column_tree (Some variable) at (i.Delimited (unquoted 34 inside))))
after_dot variable (dotted.Memory at width) = opened (form.Memory (Some variable) at width)

-- what goes on from a regular identifier
unfoldable pub named : Label → Parser Start
named first =
    branch (offset_of t.Dot) (λ _. one dotted_of >>= after_dot first) (pure (start.Whole (column_tree None first.at (i.Regular first.name))))

unfoldable pub counted : ℕ → Parser Start
counted at =
    expect t.LeftParen >>= λ _. branch (offset_of t.Star) (λ _. pure (start.Rows at)) (pure (start.Open (form.Aggregate at function.Count)))

-- what goes on from the first token of a primary
unfoldable pub after_lead : Lead → Parser Start
after_lead (l.Numeral numeral) = pure (start.Whole (v.Numeral numeral))
after_lead (l.Text at inside) = pure (start.Whole (v.Text at (unquoted 39 inside)))
after_lead (l.Null at) = pure (start.Whole (v.Null at))
after_lead (l.Regular at name) = named (record { at = at; name = name })
after_lead (l.Delimited at inside) = pure (start.Whole (column_tree None at (i.Delimited (unquoted 34 inside))))
after_lead l.Paren = pure (start.Open form.Paren)
after_lead (l.Signed at) = opened (form.Signed at)
after_lead (l.Bits at) = opened (form.Bits at)
after_lead (l.Memory at width) = opened (form.Memory None at width)
after_lead (l.Count at) = counted at
after_lead (l.Extreme at function) = opened (form.Aggregate at function)

-- a primary without parentheses, or the front of one with them
unfoldable pub front : Aggregates → Parser Start
front g = one (lead_of g) >>= after_lead

-- whether aggregates are allowed inside
abbrev pub inside : Aggregates → Form → Aggregates
inside g (form.Aggregate at function) = aggregates.Refused
inside g _ = g

unfoldable pub comma_numeral : Parser Numeral
comma_numeral = expect t.Comma >>= λ _. one numeral_of

unfoldable pub bit_numbers : ℕ → ExprTree → Parser ExprTree
bit_numbers at x = comma_numeral >>= λ high. comma_numeral >>= λ low. pure (e.Bits at x high low)

-- what goes on from the expression in parentheses
unfoldable pub completed : Form → ExprTree → Parser ExprTree
completed form.Paren x = pure x
completed (form.Signed at) x = pure (e.Signed at x)
completed (form.Bits at) x = bit_numbers at x
completed (form.Memory qualifier at width) x = pure (e.Memory qualifier at width x)
completed (form.Aggregate at function) x = pure (e.Aggregate at function x)

unfoldable pub nested : (Aggregates → Parser ExprTree) → Aggregates → Form → Parser ExprTree
nested inner g form = inner (inside g form) >>= λ x. completed form x >>= λ y. expect t.RightParen >>= λ _. pure y

unfoldable pub finish : (Aggregates → Parser ExprTree) → Aggregates → Start → Parser ExprTree
finish inner g (start.Whole x) = pure x
finish inner g (start.Rows at) = expect t.RightParen >>= λ _. pure (v.CountRows at)
finish inner g (start.Open form) = nested inner g form

unfoldable pub primary : (Aggregates → Parser ExprTree) → Aggregates → Parser ExprTree
primary inner g = front g >>= finish inner g

-- ---- expressions

unfoldable pub factor_at : ℕ → Aggregates → Parser ExprTree
factor_at zero g = deep
factor_at (suc depth) g =
    branch sign_of (λ s. factor_at depth g >>= λ x. pure (e.Sign s.0 s.1 x)) (primary (λ h. expr_over (factor_at depth h)) g)

unfoldable pub expr : ℕ → Aggregates → Parser ExprTree
expr depth g = expr_over (factor_at depth g)

-- an expression without aggregates
abbrev pub value : ℕ → Parser ExprTree
value depth = expr_over (factor_at depth aggregates.Refused)

-- ---- predicates, over a parser of expressions

unfoldable pub between : ℕ → Polarity → ExprTree → Parser ExprTree → Parser Predicate
between at polarity what value = value >>= λ low. expect t.And >>= λ _. value >>= λ high. pure (p.Between at polarity what low high)

unfoldable pub within : ℕ → Polarity → ExprTree → Parser ExprTree → Parser Predicate
within at polarity what value = enclosed (listed value) >>= λ list. pure (p.In at polarity what list)

unfoldable pub after_not : ExprTree → Parser ExprTree → Negatable → Parser Predicate
after_not what value (negatable.Between at) = between at polarity.Negated what value
after_not what value (negatable.In at) = within at polarity.Negated what value

abbrev pub polarity_parser : Parser Polarity
polarity_parser = branch (offset_of t.Not) (λ _. pure polarity.Negated) (pure polarity.Plain)

unfoldable pub is_null : ℕ → ExprTree → Parser Predicate
is_null at what = polarity_parser >>= λ polarity. expect t.Null >>= λ _. pure (p.IsNull at polarity what)

-- what goes on from the word behind an expression
unfoldable pub after_word : ExprTree → Parser ExprTree → Word → Parser Predicate
after_word what value (word.Compare at op) = value >>= λ right. pure (p.Compare at op what right)
after_word what value word.Not = one negatable_of >>= after_not what value
after_word what value (word.Between at) = between at polarity.Plain what value
after_word what value (word.In at) = within at polarity.Plain what value
after_word what value (word.Is at) = is_null at what

-- an expression, or the predicate that begins with it
unfoldable pub compared : Parser ExprTree → ExprTree → Parser Found
compared value what = branch word_of (λ w. after_word what value w >>= λ x. pure (f.Truth (b.Predicate x))) (pure (f.Value what))

-- ---- conditions, over a parser of negations: a condition, or an expression where the next token can't make one of it

-- the rest of a test that begins with parentheses
unfoldable pub after_parens : Parser ExprTree → Found → Parser Found
after_parens one_factor (f.Truth x) = pure (f.Truth x)
after_parens one_factor (f.Value x) = resumed one_factor x >>= compared (expr_over one_factor)

-- a test that doesn't begin with parentheses
abbrev pub plain_test : Parser ExprTree → Parser Found
plain_test one_factor = expr_over one_factor >>= compared (expr_over one_factor)

unfoldable pub one_test : Parser Found → Parser ExprTree → Parser Found
one_test inner one_factor = branch (offset_of t.LeftParen) (λ _. closed inner >>= after_parens one_factor) (plain_test one_factor)

abbrev pub only_truth : Found → Parser CondTree
only_truth (f.Truth x) = pure x
only_truth (f.Value x) = wrong

-- a condition
unfoldable pub truth : Parser Found → Parser CondTree
truth both = both >>= only_truth

unfoldable pub conjunction : Parser Found → CondTree → Parser CondTree
conjunction neg first = tails (offset_of t.And) (λ _. truth neg) >>= λ xs. pure (all_of first xs)

unfoldable pub conj : Parser Found → Parser CondTree
conj neg = truth neg >>= conjunction neg

unfoldable pub disjunction : Parser Found → CondTree → Parser CondTree
disjunction neg first = tails (offset_of t.Or) (λ _. conj neg) >>= λ xs. pure (any_of first xs)

-- the rest of a condition whose first negation was read
unfoldable pub after_neg : Parser Found → Found → Parser Found
after_neg neg (f.Truth x) = conjunction neg x >>= λ y. disjunction neg y >>= λ z. pure (f.Truth z)
after_neg neg (f.Value x) = pure (f.Value x)

unfoldable pub cond_over : Parser Found → Parser Found
cond_over neg = neg >>= after_neg neg

unfoldable pub neg_at : ℕ → Parser Found
neg_at zero = deep
neg_at (suc depth) =
    branch (offset_of t.Not) (λ at. truth (neg_at depth) >>= λ x. pure (f.Truth (c.Not at x))) (one_test (cond_over (neg_at depth)) (factor_at (suc depth) aggregates.Refused))

unfoldable pub cond : ℕ → Parser CondTree
cond depth = truth (cond_over (neg_at depth))

-- ---- parts of a query

-- [[AS] name]
unfoldable pub naming : {A : Type 0} → (Token → Option A) → Parser (Option A)
naming read = branch (offset_of t.As) (λ _. one read >>= λ x. pure (Some x)) (branch read (λ x. pure (Some x)) (pure None))

unfoldable pub item : ℕ → Parser Item
item depth = expr depth aggregates.Allowed >>= λ x. naming alias_of >>= λ name. pure (record { expr = x; alias = name })

unfoldable pub table : Parser TableName
table = one label_of >>= λ name. naming label_of >>= λ variable. pure (record { at = name.at; name = name.name; variable = variable })

abbrev pub plain_column : Alias → ColumnName
plain_column name = record { qualifier = None; at = name.at; name = name.name }

abbrev pub qualified_column : Label → Alias → ColumnName
qualified_column variable name = record { qualifier = Some variable; at = name.at; name = name.name }

-- a column whose first token is a regular identifier
unfoldable pub column_named : Label → Parser ColumnName
column_named first =
    branch (offset_of t.Dot) (λ _. one alias_of >>= λ name. pure (qualified_column first name)) (pure (record { qualifier = None; at = first.at; name = i.Regular first.name }))

unfoldable pub column : Parser ColumnName
column = branch label_of column_named (one alias_of >>= λ name. pure (plain_column name))

unfoldable pub sort_key : Parser SortKey
sort_key = one key_of >>= λ k. branch direction_of pure (pure direction.Ascending) >>= λ d. pure (record { at = k.0; key = k.1; direction = d })

unfoldable pub filter : ℕ → Parser (Option CondTree)
filter depth = branch (offset_of t.Where) (λ _. cond depth >>= λ x. pure (Some x)) (pure None)

-- [word BY member {"," member}]
unfoldable pub by : {A : Type 0} → Terminal → Parser A → Parser (List A)
by word member = branch (offset_of word) (λ _. expect t.By >>= λ _. listed member) (pure [])

abbrev pub at_end : Parser (Unit {0})
at_end [] = (Ok tt, [])
at_end (token ∷ tokens) = (Err stop.Wrong, token ∷ tokens)

-- [";"], and no token more
unfoldable pub closing : Parser (Unit {0})
closing = branch (offset_of t.Semicolon) (λ _. at_end) at_end

unfoldable pub select_list : ℕ → Parser (List Item)
select_list depth = expect t.Select >>= λ _. listed (item depth)

unfoldable pub from_clause : Parser (List TableName)
from_clause = expect t.From >>= λ _. listed table

unfoldable pub sorting : Parser (List ColumnName × List SortKey)
sorting = by t.Group column >>= λ groups. by t.Order sort_key >>= λ keys. closing >>= λ _. pure (groups, keys)

abbrev pub made : List Item → List TableName → Option CondTree → List ColumnName × List SortKey → Query
made items tables filter sorts = record { items = items; tables = tables; filter = filter; groups = sorts.0; keys = sorts.1 }

-- what goes on from the columns of the result
abbrev pub after_items : ℕ → List Item → Parser Query
after_items depth items = from_clause >>= λ tables. filter depth >>= λ condition. sorting >>= λ sorts. pure (made items tables condition sorts)

unfoldable pub whole : ℕ → Parser Query
whole depth = select_list depth >>= after_items depth
