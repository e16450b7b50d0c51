-- What the parser reads, as functions on tokens. Each tells where it stopped, also where it fails.
use Rattle.std.specs.Prelude.{◌≡◌, ℕ, zero, suc, Bool, false, List, [], ◌∷◌, length, Option, Some, None, Result, Ok, Err, if◌then◌else◌}
use Rattle.om_token.specs.declared.token.Kind.{Kind}
use Rattle.om_token.specs.declared.token.Kind.TheVariants as k
use Rattle.om_token.specs.declared.token.Token.{Token}
use Rattle.om_token.specs.declared.terminal.Terminal.{Terminal}
use Rattle.om_token.specs.declared.terminal.Terminal.TheVariants as t
use Rattle.om_parse.specs.declared.cursor.Stop.{Stop}
use Rattle.om_parse.specs.declared.cursor.Stop.TheVariants as stop
use Rattle.om_parse.specs.declared.tree.Query.{Query}
use Rattle.om_parse.specs.declared.tree.Item.{Item}
use Rattle.om_parse.specs.declared.tree.TableName.{TableName}
use Rattle.om_parse.specs.declared.tree.ColumnName.{ColumnName}
use Rattle.om_parse.specs.declared.tree.Identifier.{Identifier}
use Rattle.om_parse.specs.declared.tree.Identifier.TheVariants as i
use Rattle.om_parse.specs.declared.tree.Numeral.{Numeral}
use Rattle.om_parse.specs.declared.tree.ExprTree.TheVariants as e
use Rattle.om_parse.specs.declared.tree.CondTree.{CondTree}
use Rattle.om_parse.specs.declared.tree.CondTree.TheVariants as c
use Rattle.om_parse.specs.declared.tree.CompareOp.{CompareOp}
use Rattle.om_parse.specs.declared.tree.CompareOp.TheVariants as o
use Rattle.om_token.specs.Terminals.{same}
use Rattle.om_parse.specs.declared.fault.ParseFault.{ParseFault}
use Rattle.om_parse.specs.declared.fault.ParseFault.TheVariants as f
use Rattle.om_parse.specs.Grammar.{Tokens, all_of, IsQuery}
use Rattle.om_parse.specs.Refusals.{IsRefused, place_of}

-- ---- parsers

-- what was read, and the tokens after it
abbrev pub Step : Type 0 → Type 0
Step A = Result A Stop × Tokens

abbrev pub Parser : Type 0 → Type 0
Parser A = Tokens → Step A

abbrev pub go_on : {A B : Type 0} → Result A Stop → Tokens → (A → Parser B) → Step B
go_on (Ok x) rest f = f x rest
go_on (Err e) rest f = (Err e, rest)

abbrev pub and_then : {A B : Type 0} → Step A → (A → Parser B) → Step B
and_then step f = go_on step.0 step.1 f

infixl 10 ◌>>=◌
abbrev pub ◌>>=◌ : {A B : Type 0} → Parser A → (A → Parser B) → Parser B
p >>= f = λ tokens. and_then (p tokens) f

abbrev pub pure : {A : Type 0} → A → Parser A
pure x = λ tokens. (Ok x, tokens)

-- what a function that parses ensures: it reads what the parser reads, unless memory runs out
abbrev pub Reads : {A : Type 0} → Step A → Result A Stop → Tokens → Type 0
Reads step (Ok x) rest = step ≡ (Ok x, rest)
Reads step (Err stop.NoMemory) rest = Unit {0}
Reads step (Err stop.Wrong) rest = step ≡ (Err stop.Wrong, rest)

-- ---- one token

abbrev pub chosen : {A : Type 0} → Option A → Token → Tokens → Step A
chosen (Some x) token rest = (Ok x, rest)
chosen None token rest = (Err stop.Wrong, token ∷ rest)

-- what is made of the next token
abbrev pub one : {A : Type 0} → (Token → Option A) → Parser A
one read [] = (Err stop.Wrong, [])
one read (token ∷ rest) = chosen (read token) token rest

abbrev pub is : Terminal → Kind → Bool
is which (k.Terminal other) = same which other
is which _ = false

-- the offset of a reserved word or a symbol
abbrev pub offset_of : Terminal → Token → Option ℕ
offset_of which token = if is which token.kind then Some token.at else None

abbrev pub identifier_in : Kind → Option Identifier
identifier_in (k.Regular name) = Some (i.Regular name)
identifier_in (k.Delimited name) = Some (i.Delimited name)
identifier_in _ = None

abbrev pub column_named : ℕ → Option Identifier → Option ColumnName
column_named at (Some name) = Some (record { at = at; name = name })
column_named at None = None

abbrev pub table_named : ℕ → Kind → Option TableName
table_named at (k.Regular name) = Some (record { at = at; name = name })
table_named at _ = None

abbrev pub numeral_of : ℕ → Kind → Option Numeral
numeral_of at (k.Numeral value) = Some (record { at = at; value = value })
numeral_of at _ = None

abbrev pub operator_of : Terminal → Option CompareOp
operator_of t.Equal = Some o.Equal
operator_of t.NotEqual = Some o.NotEqual
operator_of t.Less = Some o.Less
operator_of t.LessOrEqual = Some o.LessOrEqual
operator_of t.Greater = Some o.Greater
operator_of t.GreaterOrEqual = Some o.GreaterOrEqual
operator_of _ = None

abbrev pub operator_in : Kind → Option CompareOp
operator_in (k.Terminal which) = operator_of which
operator_in _ = None

abbrev pub operator_at : ℕ → Option CompareOp → Option (ℕ × CompareOp)
operator_at at (Some op) = Some (at, op)
operator_at at None = None

abbrev pub expect : Terminal → Parser ℕ
expect which = one (offset_of which)

unfoldable pub column : Parser ColumnName
column = one (λ token. column_named token.at (identifier_in token.kind))

unfoldable pub table : Parser TableName
table = one (λ token. table_named token.at token.kind)

unfoldable pub numeral : Parser Numeral
numeral = one (λ token. numeral_of token.at token.kind)

unfoldable pub operator : Parser (ℕ × CompareOp)
operator = one (λ token. operator_at token.at (operator_in token.kind))

-- ---- lists

-- the next token is this reserved word or symbol
abbrev pub begins : Terminal → Tokens → Bool
begins which [] = false
begins which (token ∷ tokens) = is which token.kind

-- the tokens after the next
abbrev pub passed : Tokens → Tokens
passed [] = []
passed (token ∷ tokens) = tokens

-- more of a list, each member behind its separator, with at most so many of them
abbrev pub at_most : {A : Type 0} → ℕ → Terminal → Parser A → Parser (List A)
at_most zero separator member tokens = (Ok [], tokens)
at_most (suc n) separator member tokens =
    if begins separator tokens
    then (member >>= λ x. at_most n separator member >>= λ xs. pure (x ∷ xs)) (passed tokens)
    else (Ok [], tokens)

-- more of a list, as far as separators go
unfoldable pub tails : {A : Type 0} → Terminal → Parser A → Parser (List A)
tails separator member tokens = at_most (length tokens) separator member tokens

-- ---- productions

unfoldable pub item : Parser Item
item = do
  name ← column
  pure (record { expr = e.Column name })

unfoldable pub items : Parser (List Item)
items = do
  first ← item
  others ← tails t.Comma item
  pure (first ∷ others)

unfoldable pub one_test : Parser CondTree
one_test = do
  left ← column
  sign ← operator
  right ← numeral
  pure (c.Compare sign.0 sign.1 (e.Column left) (e.Numeral right))

-- tests joined by AND, behind the first and its AND
unfoldable pub joined : CondTree → Parser CondTree
joined first = do
  second ← one_test
  others ← tails t.And one_test
  pure (c.All (first ∷ second ∷ others))

unfoldable pub cond : Parser CondTree
cond = do
  first ← one_test
  others ← tails t.And one_test
  pure (all_of first others)

unfoldable pub filter : Parser (Option CondTree)
filter tokens =
    if begins t.Where tokens
    then (cond >>= λ it. pure (Some it)) (passed tokens)
    else (Ok None, tokens)

unfoldable pub select_list : Parser (List Item)
select_list = do
  at ← expect t.Select
  items

unfoldable pub from_clause : Parser TableName
from_clause = do
  at ← expect t.From
  table

unfoldable pub end : Parser (Unit {0})
end [] = (Ok tt, [])
end (token ∷ tokens) = (Err stop.Wrong, token ∷ tokens)

unfoldable pub query : Parser Query
query = do
  found ← select_list
  source ← from_clause
  condition ← filter
  pure (record { items = found; tables = source ∷ []; filter = condition })

unfoldable pub whole : Parser Query
whole = do
  it ← query
  nothing ← end
  pure it

-- what a function that parses tokens ensures of a fault, where the text ends before this offset
abbrev pub IsTokenFault : Tokens → ℕ → ParseFault → Type 0
IsTokenFault tokens past f.NoMemory = Unit {0}
IsTokenFault tokens past (f.Syntax at) = (rest : Tokens) × IsRefused IsQuery tokens rest × (at ≡ place_of past rest)
IsTokenFault tokens past (f.TooWide n) = ⊥
