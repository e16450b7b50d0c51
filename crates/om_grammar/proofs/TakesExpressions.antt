-- An expression is read as its tokens say, where what follows doesn't go on with it.
use Rattle.std.proofs.Common.{◌≡◌, ℕ, zero, suc, List, [], ◌∷◌, ◌++◌, Option, Some, None, Ok, refl, ap, ◌∙◌, append_assoc}
use Rattle.om_token.specs.declared.token.Kind.{Kind}
use Rattle.om_token.specs.declared.token.Kind.TheVariants as k
use Rattle.om_token.specs.declared.terminal.Terminal.{Terminal}
use Rattle.om_token.specs.declared.terminal.Terminal.TheVariants as t
use Rattle.om_token.specs.Terminals.{same}
use Rattle.om_token.specs.Quotes.{unquoted}
use Rattle.om_grammar.specs.declared.tree.Label.{Label}
use Rattle.om_grammar.specs.declared.tree.ColumnName.{ColumnName}
use Rattle.om_grammar.specs.declared.expr_tree.ExprTree.{ExprTree}
use Rattle.om_grammar.specs.declared.expr_tree.ExprTree.TheVariants as v
use Rattle.om_grammar.specs.declared.expr_tree.ExprTree.TheViews as e
use Rattle.om_grammar.specs.declared.expr_tree.Addend.{Addend}
use Rattle.om_grammar.specs.declared.expr_tree.Factor.{Factor}
use Rattle.om_grammar.specs.declared.expr_tree.Sign.{Sign}
use Rattle.om_grammar.specs.declared.expr_tree.Scale.{Scale}
use Rattle.om_grammar.specs.declared.expr_tree.Width.{Width}
use Rattle.om_grammar.specs.declared.expr_tree.Function.{Function}
use Rattle.om_grammar.specs.declared.aggregates.Aggregates.{Aggregates}
use Rattle.om_grammar.specs.declared.aggregates.Aggregates.TheVariants as aggregates
use Rattle.om_grammar.specs.declared.start.Start.TheVariants as start
use Rattle.om_grammar.specs.declared.start.Form.{Form}
use Rattle.om_grammar.specs.declared.start.Form.TheVariants as form
use Rattle.om_grammar.specs.Grammar.{Tokens, terminal, token, in_parens, addend, factor, sum_of, product_of, IsIdentifier, IsColumn, IsQualifier, IsSign, IsScale, IsWidth, IsFunction, IsExpr, AreAddends, IsTerm, AreFactors, IsFactor, IsPrimary}
use Rattle.om_grammar.specs.Reading.{offset_of, sign_of, scale_of, front, after_lead, named, after_dot, opened, counted, inside, comma_numeral, bit_numbers, completed, nested, finish, primary, factor_at, more_factors, product, term, more_addends, sum, expr_over}
use Rattle.om_grammar.specs.Parsers.{Parser, ◌>>=◌, pure, found}
use Rattle.om_grammar.proofs.Takes.{Yields, reads, wants, yields_then, Many, many_done, many_more, yields_tails}
use Rattle.om_grammar.proofs.TakesNames.{column_front}

-- ---- what may follow

-- these tokens don't go on with a factor
pub record EndsFactor (rest : Tokens) : Type 0 where
  pub no_dot : found (offset_of t.Dot) rest ≡ None

-- these tokens don't go on with a term
pub record EndsTerm (rest : Tokens) : Type 0 where
  pub no_dot : found (offset_of t.Dot) rest ≡ None
  pub no_scale : found scale_of rest ≡ None

-- these tokens don't go on with an expression
pub record EndsExpr (rest : Tokens) : Type 0 where
  pub no_dot : found (offset_of t.Dot) rest ≡ None
  pub no_scale : found scale_of rest ≡ None
  pub no_sign : found sign_of rest ≡ None

factor_ends : {g : Aggregates} {w : Tokens} {xs : List Factor} → AreFactors g w xs → (rest : Tokens) → EndsTerm rest → EndsFactor (w ++ rest)
unfolding same
factor_ends AreFactors.no_factor rest e = record { no_dot = e.no_dot }
factor_ends (AreFactors.factors at IsScale.times h g) rest e = record { no_dot = refl }
factor_ends (AreFactors.factors at IsScale.divide h g) rest e = record { no_dot = refl }

pub term_ends : {g : Aggregates} {w : Tokens} {xs : List Addend} → AreAddends g w xs → (rest : Tokens) → EndsExpr rest → EndsTerm (w ++ rest)
unfolding same
term_ends AreAddends.no_addend rest e = record { no_dot = e.no_dot; no_scale = e.no_scale }
term_ends (AreAddends.addends at IsSign.plus h g) rest e = record { no_dot = refl; no_scale = refl }
term_ends (AreAddends.addends at IsSign.minus h g) rest e = record { no_dot = refl; no_scale = refl }

pub ends_at_paren : (at : ℕ) (rest : Tokens) → EndsExpr (terminal at t.RightParen ∷ rest)
unfolding same
ends_at_paren at rest = record { no_dot = refl; no_scale = refl; no_sign = refl }

pub ends_at_comma : (at : ℕ) (rest : Tokens) → EndsExpr (terminal at t.Comma ∷ rest)
unfolding same
ends_at_comma at rest = record { no_dot = refl; no_scale = refl; no_sign = refl }

-- ---- what an expression begins with

-- the kinds of the first token of a primary that doesn't begin with a parenthesis
pub data LeadsPlain : Kind → Type 0 where
  numeral : {value : ℕ} → LeadsPlain (k.Numeral value)
  text : {inside : List ℕ} → LeadsPlain (k.Text inside)
  regular : {name : List ℕ} → LeadsPlain (k.Regular name)
  delimited : {inside : List ℕ} → LeadsPlain (k.Delimited inside)
  null : LeadsPlain (k.Terminal t.Null)
  signed : LeadsPlain (k.Terminal t.Signed)
  bits : LeadsPlain (k.Terminal t.Bits)
  width_word : {which : Terminal} {width : Width} → IsWidth which width → LeadsPlain (k.Terminal which)
  function_word : {which : Terminal} {function : Function} → IsFunction which function → LeadsPlain (k.Terminal which)

-- what no token of these kinds is
record IsNone (kind : Kind) : Type 0 where
  no_sign : (at : ℕ) → sign_of (token at kind) ≡ None
  no_paren : (at : ℕ) → offset_of t.LeftParen (token at kind) ≡ None
  no_not : (at : ℕ) → offset_of t.Not (token at kind) ≡ None
  no_star : (at : ℕ) → offset_of t.Star (token at kind) ≡ None

is_none : {kind : Kind} → LeadsPlain kind → IsNone kind
unfolding same
is_none numeral = record { no_sign = λ at. refl; no_paren = λ at. refl; no_not = λ at. refl; no_star = λ at. refl }
is_none text = record { no_sign = λ at. refl; no_paren = λ at. refl; no_not = λ at. refl; no_star = λ at. refl }
is_none regular = record { no_sign = λ at. refl; no_paren = λ at. refl; no_not = λ at. refl; no_star = λ at. refl }
is_none delimited = record { no_sign = λ at. refl; no_paren = λ at. refl; no_not = λ at. refl; no_star = λ at. refl }
is_none null = record { no_sign = λ at. refl; no_paren = λ at. refl; no_not = λ at. refl; no_star = λ at. refl }
is_none signed = record { no_sign = λ at. refl; no_paren = λ at. refl; no_not = λ at. refl; no_star = λ at. refl }
is_none bits = record { no_sign = λ at. refl; no_paren = λ at. refl; no_not = λ at. refl; no_star = λ at. refl }
is_none (width_word IsWidth.byte) = record { no_sign = λ at. refl; no_paren = λ at. refl; no_not = λ at. refl; no_star = λ at. refl }
is_none (width_word IsWidth.half) = record { no_sign = λ at. refl; no_paren = λ at. refl; no_not = λ at. refl; no_star = λ at. refl }
is_none (width_word IsWidth.word) = record { no_sign = λ at. refl; no_paren = λ at. refl; no_not = λ at. refl; no_star = λ at. refl }
is_none (function_word IsFunction.count) = record { no_sign = λ at. refl; no_paren = λ at. refl; no_not = λ at. refl; no_star = λ at. refl }
is_none (function_word IsFunction.least) = record { no_sign = λ at. refl; no_paren = λ at. refl; no_not = λ at. refl; no_star = λ at. refl }
is_none (function_word IsFunction.greatest) = record { no_sign = λ at. refl; no_paren = λ at. refl; no_not = λ at. refl; no_star = λ at. refl }

-- the first token of a primary that doesn't begin with a parenthesis
pub data LeadsOpenly : Tokens → Type 0 where
  openly : {kind : Kind} {u : Tokens} (at : ℕ) → LeadsPlain kind → LeadsOpenly (token at kind ∷ u)

-- the first token of a primary
pub data Leads : Tokens → Type 0 where
  plain : {u : Tokens} → LeadsOpenly u → Leads u
  paren : {u : Tokens} (at : ℕ) → Leads (terminal at t.LeftParen ∷ u)

-- the first token of an expression
pub data Opens : Tokens → Type 0 where
  by_sign : {which : Terminal} {sign : Sign} {u : Tokens} (at : ℕ) → IsSign which sign → Opens (terminal at which ∷ u)
  by_primary : {u : Tokens} → Leads u → Opens u

pub openly_more : {u : Tokens} → LeadsOpenly u → (w : Tokens) → LeadsOpenly (u ++ w)
openly_more (openly at h) w = openly at h

leads_more : {u : Tokens} → Leads u → (w : Tokens) → Leads (u ++ w)
leads_more (plain h) w = plain (openly_more h w)
leads_more (paren at) w = paren at

pub opens_more : {u : Tokens} → Opens u → (w : Tokens) → Opens (u ++ w)
opens_more (by_sign at h) w = by_sign at h
opens_more (by_primary h) w = by_primary (leads_more h w)

pub column_leads : {u : Tokens} {x : ColumnName} → IsColumn u x → LeadsOpenly u
column_leads (IsColumn.alone at IsIdentifier.regular) = openly at regular
column_leads (IsColumn.alone at IsIdentifier.delimited) = openly at delimited
column_leads (IsColumn.qualified variable_at dot_at at h) = openly variable_at regular

pub memory_leads : {q : Tokens} {qualifier : Option Label} {which : Terminal} {width : Width} (at : ℕ) (w : Tokens) → IsQualifier q qualifier → IsWidth which width → LeadsOpenly (q ++ terminal at which ∷ w)
memory_leads at w IsQualifier.none h = openly at (width_word h)
memory_leads at w (IsQualifier.some variable_at dot_at) h = openly variable_at regular

primary_leads : {g : Aggregates} {u : Tokens} {x : ExprTree} → IsPrimary g u x → Leads u
primary_leads (IsPrimary.numeral at) = plain (openly at numeral)
primary_leads (IsPrimary.text at) = plain (openly at text)
primary_leads (IsPrimary.null at) = plain (openly at null)
primary_leads (IsPrimary.column h) = plain (column_leads h)
primary_leads (IsPrimary.parens open_at close_at h) = paren open_at
primary_leads (IsPrimary.signed at open_at close_at h) = plain (openly at signed)
primary_leads (IsPrimary.bits at open_at comma_at high_at other_at low_at close_at h) = plain (openly at bits)
primary_leads (IsPrimary.memory at open_at close_at q which h) = plain (memory_leads at _ q which)
primary_leads (IsPrimary.rows at open_at star_at close_at) = plain (openly at (function_word IsFunction.count))
primary_leads (IsPrimary.aggregate at open_at close_at which h) = plain (openly at (function_word which))

factor_opens : {g : Aggregates} {u : Tokens} {x : ExprTree} → IsFactor g u x → Opens u
factor_opens (IsFactor.primary h) = by_primary (primary_leads h)
factor_opens (IsFactor.with_sign at s h) = by_sign at s

term_opens : {g : Aggregates} {u : Tokens} {x : ExprTree} → IsTerm g u x → Opens u
term_opens (IsTerm.product {w = w} h f) = opens_more (factor_opens h) w

pub expr_opens : {g : Aggregates} {u : Tokens} {x : ExprTree} → IsExpr g u x → Opens u
expr_opens (IsExpr.sum {w = w} h f) = opens_more (term_opens h) w

openly_no_sign : {u : Tokens} → LeadsOpenly u → (rest : Tokens) → found sign_of (u ++ rest) ≡ None
openly_no_sign (openly at h) rest = (is_none h).no_sign at

leads_no_sign : {u : Tokens} → Leads u → (rest : Tokens) → found sign_of (u ++ rest) ≡ None
leads_no_sign (plain h) rest = openly_no_sign h rest
leads_no_sign (paren at) rest = refl

openly_no_star : {u : Tokens} → LeadsOpenly u → (rest : Tokens) → found (offset_of t.Star) (u ++ rest) ≡ None
openly_no_star (openly at h) rest = (is_none h).no_star at

opens_no_star : {u : Tokens} → Opens u → (rest : Tokens) → found (offset_of t.Star) (u ++ rest) ≡ None
unfolding same
opens_no_star (by_sign at IsSign.plus) rest = refl
opens_no_star (by_sign at IsSign.minus) rest = refl
opens_no_star (by_primary (plain h)) rest = openly_no_star h rest
opens_no_star (by_primary (paren at)) rest = refl

pub openly_no_paren : {u : Tokens} → LeadsOpenly u → (rest : Tokens) → found (offset_of t.LeftParen) (u ++ rest) ≡ None
openly_no_paren (openly at h) rest = (is_none h).no_paren at

pub openly_no_not : {u : Tokens} → LeadsOpenly u → (rest : Tokens) → found (offset_of t.Not) (u ++ rest) ≡ None
openly_no_not (openly at h) rest = (is_none h).no_not at

pub opens_no_not : {u : Tokens} → Opens u → (rest : Tokens) → found (offset_of t.Not) (u ++ rest) ≡ None
unfolding same
opens_no_not (by_sign at IsSign.plus) rest = refl
opens_no_not (by_sign at IsSign.minus) rest = refl
opens_no_not (by_primary (plain h)) rest = openly_no_not h rest
opens_no_not (by_primary (paren at)) rest = refl

pub sign_no_paren : {which : Terminal} {sign : Sign} → IsSign which sign → (at : ℕ) → offset_of t.LeftParen (terminal at which) ≡ None
unfolding same
sign_no_paren IsSign.plus at = refl
sign_no_paren IsSign.minus at = refl

-- ---- the front of a primary

null_front : (g : Aggregates) (at : ℕ) (rest : Tokens) → front g (terminal at t.Null ∷ rest) ≡ (Ok (start.Whole (v.Null at)), rest)
unfolding front after_lead
null_front aggregates.Allowed at rest = refl
null_front aggregates.Refused at rest = refl

paren_front : (g : Aggregates) (at : ℕ) (rest : Tokens) → front g (terminal at t.LeftParen ∷ rest) ≡ (Ok (start.Open form.Paren), rest)
unfolding front after_lead
paren_front aggregates.Allowed at rest = refl
paren_front aggregates.Refused at rest = refl

signed_front : (g : Aggregates) (at open_at : ℕ) (rest : Tokens) → front g (terminal at t.Signed ∷ terminal open_at t.LeftParen ∷ rest) ≡ (Ok (start.Open (form.Signed at)), rest)
unfolding front after_lead opened same
signed_front aggregates.Allowed at open_at rest = refl
signed_front aggregates.Refused at open_at rest = refl

bits_front : (g : Aggregates) (at open_at : ℕ) (rest : Tokens) → front g (terminal at t.Bits ∷ terminal open_at t.LeftParen ∷ rest) ≡ (Ok (start.Open (form.Bits at)), rest)
unfolding front after_lead opened same
bits_front aggregates.Allowed at open_at rest = refl
bits_front aggregates.Refused at open_at rest = refl

memory_front : {q : Tokens} {qualifier : Option Label} {which : Terminal} {width : Width} → IsQualifier q qualifier → IsWidth which width → (g : Aggregates) (at open_at : ℕ) (rest : Tokens)
    → front g (q ++ terminal at which ∷ terminal open_at t.LeftParen ∷ rest) ≡ (Ok (start.Open (form.Memory qualifier at width)), rest)
unfolding front after_lead named after_dot opened same
memory_front IsQualifier.none IsWidth.byte aggregates.Allowed at open_at rest = refl
memory_front IsQualifier.none IsWidth.byte aggregates.Refused at open_at rest = refl
memory_front IsQualifier.none IsWidth.half aggregates.Allowed at open_at rest = refl
memory_front IsQualifier.none IsWidth.half aggregates.Refused at open_at rest = refl
memory_front IsQualifier.none IsWidth.word aggregates.Allowed at open_at rest = refl
memory_front IsQualifier.none IsWidth.word aggregates.Refused at open_at rest = refl
memory_front (IsQualifier.some variable_at dot_at) IsWidth.byte g at open_at rest = refl
memory_front (IsQualifier.some variable_at dot_at) IsWidth.half g at open_at rest = refl
memory_front (IsQualifier.some variable_at dot_at) IsWidth.word g at open_at rest = refl

aggregate_front : {which : Terminal} {function : Function} → IsFunction which function → (at open_at : ℕ) (rest : Tokens) → found (offset_of t.Star) rest ≡ None
    → front aggregates.Allowed (terminal at which ∷ terminal open_at t.LeftParen ∷ rest) ≡ (Ok (start.Open (form.Aggregate at function)), rest)
unfolding front after_lead counted opened same
aggregate_front IsFunction.count at open_at rest e = rw e refl
aggregate_front IsFunction.least at open_at rest e = refl
aggregate_front IsFunction.greatest at open_at rest e = refl

-- ---- a primary from its front

-- what parses the expressions in parentheses
abbrev pub inner_at : ℕ → Aggregates → Parser ExprTree
inner_at depth g = expr_over (factor_at depth g)

whole_primary : (inner : Aggregates → Parser ExprTree) (g : Aggregates) (tokens : Tokens) (x : ExprTree) (rest : Tokens) → front g tokens ≡ (Ok (start.Whole x), rest) → Yields (primary inner g tokens) x rest
unfolding primary finish
whole_primary inner g tokens x rest e = yields_then (finish inner g) (reads e) (reads refl)

open_primary : (inner : Aggregates → Parser ExprTree) (g : Aggregates) (form : Form) (tokens behind middle : Tokens) (x y : ExprTree) (close_at : ℕ) (rest : Tokens)
    → front g tokens ≡ (Ok (start.Open form), behind) → Yields (inner (inside g form) behind) x middle → completed form x middle ≡ (Ok y, terminal close_at t.RightParen ∷ rest)
    → Yields (primary inner g tokens) y rest
unfolding primary finish nested same
open_primary inner g form tokens behind middle x y close_at rest e h c = yields_then (finish inner g) (reads e) (yields_then _ h (yields_then _ (reads c) (reads refl)))

-- tokens before one that closes, and before what follows it
before : (u : Tokens) (close_at : ℕ) (rest : Tokens) → (u ++ terminal close_at t.RightParen ∷ []) ++ rest ≡ u ++ (terminal close_at t.RightParen ∷ rest)
before u close_at rest = append_assoc u (terminal close_at t.RightParen ∷ []) rest

-- an expression alone between the parentheses
around : (depth : ℕ) (g : Aggregates) (form : Form) (tokens u : Tokens) (x y : ExprTree) (close_at : ℕ) (rest : Tokens)
    → front g tokens ≡ (Ok (start.Open form), (u ++ terminal close_at t.RightParen ∷ []) ++ rest)
    → Yields (expr_over (factor_at depth (inside g form)) (u ++ (terminal close_at t.RightParen ∷ rest))) x (terminal close_at t.RightParen ∷ rest)
    → completed form x (terminal close_at t.RightParen ∷ rest) ≡ (Ok y, terminal close_at t.RightParen ∷ rest)
    → Yields (primary (inner_at depth) g tokens) y rest
around depth g form tokens u x y close_at rest e h c =
    open_primary (inner_at depth) g form tokens (u ++ (terminal close_at t.RightParen ∷ rest)) (terminal close_at t.RightParen ∷ rest) x y close_at rest
    (e ∙ ap (λ (l : Tokens). (Ok (start.Open form), l)) (before u close_at rest)) h c

made_paren : (x : ExprTree) (tokens : Tokens) → completed form.Paren x tokens ≡ (Ok x, tokens)
unfolding completed
made_paren x tokens = refl

made_signed : (at : ℕ) (x : ExprTree) (tokens : Tokens) → completed (form.Signed at) x tokens ≡ (Ok (e.Signed at x), tokens)
unfolding completed
made_signed at x tokens = refl

made_memory : (qualifier : Option Label) (at : ℕ) (width : Width) (x : ExprTree) (tokens : Tokens) → completed (form.Memory qualifier at width) x tokens ≡ (Ok (e.Memory qualifier at width x), tokens)
unfolding completed
made_memory qualifier at width x tokens = refl

made_aggregate : (at : ℕ) (function : Function) (x : ExprTree) (tokens : Tokens) → completed (form.Aggregate at function) x tokens ≡ (Ok (e.Aggregate at function x), tokens)
unfolding completed
made_aggregate at function x tokens = refl

made_bits : (at comma_at high_at high other_at low_at low : ℕ) (x : ExprTree) (rest : Tokens)
    → completed (form.Bits at) x (terminal comma_at t.Comma ∷ token high_at (k.Numeral high) ∷ terminal other_at t.Comma ∷ token low_at (k.Numeral low) ∷ rest)
    ≡ (Ok (e.Bits at x (record { at = high_at; value = high }) (record { at = low_at; value = low })), rest)
unfolding completed bit_numbers comma_numeral same
made_bits at comma_at high_at high other_at low_at low x rest = refl

bits_primary : (depth : ℕ) (g : Aggregates) (at open_at comma_at high_at high other_at low_at low close_at : ℕ) (u : Tokens) (x : ExprTree) (rest : Tokens)
    → Yields (expr_over (factor_at depth g) (u ++ (terminal comma_at t.Comma ∷ token high_at (k.Numeral high) ∷ terminal other_at t.Comma ∷ token low_at (k.Numeral low) ∷ terminal close_at t.RightParen ∷ rest)))
    x (terminal comma_at t.Comma ∷ token high_at (k.Numeral high) ∷ terminal other_at t.Comma ∷ token low_at (k.Numeral low) ∷ terminal close_at t.RightParen ∷ rest)
    → Yields (primary (inner_at depth) g ((terminal at t.Bits ∷ in_parens open_at close_at
    (u ++ terminal comma_at t.Comma ∷ token high_at (k.Numeral high) ∷ terminal other_at t.Comma ∷ token low_at (k.Numeral low) ∷ [])) ++ rest))
    (e.Bits at x (record { at = high_at; value = high }) (record { at = low_at; value = low })) rest
bits_primary depth g at open_at comma_at high_at high other_at low_at low close_at u x rest h =
    let numbers : Tokens = terminal comma_at t.Comma ∷ token high_at (k.Numeral high) ∷ terminal other_at t.Comma ∷ token low_at (k.Numeral low) ∷ [] in
    let tail : ((u ++ numbers) ++ terminal close_at t.RightParen ∷ []) ++ rest ≡ u ++ (numbers ++ (terminal close_at t.RightParen ∷ rest)) =
    before (u ++ numbers) close_at rest ∙ append_assoc u numbers (terminal close_at t.RightParen ∷ rest) in
    open_primary (inner_at depth) g (form.Bits at) _ _ _ x _ close_at rest
    (bits_front g at open_at (((u ++ numbers) ++ terminal close_at t.RightParen ∷ []) ++ rest) ∙ ap (λ (l : Tokens). (Ok (start.Open (form.Bits at)), l)) tail) h
    (made_bits at comma_at high_at high other_at low_at low x (terminal close_at t.RightParen ∷ rest))

rows_primary : (depth at open_at star_at close_at : ℕ) (rest : Tokens)
    → Yields (primary (inner_at depth) aggregates.Allowed (terminal at t.Count ∷ terminal open_at t.LeftParen ∷ terminal star_at t.Star ∷ terminal close_at t.RightParen ∷ rest)) (v.CountRows at) rest
unfolding primary front after_lead counted finish same
rows_primary depth at open_at star_at close_at rest = reads refl

numeral_front : (g : Aggregates) (value at : ℕ) (rest : Tokens) → front g (token at (k.Numeral value) ∷ rest) ≡ (Ok (start.Whole (v.Numeral (record { at = at; value = value }))), rest)
unfolding front after_lead
numeral_front g value at rest = refl

text_front : (g : Aggregates) (inside : List ℕ) (at : ℕ) (rest : Tokens) → front g (token at (k.Text inside) ∷ rest) ≡ (Ok (start.Whole (v.Text at (unquoted 39 inside))), rest)
unfolding front after_lead
text_front g inside at rest = refl

memory_found : {q : Tokens} {qualifier : Option Label} {which : Terminal} {width : Width} → IsQualifier q qualifier → IsWidth which width → (g : Aggregates) (at open_at : ℕ) (u : Tokens) (close_at : ℕ) (rest : Tokens)
    → front g ((q ++ terminal at which ∷ in_parens open_at close_at u) ++ rest) ≡ (Ok (start.Open (form.Memory qualifier at width)), (u ++ terminal close_at t.RightParen ∷ []) ++ rest)
memory_found IsQualifier.none s g at open_at u close_at rest = memory_front IsQualifier.none s g at open_at ((u ++ terminal close_at t.RightParen ∷ []) ++ rest)
memory_found (IsQualifier.some variable_at dot_at) s g at open_at u close_at rest = memory_front (IsQualifier.some variable_at dot_at) s g at open_at ((u ++ terminal close_at t.RightParen ∷ []) ++ rest)

no_star_before : {g : Aggregates} {u : Tokens} {x : ExprTree} → IsExpr g u x → (close_at : ℕ) (rest : Tokens) → found (offset_of t.Star) ((u ++ terminal close_at t.RightParen ∷ []) ++ rest) ≡ None
no_star_before h close_at rest = opens_no_star (opens_more (expr_opens h) (terminal close_at t.RightParen ∷ [])) rest

-- ---- sums and products from their parts

abbrev pub factor_member : Parser ExprTree → ℕ × Scale → Parser Factor
factor_member one_factor s = one_factor >>= λ x. pure (factor s.0 s.1 x)

abbrev pub addend_member : Parser ExprTree → ℕ × Sign → Parser Addend
addend_member one_factor s = term one_factor >>= λ x. pure (addend s.0 s.1 x)

scale_seen : {which : Terminal} {scale : Scale} → IsScale which scale → (at : ℕ) → scale_of (terminal at which) ≡ Some (at, scale)
scale_seen IsScale.times at = refl
scale_seen IsScale.divide at = refl

sign_seen : {which : Terminal} {sign : Sign} → IsSign which sign → (at : ℕ) → sign_of (terminal at which) ≡ Some (at, sign)
sign_seen IsSign.plus at = refl
sign_seen IsSign.minus at = refl

module _ (one_factor : Parser ExprTree) (u w rest : Tokens) where
  factors_join : {which : Terminal} {scale : Scale} {x : ExprTree} {xs : List Factor} (at : ℕ) → IsScale which scale → Yields (one_factor (u ++ (w ++ rest))) x (w ++ rest)
      → Many scale_of (factor_member one_factor) (w ++ rest) xs rest → Many scale_of (factor_member one_factor) (terminal at which ∷ ((u ++ w) ++ rest)) (factor at scale x ∷ xs) rest
  factors_join at s h g = rw (append_assoc u w rest) (many_more scale_of (factor_member one_factor) u (scale_seen s at) (yields_then _ h (reads refl)) g)

  addends_join : {which : Terminal} {sign : Sign} {x : ExprTree} {xs : List Addend} (at : ℕ) → IsSign which sign → Yields (term one_factor (u ++ (w ++ rest))) x (w ++ rest)
      → Many sign_of (addend_member one_factor) (w ++ rest) xs rest → Many sign_of (addend_member one_factor) (terminal at which ∷ ((u ++ w) ++ rest)) (addend at sign x ∷ xs) rest
  addends_join at s h g = rw (append_assoc u w rest) (many_more sign_of (addend_member one_factor) u (sign_seen s at) (yields_then _ h (reads refl)) g)

pub product_joins : (one_factor : Parser ExprTree) (w rest : Tokens) (x : ExprTree) (xs : List Factor) → Many scale_of (factor_member one_factor) (w ++ rest) xs rest → Yields (product one_factor x (w ++ rest)) (product_of x xs) rest
unfolding product more_factors
product_joins one_factor w rest x xs g = yields_then _ (yields_tails scale_of (factor_member one_factor) g) (reads refl)

pub sum_joins : (one_factor : Parser ExprTree) (w rest : Tokens) (x : ExprTree) (xs : List Addend) → Many sign_of (addend_member one_factor) (w ++ rest) xs rest → Yields (sum one_factor x (w ++ rest)) (sum_of x xs) rest
unfolding sum more_addends
sum_joins one_factor w rest x xs g = yields_then _ (yields_tails sign_of (addend_member one_factor) g) (reads refl)

term_joins : (one_factor : Parser ExprTree) (u w rest : Tokens) (x : ExprTree) (xs : List Factor) → Yields (one_factor (u ++ (w ++ rest))) x (w ++ rest)
    → Many scale_of (factor_member one_factor) (w ++ rest) xs rest → Yields (term one_factor ((u ++ w) ++ rest)) (product_of x xs) rest
unfolding term
term_joins one_factor u w rest x xs h g = rw (append_assoc u w rest) (yields_then _ h (product_joins one_factor w rest x xs g))

expr_joins : (one_factor : Parser ExprTree) (u w rest : Tokens) (x : ExprTree) (xs : List Addend) → Yields (term one_factor (u ++ (w ++ rest))) x (w ++ rest)
    → Many sign_of (addend_member one_factor) (w ++ rest) xs rest → Yields (expr_over one_factor ((u ++ w) ++ rest)) (sum_of x xs) rest
unfolding expr_over
expr_joins one_factor u w rest x xs h g = rw (append_assoc u w rest) (yields_then _ h (sum_joins one_factor w rest x xs g))

-- ---- a factor, one deeper

factor_deep : (g : Aggregates) (tokens : Tokens) (x : ExprTree) (rest : Tokens) → Yields (factor_at zero g tokens) x rest
unfolding factor_at
factor_deep g tokens x rest = wants tokens refl

factor_signed : (depth : ℕ) (g : Aggregates) (tokens rest : Tokens) {which : Terminal} {sign : Sign} (x : ExprTree) (at : ℕ) → IsSign which sign → Yields (factor_at depth g tokens) x rest
    → Yields (factor_at (suc depth) g (terminal at which ∷ tokens)) (e.Sign at sign x) rest
unfolding factor_at
factor_signed depth g tokens rest x at IsSign.plus h = yields_then _ h (reads refl)
factor_signed depth g tokens rest x at IsSign.minus h = yields_then _ h (reads refl)

factor_plain : (depth : ℕ) (g : Aggregates) (tokens : Tokens) (x : ExprTree) (rest : Tokens) → found sign_of tokens ≡ None → Yields (primary (inner_at depth) g tokens) x rest
    → Yields (factor_at (suc depth) g tokens) x rest
unfolding factor_at
factor_plain depth g tokens x rest none h = rw none h

-- ---- expressions

mutual
  pub expr_takes : {g : Aggregates} {u : Tokens} {x : ExprTree} → IsExpr g u x → (depth : ℕ) (rest : Tokens) → EndsExpr rest → Yields (expr_over (factor_at depth g) (u ++ rest)) x rest
  expr_takes (IsExpr.sum {g = g} {u = u} {w = w} {x = x} {xs = xs} h f) depth rest ends =
      expr_joins (factor_at depth g) u w rest x xs (term_takes h depth (w ++ rest) (term_ends f rest ends)) (addends_take f depth rest ends)

  pub addends_take : {g : Aggregates} {w : Tokens} {xs : List Addend} → AreAddends g w xs → (depth : ℕ) (rest : Tokens) → EndsExpr rest → Many sign_of (addend_member (factor_at depth g)) (w ++ rest) xs rest
  addends_take AreAddends.no_addend depth rest ends = many_done _ _ ends.no_sign
  addends_take (AreAddends.addends {g = g} {u = u} {w = w} at s h f) depth rest ends =
      addends_join (factor_at depth g) u w rest at s (term_takes h depth (w ++ rest) (term_ends f rest ends)) (addends_take f depth rest ends)

  term_takes : {g : Aggregates} {u : Tokens} {x : ExprTree} → IsTerm g u x → (depth : ℕ) (rest : Tokens) → EndsTerm rest → Yields (term (factor_at depth g) (u ++ rest)) x rest
  term_takes (IsTerm.product {g = g} {u = u} {w = w} {x = x} {xs = xs} h f) depth rest ends =
      term_joins (factor_at depth g) u w rest x xs (factor_takes h depth (w ++ rest) (factor_ends f rest ends)) (factors_take f depth rest ends)

  pub factors_take : {g : Aggregates} {w : Tokens} {xs : List Factor} → AreFactors g w xs → (depth : ℕ) (rest : Tokens) → EndsTerm rest → Many scale_of (factor_member (factor_at depth g)) (w ++ rest) xs rest
  factors_take AreFactors.no_factor depth rest ends = many_done _ _ ends.no_scale
  factors_take (AreFactors.factors {g = g} {u = u} {w = w} at s h f) depth rest ends =
      factors_join (factor_at depth g) u w rest at s (factor_takes h depth (w ++ rest) (factor_ends f rest ends)) (factors_take f depth rest ends)

  factor_takes : {g : Aggregates} {u : Tokens} {x : ExprTree} → IsFactor g u x → (depth : ℕ) (rest : Tokens) → EndsFactor rest → Yields (factor_at depth g (u ++ rest)) x rest
  factor_takes (IsFactor.primary {g = g} {u = u} {x = x} h) zero rest ends = factor_deep g (u ++ rest) x rest
  factor_takes (IsFactor.primary {g = g} {u = u} {x = x} h) (suc depth) rest ends =
      factor_plain depth g (u ++ rest) x rest (leads_no_sign (primary_leads h) rest) (primary_takes h depth rest ends)
  factor_takes (IsFactor.with_sign {g = g} {u = u} {which = which} {sign = sign} {x = x} at s h) zero rest ends = factor_deep g (terminal at which ∷ (u ++ rest)) (e.Sign at sign x) rest
  factor_takes (IsFactor.with_sign {g = g} {u = u} {x = x} at s h) (suc depth) rest ends = factor_signed depth g (u ++ rest) rest x at s (factor_takes h depth rest ends)

  primary_takes : {g : Aggregates} {u : Tokens} {x : ExprTree} → IsPrimary g u x → (depth : ℕ) (rest : Tokens) → EndsFactor rest → Yields (primary (inner_at depth) g (u ++ rest)) x rest
  primary_takes (IsPrimary.numeral {g = g} at) depth rest ends = whole_primary (inner_at depth) g _ _ rest (numeral_front g _ at rest)
  primary_takes (IsPrimary.text {g = g} at) depth rest ends = whole_primary (inner_at depth) g _ _ rest (text_front g _ at rest)
  primary_takes (IsPrimary.null {g = g} at) depth rest ends = whole_primary (inner_at depth) g _ _ rest (null_front g at rest)
  primary_takes (IsPrimary.column {g = g} h) depth rest ends = whole_primary (inner_at depth) g _ _ rest (column_front h g rest ends.no_dot)
  primary_takes (IsPrimary.parens {g = g} {u = u} {x = x} open_at close_at h) depth rest ends =
      around depth g form.Paren _ u x x close_at rest (paren_front g open_at _) (expr_takes h depth (terminal close_at t.RightParen ∷ rest) (ends_at_paren close_at rest)) (made_paren x _)
  primary_takes (IsPrimary.signed {g = g} {u = u} {x = x} at open_at close_at h) depth rest ends =
      around depth g (form.Signed at) _ u x _ close_at rest (signed_front g at open_at _) (expr_takes h depth (terminal close_at t.RightParen ∷ rest) (ends_at_paren close_at rest)) (made_signed at x _)
  primary_takes (IsPrimary.bits {g = g} {u = u} {x = x} {high = high} {low = low} at open_at comma_at high_at other_at low_at close_at h) depth rest ends =
      bits_primary depth g at open_at comma_at high_at high other_at low_at low close_at u x rest (expr_takes h depth _ (ends_at_comma comma_at _))
  primary_takes (IsPrimary.memory {g = g} {q = q} {u = u} {qualifier = qualifier} {which = which} {width = width} {x = x} at open_at close_at f s h) depth rest ends =
      around depth g (form.Memory qualifier at width) _ u x _ close_at rest (memory_found f s g at open_at u close_at rest)
      (expr_takes h depth (terminal close_at t.RightParen ∷ rest) (ends_at_paren close_at rest)) (made_memory qualifier at width x _)
  primary_takes (IsPrimary.rows at open_at star_at close_at) depth rest ends = rows_primary depth at open_at star_at close_at rest
  primary_takes (IsPrimary.aggregate {u = u} {function = function} {x = x} at open_at close_at s h) depth rest ends =
      around depth aggregates.Allowed (form.Aggregate at function) _ u x _ close_at rest (aggregate_front s at open_at _ (no_star_before h close_at rest))
      (expr_takes h depth (terminal close_at t.RightParen ∷ rest) (ends_at_paren close_at rest)) (made_aggregate at function x _)
