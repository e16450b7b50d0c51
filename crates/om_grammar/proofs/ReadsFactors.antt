-- Where the parsers of primaries, factors and expressions stop.
use Rattle.std.proofs.Common.{◌≡◌, ℕ, zero, suc, ◌≤◌, [], ◌∷◌, ◌++◌, length, Option, Some, sym, subst, append_assoc, arith}
use Rattle.std.proofs.lemmas.List.{append-nil, length-append}
use Rattle.om_token.specs.declared.token.Kind.TheVariants as k
use Rattle.om_token.specs.declared.token.Token.{Token}
use Rattle.om_token.specs.declared.terminal.Terminal.TheVariants as t
use Rattle.om_grammar.specs.declared.tree.Label.{Label}
use Rattle.om_grammar.specs.declared.expr_tree.ExprTree.{ExprTree}
use Rattle.om_grammar.specs.declared.expr_tree.ExprTree.TheVariants as v
use Rattle.om_grammar.specs.declared.expr_tree.ExprTree.TheViews as e
use Rattle.om_grammar.specs.declared.expr_tree.Numeral.{Numeral}
use Rattle.om_grammar.specs.declared.expr_tree.Sign.{Sign}
use Rattle.om_grammar.specs.declared.expr_tree.Width.{Width}
use Rattle.om_grammar.specs.declared.expr_tree.Function.{Function}
use Rattle.om_grammar.specs.declared.aggregates.Aggregates.{Aggregates}
use Rattle.om_grammar.specs.declared.start.Start.{Start}
use Rattle.om_grammar.specs.declared.start.Start.TheVariants as start
use Rattle.om_grammar.specs.declared.start.Form.{Form}
use Rattle.om_grammar.specs.declared.start.Form.TheVariants as forms
use Rattle.om_grammar.specs.Grammar.{Tokens, Lang, token, terminal, in_parens, IsSign, IsExpr, IsFactor, IsPrimary}
use Rattle.om_grammar.specs.Parsers.{Parser, ◌>>=◌, pure, one}
use Rattle.om_grammar.specs.Reading as r
use Rattle.om_grammar.specs.Reading.{offset_of, sign_of, numeral_of, expect, inside}
use Rattle.om_grammar.proofs.Runs.{Runs, pure_run, deep_run, bind_run, paid_run, then_run, seen_run, map_run, wider_run, Then, Seen, Goes}
use Rattle.om_grammar.proofs.Marks.{IsMark, mark, expect_runs, IsSignMark, sign_mark, sign_seen, IsNumeral, is_numeral, numeral_runs}
use Rattle.om_grammar.proofs.ReadsExpressions.{IsOpening, IsFront, whole, rows, opening, front_runs, some_expr, expr_over_runs}

-- ---- what goes on from the expression in parentheses

pub data IsCommaNumeral : Tokens → Numeral → Type 0 where
  comma_numeral : (at number_at value : ℕ) → IsCommaNumeral (terminal at t.Comma ∷ token number_at (k.Numeral value) ∷ []) (record { at = number_at; value = value })

comma_join : (u w : Tokens) (x : ℕ) (y : Numeral) → IsMark t.Comma u x → IsNumeral w y → IsCommaNumeral (u ++ w) y
comma_join u w x y (mark at) (is_numeral number_at value) = comma_numeral at number_at value

a_numeral : Numeral
a_numeral = record { at = 0; value = 0 }

some_numeral : IsNumeral (token 0 (k.Numeral 0) ∷ []) a_numeral
unfolding a_numeral
some_numeral = is_numeral 0 0

some_comma_numeral : IsCommaNumeral (terminal 0 t.Comma ∷ token 0 (k.Numeral 0) ∷ []) a_numeral
unfolding a_numeral
some_comma_numeral = comma_numeral 0 0 0

comma_numeral_runs : (depth : ℕ) → Runs depth r.comma_numeral IsCommaNumeral
unfolding r.comma_numeral
comma_numeral_runs depth =
    bind_run depth (expect t.Comma) (λ _. one numeral_of) (IsMark t.Comma) (λ _. IsNumeral) IsCommaNumeral comma_join (λ _. (token 0 (k.Numeral 0) ∷ [], a_numeral, some_numeral))
    (expect_runs depth t.Comma) (λ _. numeral_runs depth)

pub data IsCompletion : Form → ExprTree → Tokens → ExprTree → Type 0 where
  paren : {x : ExprTree} → IsCompletion forms.Paren x [] x
  signed : {x : ExprTree} {at : ℕ} → IsCompletion (forms.Signed at) x [] (e.Signed at x)
  bits : {x : ExprTree} {at : ℕ} {high low : Numeral} {u w : Tokens} → IsCommaNumeral u high → IsCommaNumeral w low → IsCompletion (forms.Bits at) x (u ++ w) (e.Bits at x high low)
  memory : {x : ExprTree} {qualifier : Option Label} {at : ℕ} {width : Width} → IsCompletion (forms.Memory qualifier at width) x [] (e.Memory qualifier at width x)
  aggregate : {x : ExprTree} {at : ℕ} {function : Function} → IsCompletion (forms.Aggregate at function) x [] (e.Aggregate at function x)

module _ (at : ℕ) (x : ExprTree) where
  data IsLow (high : Numeral) : Tokens → ExprTree → Type 0 where
    low_number : {low : Numeral} {w : Tokens} → IsCommaNumeral w low → IsLow high w (e.Bits at x high low)

  bits_join : (u w : Tokens) (high : Numeral) (y : ExprTree) → IsCommaNumeral u high → IsLow high w y → IsCompletion (forms.Bits at) x (u ++ w) y
  bits_join u w high y h (low_number f) = bits h f

  pub bit_numbers_runs : (depth : ℕ) → Runs depth (r.bit_numbers at x) (IsCompletion (forms.Bits at) x)
  unfolding r.bit_numbers
  bit_numbers_runs depth =
      bind_run depth r.comma_numeral (λ high. r.comma_numeral >>= λ low. pure (e.Bits at x high low)) IsCommaNumeral IsLow (IsCompletion (forms.Bits at) x) bits_join
      (λ high. (terminal 0 t.Comma ∷ token 0 (k.Numeral 0) ∷ [], e.Bits at x high a_numeral, low_number some_comma_numeral)) (comma_numeral_runs depth)
      (λ high. map_run depth r.comma_numeral (λ low. e.Bits at x high low) IsCommaNumeral (IsLow high) (λ u low h. low_number h) (comma_numeral_runs depth))

completed_runs : (depth : ℕ) (form : Form) (x : ExprTree) → Runs depth (r.completed form x) (IsCompletion form x)
unfolding r.completed
completed_runs depth forms.Paren x = pure_run depth x (IsCompletion forms.Paren x) paren
completed_runs depth (forms.Signed at) x = pure_run depth (e.Signed at x) (IsCompletion (forms.Signed at) x) signed
completed_runs depth (forms.Bits at) x = bit_numbers_runs at x depth
completed_runs depth (forms.Memory qualifier at width) x = pure_run depth (e.Memory qualifier at width x) (IsCompletion (forms.Memory qualifier at width) x) memory
completed_runs depth (forms.Aggregate at function) x = pure_run depth (e.Aggregate at function x) (IsCompletion (forms.Aggregate at function) x) aggregate

completion_goes : (form : Form) (x : ExprTree) → Goes (IsCompletion form x)
completion_goes forms.Paren x = ([], x, paren)
completion_goes (forms.Signed at) x = ([], e.Signed at x, signed)
completion_goes (forms.Bits at) x =
    (terminal 0 t.Comma ∷ token 0 (k.Numeral 0) ∷ terminal 0 t.Comma ∷ token 0 (k.Numeral 0) ∷ [], e.Bits at x a_numeral a_numeral, bits some_comma_numeral some_comma_numeral)
completion_goes (forms.Memory qualifier at width) x = ([], e.Memory qualifier at width x, memory)
completion_goes (forms.Aggregate at function) x = ([], e.Aggregate at function x, aggregate)

-- ---- primaries

-- the whole of a primary whose front and expression were read
bits_whole : (g : Aggregates) (at open_at close_at : ℕ) (u w z : Tokens) (x : ExprTree) (high low : Numeral) → IsExpr g u x → IsCommaNumeral w high → IsCommaNumeral z low
    → IsPrimary g (terminal at t.Bits ∷ in_parens open_at close_at (u ++ (w ++ z))) (e.Bits at x high low)
bits_whole g at open_at close_at u w z x high low h (comma_numeral comma_at high_at hv) (comma_numeral other_at low_at lv) =
    IsPrimary.bits at open_at comma_at high_at other_at low_at close_at h

whole_form : (g : Aggregates) (q u w : Tokens) (form : Form) (x y : ExprTree) (close_at : ℕ) → IsOpening g q form → IsExpr (inside g form) u x → IsCompletion form x w y
    → IsPrimary g (q ++ (u ++ (w ++ terminal close_at t.RightParen ∷ []))) y
whole_form g q u w form x y close_at (IsOpening.paren at) h IsCompletion.paren = IsPrimary.parens at close_at h
whole_form g q u w form x y close_at (IsOpening.signed at open_at) h IsCompletion.signed = IsPrimary.signed at open_at close_at h
whole_form g q u w form x y close_at (IsOpening.bits at open_at) h (IsCompletion.bits {high = high} {low = low} {u = a} {w = b} f n) =
    subst (λ (l : Tokens). IsPrimary g (terminal at t.Bits ∷ terminal open_at t.LeftParen ∷ l) (e.Bits at x high low)) (append_assoc u (a ++ b) (terminal close_at t.RightParen ∷ []))
    (bits_whole g at open_at close_at u a b x high low h f n)
whole_form g q u w form x y close_at (IsOpening.memory {q = p} {qualifier = qualifier} {which = which} {width = width} at open_at m n) h IsCompletion.memory =
    subst (λ (l : Tokens). IsPrimary g l (e.Memory qualifier at width x))
    (sym (append_assoc p (terminal at which ∷ terminal open_at t.LeftParen ∷ []) (u ++ terminal close_at t.RightParen ∷ [])))
    (IsPrimary.memory at open_at close_at m n h)
whole_form g q u w form x y close_at (IsOpening.aggregate at open_at m) h IsCompletion.aggregate = IsPrimary.aggregate at open_at close_at m h

opening_long : (g : Aggregates) (q : Tokens) (form : Form) → IsOpening g q form → 1 ≤ length q
opening_long g q form (IsOpening.paren at) = omega arith
opening_long g q form (IsOpening.signed at open_at) = omega arith
opening_long g q form (IsOpening.bits at open_at) = omega arith
opening_long g q form (IsOpening.memory {q = p} {which = which} at open_at m n) = omega (arith, length-append p (terminal at which ∷ terminal open_at t.LeftParen ∷ []))
opening_long g q form (IsOpening.aggregate at open_at m) = omega arith

form_of : (g : Aggregates) (q : Tokens) (form : Form) → IsFront g q (start.Open form) → IsOpening g q form
form_of g q form (opening h) = h

whole_end : (g : Aggregates) (x : ExprTree) (u : Tokens) → IsFront g u (start.Whole x) → IsPrimary g (u ++ []) x
whole_end g x u (whole h) = subst (λ (l : Tokens). IsPrimary g l x) (sym (append-nil u)) h

rows_end : (g : Aggregates) (at : ℕ) (w : Tokens) (close_at : ℕ) → IsMark t.RightParen w close_at → (u : Tokens) → IsFront g u (start.Rows at) → IsPrimary g (u ++ w) (v.CountRows at)
rows_end g at w close_at (mark _) u (rows _ open_at star_at) = IsPrimary.rows at open_at star_at close_at

primary_long : (g : Aggregates) (u : Tokens) (x : ExprTree) → IsPrimary g u x → 1 ≤ length u
primary_long g u x (IsPrimary.numeral at) = omega arith
primary_long g u x (IsPrimary.text at) = omega arith
primary_long g u x (IsPrimary.null at) = omega arith
primary_long g u x (IsPrimary.column (Rattle.om_grammar.specs.Grammar.IsColumn.alone at h)) = omega arith
primary_long g u x (IsPrimary.column (Rattle.om_grammar.specs.Grammar.IsColumn.qualified a b c h)) = omega arith
primary_long g u x (IsPrimary.parens at close_at h) = omega arith
primary_long g u x (IsPrimary.signed at open_at close_at h) = omega arith
primary_long g u x (IsPrimary.bits a b c d e f i h) = omega arith
primary_long g u x (IsPrimary.memory {q = q} {u = w} {which = which} at open_at close_at m n h) = omega (arith, length-append q (terminal at which ∷ in_parens open_at close_at w))
primary_long g u x (IsPrimary.rows a b c d) = omega arith
primary_long g u x (IsPrimary.aggregate a b c m h) = omega arith

front_long : (g : Aggregates) (u : Tokens) (x : Start) → IsFront g u x → 1 ≤ length u
front_long g u x (whole {x = y} h) = primary_long g u y h
front_long g u x (rows at open_at star_at) = omega arith
front_long g u x (opening {form = form} h) = opening_long g u form h

module _ (depth : ℕ) (g : Aggregates) (inner : Aggregates → Parser ExprTree) (runs : (h : Aggregates) → Runs depth (inner h) (IsExpr h)) where
  abbrev Finish : Start → Lang ExprTree
  Finish = Then (IsFront g) (IsPrimary g)

  abbrev Inside : Form → ExprTree → Lang ExprTree
  Inside form = Then (IsExpr (inside g form)) (Finish (start.Open form))

  close : (form : Form) (x : ExprTree) (w : Tokens) (y : ExprTree) → IsCompletion form x w y → (v : Tokens) (at : ℕ) → IsMark t.RightParen v at → Inside form x (w ++ v) y
  close form x w y c v at (mark _) = λ u h q o. whole_form g q u w form x y at (form_of g q form o) h c

  nested_runs : (form : Form) → Runs depth (r.nested inner g form) (Finish (start.Open form))
  unfolding r.nested
  nested_runs form =
      then_run depth (inner (inside g form)) (λ x. r.completed form x >>= λ y. expect t.RightParen >>= λ _. pure y) (IsExpr (inside g form)) (Finish (start.Open form))
      (λ x. let c = completion_goes form x in (c.0 ++ terminal 0 t.RightParen ∷ [], c.1, close form x c.0 c.1 c.2 (terminal 0 t.RightParen ∷ []) 0 (mark 0)))
      (runs (inside g form))
      (λ x. then_run depth (r.completed form x) (λ y. expect t.RightParen >>= λ _. pure y) (IsCompletion form x) (Inside form x)
      (λ y. (terminal 0 t.RightParen ∷ [], y, λ w c. close form x w y c (terminal 0 t.RightParen ∷ []) 0 (mark 0)))
      (completed_runs depth form x)
      (λ y. map_run depth (expect t.RightParen) (λ _. y) (IsMark t.RightParen) (Then (IsCompletion form x) (Inside form x) y) (λ v at m w c. close form x w y c v at m) (expect_runs depth t.RightParen)))

  finish_runs : (x : Start) → Runs depth (r.finish inner g x) (Finish x)
  unfolding r.finish
  finish_runs (start.Whole x) = pure_run depth x (Finish (start.Whole x)) (whole_end g x)
  finish_runs (start.Rows at) = map_run depth (expect t.RightParen) (λ _. v.CountRows at) (IsMark t.RightParen) (Finish (start.Rows at)) (λ w close_at m u h. rows_end g at w close_at m u h) (expect_runs depth t.RightParen)
  finish_runs (start.Open form) = nested_runs form

  finish_goes : (x : Start) → Goes (Finish x)
  finish_goes (start.Whole x) = ([], x, whole_end g x)
  finish_goes (start.Rows at) = (terminal 0 t.RightParen ∷ [], v.CountRows at, λ u h. rows_end g at (terminal 0 t.RightParen ∷ []) 0 (mark 0) u h)
  finish_goes (start.Open form) =
      let c = completion_goes form (v.Null 0) in (
        terminal 0 t.Null ∷ (c.0 ++ terminal 0 t.RightParen ∷ []),
        c.1,
        λ q o. close form (v.Null 0) c.0 c.1 c.2 (terminal 0 t.RightParen ∷ []) 0 (mark 0) (terminal 0 t.Null ∷ []) (some_expr (inside g form)) q o,
      )

  -- the first token pays for what stands in parentheses
  pub primary_runs : Runs (suc depth) (r.primary inner g) (IsPrimary g)
  unfolding r.primary
  primary_runs =
      paid_run (suc depth) depth (r.front g) (r.finish inner g) (IsFront g) Finish (IsPrimary g) (λ u x h. omega (arith, front_long g u x h)) (λ u v x y h f. f u h) finish_goes
      (front_runs (suc depth) g) finish_runs

-- ---- factors and expressions

sign_before : (g : Aggregates) (s : ℕ × Sign) (u : Tokens) (x : ExprTree) → IsFactor g u x → (next : Token) → sign_of next ≡ Some s → IsFactor g (next ∷ u) (e.Sign s.0 s.1 x)
sign_before g s u x h next seen = go next s (sign_seen next s seen)
  where
    go : (next : Token) (s : ℕ × Sign) → IsSignMark (next ∷ []) s → IsFactor g (next ∷ u) (e.Sign s.0 s.1 x)
    go next s (sign_mark at sign) = IsFactor.with_sign at sign h

pub factor_runs : (depth : ℕ) (g : Aggregates) → Runs depth (r.factor_at depth g) (IsFactor g)
unfolding r.factor_at
factor_runs zero g = deep_run (IsFactor g)
factor_runs (suc depth) g =
    seen_run (suc depth) depth sign_of (λ s. r.factor_at depth g >>= λ x. pure (e.Sign s.0 s.1 x)) (r.primary (λ h. r.expr_over (r.factor_at depth h)) g) (IsFactor g) (omega arith)
    (λ s. map_run depth (r.factor_at depth g) (λ x. e.Sign s.0 s.1 x) (IsFactor g) (Seen sign_of (IsFactor g) s) (λ u x h. sign_before g s u x h) (factor_runs depth g))
    (wider_run (suc depth) (suc depth) (r.primary (λ h. r.expr_over (r.factor_at depth h)) g) (IsPrimary g) (IsFactor g) (omega arith) (λ u x h. IsFactor.primary h)
    (primary_runs depth g (λ h. r.expr_over (r.factor_at depth h)) (λ h. expr_over_runs depth h (r.factor_at depth h) (factor_runs depth h))))

pub expr_runs : (depth : ℕ) (g : Aggregates) → Runs depth (r.expr depth g) (IsExpr g)
unfolding r.expr
expr_runs depth g = expr_over_runs depth g (r.factor_at depth g) (factor_runs depth g)
