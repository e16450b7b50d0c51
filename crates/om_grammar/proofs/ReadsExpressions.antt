-- Where the parsers of expressions stop.
use Rattle.std.proofs.Common.{◌≡◌, ℕ, List, [], ◌∷◌, ◌++◌, Option, Some, None, refl, subst, append_assoc, arith}
use Rattle.om_token.specs.declared.token.Kind.{Kind}
use Rattle.om_token.specs.declared.token.Kind.TheVariants as k
use Rattle.om_token.specs.declared.token.Token.{Token}
use Rattle.om_token.specs.declared.terminal.Terminal.{Terminal}
use Rattle.om_token.specs.declared.terminal.Terminal.TheVariants as t
use Rattle.om_token.specs.Quotes.{unquoted}
use Rattle.om_grammar.specs.declared.tree.Label.{Label}
use Rattle.om_grammar.specs.declared.tree.Identifier.{Identifier}
use Rattle.om_grammar.specs.declared.tree.Identifier.TheVariants as i
use Rattle.om_grammar.specs.declared.expr_tree.ExprTree.{ExprTree}
use Rattle.om_grammar.specs.declared.expr_tree.ExprTree.TheVariants as v
use Rattle.om_grammar.specs.declared.expr_tree.Addend.{Addend}
use Rattle.om_grammar.specs.declared.expr_tree.Factor.{Factor}
use Rattle.om_grammar.specs.declared.expr_tree.Numeral.{Numeral}
use Rattle.om_grammar.specs.declared.expr_tree.Sign.{Sign}
use Rattle.om_grammar.specs.declared.expr_tree.Scale.{Scale}
use Rattle.om_grammar.specs.declared.expr_tree.Width.{Width}
use Rattle.om_grammar.specs.declared.expr_tree.Width.TheVariants as widths
use Rattle.om_grammar.specs.declared.expr_tree.Function.{Function}
use Rattle.om_grammar.specs.declared.expr_tree.Function.TheVariants as functions
use Rattle.om_grammar.specs.declared.aggregates.Aggregates.{Aggregates}
use Rattle.om_grammar.specs.declared.aggregates.Aggregates.TheVariants as aggregates
use Rattle.om_grammar.specs.declared.lead.Lead.{Lead}
use Rattle.om_grammar.specs.declared.lead.Lead.TheVariants as l
use Rattle.om_grammar.specs.declared.lead.Dotted.{Dotted}
use Rattle.om_grammar.specs.declared.lead.Dotted.TheVariants as dotted
use Rattle.om_grammar.specs.declared.start.Start.{Start}
use Rattle.om_grammar.specs.declared.start.Start.TheVariants as start
use Rattle.om_grammar.specs.declared.start.Form.{Form}
use Rattle.om_grammar.specs.declared.start.Form.TheVariants as forms
use Rattle.om_grammar.specs.Grammar.{Tokens, Lang, token, terminal, IsIdentifier, IsColumn, IsQualifier, IsWidth, IsFunction, addend, factor, sum_of, product_of, IsExpr, AreAddends, IsTerm, AreFactors, IsFactor, IsPrimary}
use Rattle.om_grammar.specs.Parsers.{Parser, ◌>>=◌, pure, one, branch}
use Rattle.om_grammar.specs.Reading as r
use Rattle.om_grammar.specs.Reading.{offset_of, sign_of, scale_of, numeral_of, dotted_in, dotted_of, lead_word, lead_aggregate, lead_terminal, lead_in, lead_of, expect, column_tree}
use Rattle.om_grammar.proofs.Runs.{Runs, pure_run, bind_run, then_run, seen_run, map_run, one_run, tails_runs, Then, Seen, Goes}
use Rattle.om_grammar.proofs.Marks.{IsMark, mark, mark_seen, expect_runs, IsSignMark, sign_mark, sign_seen, IsScaleMark, scale_mark, scale_seen}

-- ---- an example of each language

a_numeral : Numeral
a_numeral = record { at = 0; value = 0 }

pub some_factor : (g : Aggregates) → IsFactor g (terminal 0 t.Null ∷ []) (v.Null 0)
some_factor g = IsFactor.primary (IsPrimary.null 0)

pub some_term : (g : Aggregates) → IsTerm g (terminal 0 t.Null ∷ []) (v.Null 0)
some_term g = IsTerm.product (some_factor g) AreFactors.no_factor

pub some_expr : (g : Aggregates) → IsExpr g (terminal 0 t.Null ∷ []) (v.Null 0)
some_expr g = IsExpr.sum (some_term g) AreAddends.no_addend

-- ---- sums and products, over a parser of factors

module _ (depth : ℕ) (g : Aggregates) (one_factor : Parser ExprTree) (runs : Runs depth one_factor (IsFactor g)) where
  -- a factor of a product behind its operator
  pub data IsScaled (s : ℕ × Scale) : Tokens → Factor → Type 0 where
    scaled : {u : Tokens} {x : ExprTree} → IsFactor g u x → IsScaled s u (factor s.0 s.1 x)

  scaled_more : (next : Token) (s : ℕ × Scale) (u w : Tokens) (x : Factor) (xs : List Factor) → scale_of next ≡ Some s → IsScaled s u x → AreFactors g w xs → AreFactors g (next ∷ (u ++ w)) (x ∷ xs)
  scaled_more next s u w x xs seen h f = go next s u x (scale_seen next s seen) h
    where
      go : (next : Token) (s : ℕ × Scale) (u : Tokens) (x : Factor) → IsScaleMark (next ∷ []) s → IsScaled s u x → AreFactors g (next ∷ (u ++ w)) (x ∷ xs)
      go next s u x (scale_mark at sign) (scaled h) = AreFactors.factors at sign h f

  pub more_factors_runs : Runs depth (r.more_factors one_factor) (AreFactors g)
  unfolding r.more_factors
  more_factors_runs =
      tails_runs depth scale_of (λ s. one_factor >>= λ x. pure (factor s.0 s.1 x)) IsScaled (AreFactors g)
      (λ s. map_run depth one_factor (λ x. factor s.0 s.1 x) (IsFactor g) (IsScaled s) (λ u x h. scaled h) runs)
      AreFactors.no_factor scaled_more

  -- the rest of a product behind its first factor
  pub data IsProduct (first : ExprTree) : Tokens → ExprTree → Type 0 where
    product_rest : {w : Tokens} {xs : List Factor} → AreFactors g w xs → IsProduct first w (product_of first xs)

  pub product_runs : (first : ExprTree) → Runs depth (r.product one_factor first) (IsProduct first)
  unfolding r.product
  product_runs first = map_run depth (r.more_factors one_factor) (product_of first) (AreFactors g) (IsProduct first) (λ u x h. product_rest h) more_factors_runs

  term_join : (u w : Tokens) (x y : ExprTree) → IsFactor g u x → IsProduct x w y → IsTerm g (u ++ w) y
  term_join u w x y h (product_rest f) = IsTerm.product h f

  pub term_runs : Runs depth (r.term one_factor) (IsTerm g)
  unfolding r.term
  term_runs = bind_run depth one_factor (r.product one_factor) (IsFactor g) IsProduct (IsTerm g) term_join (λ x. ([], x, product_rest AreFactors.no_factor)) runs product_runs

  -- a term of a sum behind its sign
  pub data IsAdded (s : ℕ × Sign) : Tokens → Addend → Type 0 where
    added : {u : Tokens} {x : ExprTree} → IsTerm g u x → IsAdded s u (addend s.0 s.1 x)

  added_more : (next : Token) (s : ℕ × Sign) (u w : Tokens) (x : Addend) (xs : List Addend) → sign_of next ≡ Some s → IsAdded s u x → AreAddends g w xs → AreAddends g (next ∷ (u ++ w)) (x ∷ xs)
  added_more next s u w x xs seen h f = go next s u x (sign_seen next s seen) h
    where
      go : (next : Token) (s : ℕ × Sign) (u : Tokens) (x : Addend) → IsSignMark (next ∷ []) s → IsAdded s u x → AreAddends g (next ∷ (u ++ w)) (x ∷ xs)
      go next s u x (sign_mark at sign) (added h) = AreAddends.addends at sign h f

  pub more_addends_runs : Runs depth (r.more_addends one_factor) (AreAddends g)
  unfolding r.more_addends
  more_addends_runs =
      tails_runs depth sign_of (λ s. r.term one_factor >>= λ x. pure (addend s.0 s.1 x)) IsAdded (AreAddends g)
      (λ s. map_run depth (r.term one_factor) (λ x. addend s.0 s.1 x) (IsTerm g) (IsAdded s) (λ u x h. added h) term_runs)
      AreAddends.no_addend added_more

  -- the rest of a sum behind its first term
  pub data IsSum (first : ExprTree) : Tokens → ExprTree → Type 0 where
    sum_rest : {w : Tokens} {xs : List Addend} → AreAddends g w xs → IsSum first w (sum_of first xs)

  pub sum_runs : (first : ExprTree) → Runs depth (r.sum one_factor first) (IsSum first)
  unfolding r.sum
  sum_runs first = map_run depth (r.more_addends one_factor) (sum_of first) (AreAddends g) (IsSum first) (λ u x h. sum_rest h) more_addends_runs

  expr_join : (u w : Tokens) (x y : ExprTree) → IsTerm g u x → IsSum x w y → IsExpr g (u ++ w) y
  expr_join u w x y h (sum_rest f) = IsExpr.sum h f

  pub expr_over_runs : Runs depth (r.expr_over one_factor) (IsExpr g)
  unfolding r.expr_over
  expr_over_runs = bind_run depth (r.term one_factor) (r.sum one_factor) (IsTerm g) IsSum (IsExpr g) expr_join (λ x. ([], x, sum_rest AreAddends.no_addend)) term_runs sum_runs

  -- the rest of an expression behind its first primary
  abbrev pub Resumes : ExprTree → Lang ExprTree
  Resumes = Then (IsPrimary g) (IsExpr g)

  resumed_join : (first : ExprTree) (u w : Tokens) (x y : ExprTree) → IsProduct first u x → IsSum x w y → Resumes first (u ++ w) y
  resumed_join first u w x y (product_rest {xs = xs} h) (sum_rest {xs = ys} f) = λ q p.
      subst (λ (tokens : Tokens). IsExpr g tokens (sum_of (product_of first xs) ys)) (append_assoc q u w) (IsExpr.sum (IsTerm.product (IsFactor.primary p) h) f)

  pub resumed_runs : (first : ExprTree) → Runs depth (r.resumed one_factor first) (Resumes first)
  unfolding r.resumed
  resumed_runs first =
      bind_run depth (r.product one_factor first) (r.sum one_factor) (IsProduct first) IsSum (Resumes first) (resumed_join first) (λ x. ([], x, sum_rest AreAddends.no_addend)) (product_runs first) sum_runs

-- ---- the front of a primary

-- what stands before the expression in parentheses
pub data IsOpening : Aggregates → Tokens → Form → Type 0 where
  paren : {g : Aggregates} (at : ℕ) → IsOpening g (terminal at t.LeftParen ∷ []) forms.Paren
  signed : {g : Aggregates} (at open_at : ℕ) → IsOpening g (terminal at t.Signed ∷ terminal open_at t.LeftParen ∷ []) (forms.Signed at)
  bits : {g : Aggregates} (at open_at : ℕ) → IsOpening g (terminal at t.Bits ∷ terminal open_at t.LeftParen ∷ []) (forms.Bits at)
  memory : {g : Aggregates} {q : Tokens} {qualifier : Option Label} {which : Terminal} {width : Width} (at open_at : ℕ) → IsQualifier q qualifier → IsWidth which width
      → IsOpening g (q ++ terminal at which ∷ terminal open_at t.LeftParen ∷ []) (forms.Memory qualifier at width)
  aggregate : {which : Terminal} {function : Function} (at open_at : ℕ) → IsFunction which function
      → IsOpening aggregates.Allowed (terminal at which ∷ terminal open_at t.LeftParen ∷ []) (forms.Aggregate at function)

pub data IsFront : Aggregates → Tokens → Start → Type 0 where
  whole : {g : Aggregates} {u : Tokens} {x : ExprTree} → IsPrimary g u x → IsFront g u (start.Whole x)
  rows : (at open_at star_at : ℕ) → IsFront aggregates.Allowed (terminal at t.Count ∷ terminal open_at t.LeftParen ∷ terminal star_at t.Star ∷ []) (start.Rows at)
  opening : {g : Aggregates} {u : Tokens} {form : Form} → IsOpening g u form → IsFront g u (start.Open form)

-- the first token of a primary
data IsLead : Aggregates → Tokens → Lead → Type 0 where
  numeral : {g : Aggregates} (at value : ℕ) → IsLead g (token at (k.Numeral value) ∷ []) (l.Numeral (record { at = at; value = value }))
  text : {g : Aggregates} (at : ℕ) (inside : List ℕ) → IsLead g (token at (k.Text inside) ∷ []) (l.Text at inside)
  null : {g : Aggregates} (at : ℕ) → IsLead g (terminal at t.Null ∷ []) (l.Null at)
  regular : {g : Aggregates} (at : ℕ) (name : List ℕ) → IsLead g (token at (k.Regular name) ∷ []) (l.Regular at name)
  delimited : {g : Aggregates} (at : ℕ) (inside : List ℕ) → IsLead g (token at (k.Delimited inside) ∷ []) (l.Delimited at inside)
  paren : {g : Aggregates} (at : ℕ) → IsLead g (terminal at t.LeftParen ∷ []) l.Paren
  signed : {g : Aggregates} (at : ℕ) → IsLead g (terminal at t.Signed ∷ []) (l.Signed at)
  bits : {g : Aggregates} (at : ℕ) → IsLead g (terminal at t.Bits ∷ []) (l.Bits at)
  memory : {g : Aggregates} {which : Terminal} {width : Width} (at : ℕ) → IsWidth which width → IsLead g (terminal at which ∷ []) (l.Memory at width)
  count : (at : ℕ) → IsLead aggregates.Allowed (terminal at t.Count ∷ []) (l.Count at)
  extreme : {which : Terminal} {function : Function} (at : ℕ) → IsFunction which function → IsLead aggregates.Allowed (terminal at which ∷ []) (l.Extreme at function)

word_fits : (g : Aggregates) (at : ℕ) (which : Terminal) (x : Lead) → lead_word at which ≡ Some x → IsLead g (terminal at which ∷ []) x
word_fits g at t.Null x h = let n : l.Null at ≡ x = cc in subst (IsLead g (terminal at t.Null ∷ [])) n (IsLead.null at)
word_fits g at t.LeftParen x h = let n : l.Paren ≡ x = cc in subst (IsLead g (terminal at t.LeftParen ∷ [])) n (IsLead.paren at)
word_fits g at t.Signed x h = let n : l.Signed at ≡ x = cc in subst (IsLead g (terminal at t.Signed ∷ [])) n (IsLead.signed at)
word_fits g at t.Bits x h = let n : l.Bits at ≡ x = cc in subst (IsLead g (terminal at t.Bits ∷ [])) n (IsLead.bits at)
word_fits g at t.Mem8 x h = let n : l.Memory at widths.Byte ≡ x = cc in subst (IsLead g (terminal at t.Mem8 ∷ [])) n (IsLead.memory at IsWidth.byte)
word_fits g at t.Mem16 x h = let n : l.Memory at widths.Half ≡ x = cc in subst (IsLead g (terminal at t.Mem16 ∷ [])) n (IsLead.memory at IsWidth.half)
word_fits g at t.Mem32 x h = let n : l.Memory at widths.Word ≡ x = cc in subst (IsLead g (terminal at t.Mem32 ∷ [])) n (IsLead.memory at IsWidth.word)
word_fits g at _ x h = absurd cc

aggregate_fits : (at : ℕ) (which : Terminal) (x : Lead) → lead_aggregate at which ≡ Some x → IsLead aggregates.Allowed (terminal at which ∷ []) x
aggregate_fits at t.Count x h = let n : l.Count at ≡ x = cc in subst (IsLead aggregates.Allowed (terminal at t.Count ∷ [])) n (IsLead.count at)
aggregate_fits at t.Min x h = let n : l.Extreme at functions.Min ≡ x = cc in subst (IsLead aggregates.Allowed (terminal at t.Min ∷ [])) n (IsLead.extreme at IsFunction.least)
aggregate_fits at t.Max x h = let n : l.Extreme at functions.Max ≡ x = cc in subst (IsLead aggregates.Allowed (terminal at t.Max ∷ [])) n (IsLead.extreme at IsFunction.greatest)
aggregate_fits at which x h = word_fits aggregates.Allowed at which x h

terminal_fits : (g : Aggregates) (at : ℕ) (which : Terminal) (x : Lead) → lead_terminal g at which ≡ Some x → IsLead g (terminal at which ∷ []) x
terminal_fits aggregates.Allowed at which x h = aggregate_fits at which x h
terminal_fits aggregates.Refused at which x h = word_fits aggregates.Refused at which x h

lead_fits : (g : Aggregates) (at : ℕ) (kind : Kind) (x : Lead) → lead_in g at kind ≡ Some x → IsLead g (token at kind ∷ []) x
lead_fits g at (k.Terminal which) x h = terminal_fits g at which x h
lead_fits g at (k.Regular name) x h = let n : l.Regular at name ≡ x = cc in subst (IsLead g (token at (k.Regular name) ∷ [])) n (IsLead.regular at name)
lead_fits g at (k.Delimited inside) x h = let n : l.Delimited at inside ≡ x = cc in subst (IsLead g (token at (k.Delimited inside) ∷ [])) n (IsLead.delimited at inside)
lead_fits g at (k.Numeral value) x h =
    let n : l.Numeral (record { at = at; value = value }) ≡ x = cc in
    subst (IsLead g (token at (k.Numeral value) ∷ [])) n (IsLead.numeral at value)
lead_fits g at (k.Text inside) x h = let n : l.Text at inside ≡ x = cc in subst (IsLead g (token at (k.Text inside) ∷ [])) n (IsLead.text at inside)

some_lead : (g : Aggregates) → lead_in g 0 (k.Numeral 0) ≡ Some (l.Numeral a_numeral)
unfolding a_numeral
some_lead g = refl

lead_runs : (depth : ℕ) (g : Aggregates) → Runs depth (one (lead_of g)) (IsLead g)
lead_runs depth g = one_run depth (lead_of g) (IsLead g) (λ next x h. lead_fits g next.at next.kind x h) (token 0 (k.Numeral 0), l.Numeral a_numeral, some_lead g)

-- what goes on from the first token of a primary
pub data IsAfter : Lead → Tokens → Start → Type 0 where
  numeral : (n : Numeral) → IsAfter (l.Numeral n) [] (start.Whole (v.Numeral n))
  text : (at : ℕ) (inside : List ℕ) → IsAfter (l.Text at inside) [] (start.Whole (v.Text at (unquoted 39 inside)))
  null : (at : ℕ) → IsAfter (l.Null at) [] (start.Whole (v.Null at))
  regular : (at : ℕ) (name : List ℕ) → IsAfter (l.Regular at name) [] (start.Whole (column_tree None at (i.Regular name)))
  behind_dot : {kind : Kind} {name : Identifier} (variable_at : ℕ) (variable : List ℕ) (dot_at at : ℕ) → IsIdentifier kind name
      → IsAfter (l.Regular variable_at variable) (terminal dot_at t.Dot ∷ token at kind ∷ []) (start.Whole (column_tree (Some (record { at = variable_at; name = variable })) at name))
  memory_behind_dot : {which : Terminal} {width : Width} (variable_at : ℕ) (variable : List ℕ) (dot_at at open_at : ℕ) → IsWidth which width
      → IsAfter (l.Regular variable_at variable) (terminal dot_at t.Dot ∷ terminal at which ∷ terminal open_at t.LeftParen ∷ [])
      (start.Open (forms.Memory (Some (record { at = variable_at; name = variable })) at width))
  delimited : (at : ℕ) (inside : List ℕ) → IsAfter (l.Delimited at inside) [] (start.Whole (column_tree None at (i.Delimited (unquoted 34 inside))))
  paren : IsAfter l.Paren [] (start.Open forms.Paren)
  signed : (at open_at : ℕ) → IsAfter (l.Signed at) (terminal open_at t.LeftParen ∷ []) (start.Open (forms.Signed at))
  bits : (at open_at : ℕ) → IsAfter (l.Bits at) (terminal open_at t.LeftParen ∷ []) (start.Open (forms.Bits at))
  memory : (at open_at : ℕ) (width : Width) → IsAfter (l.Memory at width) (terminal open_at t.LeftParen ∷ []) (start.Open (forms.Memory None at width))
  rows : (at open_at star_at : ℕ) → IsAfter (l.Count at) (terminal open_at t.LeftParen ∷ terminal star_at t.Star ∷ []) (start.Rows at)
  count : (at open_at : ℕ) → IsAfter (l.Count at) (terminal open_at t.LeftParen ∷ []) (start.Open (forms.Aggregate at functions.Count))
  extreme : (at open_at : ℕ) (function : Function) → IsAfter (l.Extreme at function) (terminal open_at t.LeftParen ∷ []) (start.Open (forms.Aggregate at function))

after_join : (g : Aggregates) (u w : Tokens) (x : Lead) (y : Start) → IsLead g u x → IsAfter x w y → IsFront g (u ++ w) y
after_join g u w x y (IsLead.numeral at value) (IsAfter.numeral n) = IsFront.whole (IsPrimary.numeral at)
after_join g u w x y (IsLead.text at inside) (IsAfter.text _ _) = IsFront.whole (IsPrimary.text at)
after_join g u w x y (IsLead.null at) (IsAfter.null _) = IsFront.whole (IsPrimary.null at)
after_join g u w x y (IsLead.regular at name) (IsAfter.regular _ _) = IsFront.whole (IsPrimary.column (IsColumn.alone at IsIdentifier.regular))
after_join g u w x y (IsLead.regular at name) (IsAfter.behind_dot _ _ dot_at name_at h) = IsFront.whole (IsPrimary.column (IsColumn.qualified at dot_at name_at h))
after_join g u w x y (IsLead.regular at name) (IsAfter.memory_behind_dot _ _ dot_at name_at open_at h) = IsFront.opening (IsOpening.memory name_at open_at (IsQualifier.some at dot_at) h)
after_join g u w x y (IsLead.delimited at inside) (IsAfter.delimited _ _) = IsFront.whole (IsPrimary.column (IsColumn.alone at IsIdentifier.delimited))
after_join g u w x y (IsLead.paren at) IsAfter.paren = IsFront.opening (IsOpening.paren at)
after_join g u w x y (IsLead.signed at) (IsAfter.signed _ open_at) = IsFront.opening (IsOpening.signed at open_at)
after_join g u w x y (IsLead.bits at) (IsAfter.bits _ open_at) = IsFront.opening (IsOpening.bits at open_at)
after_join g u w x y (IsLead.memory at h) (IsAfter.memory _ open_at _) = IsFront.opening (IsOpening.memory at open_at IsQualifier.none h)
after_join g u w x y (IsLead.count at) (IsAfter.rows _ open_at star_at) = IsFront.rows at open_at star_at
after_join g u w x y (IsLead.count at) (IsAfter.count _ open_at) = IsFront.opening (IsOpening.aggregate at open_at IsFunction.count)
after_join g u w x y (IsLead.extreme at h) (IsAfter.extreme _ open_at _) = IsFront.opening (IsOpening.aggregate at open_at h)

after_goes : (x : Lead) → Goes (IsAfter x)
after_goes (l.Numeral n) = ([], start.Whole (v.Numeral n), IsAfter.numeral n)
after_goes (l.Text at inside) = ([], start.Whole (v.Text at (unquoted 39 inside)), IsAfter.text at inside)
after_goes (l.Null at) = ([], start.Whole (v.Null at), IsAfter.null at)
after_goes (l.Regular at name) = ([], start.Whole (column_tree None at (i.Regular name)), IsAfter.regular at name)
after_goes (l.Delimited at inside) = ([], start.Whole (column_tree None at (i.Delimited (unquoted 34 inside))), IsAfter.delimited at inside)
after_goes l.Paren = ([], start.Open forms.Paren, IsAfter.paren)
after_goes (l.Signed at) = (terminal 0 t.LeftParen ∷ [], start.Open (forms.Signed at), IsAfter.signed at 0)
after_goes (l.Bits at) = (terminal 0 t.LeftParen ∷ [], start.Open (forms.Bits at), IsAfter.bits at 0)
after_goes (l.Memory at width) = (terminal 0 t.LeftParen ∷ [], start.Open (forms.Memory None at width), IsAfter.memory at 0 width)
after_goes (l.Count at) = (terminal 0 t.LeftParen ∷ [], start.Open (forms.Aggregate at functions.Count), IsAfter.count at 0)
after_goes (l.Extreme at function) = (terminal 0 t.LeftParen ∷ [], start.Open (forms.Aggregate at function), IsAfter.extreme at 0 function)

-- a parenthesis that opens
opened_runs : (depth : ℕ) (form : Form) (N : Lang Start) → ((at : ℕ) → N (terminal at t.LeftParen ∷ []) (start.Open form)) → Runs depth (r.opened form) N
unfolding r.opened
opened_runs depth form N h = map_run depth (expect t.LeftParen) (λ _. start.Open form) (IsMark t.LeftParen) N go (expect_runs depth t.LeftParen)
  where
    go : (u : Tokens) (x : ℕ) → IsMark t.LeftParen u x → N u (start.Open form)
    go u x (mark at) = h at

-- what stands behind a point
data IsDotted : Tokens → Dotted → Type 0 where
  regular : (at : ℕ) (name : List ℕ) → IsDotted (token at (k.Regular name) ∷ []) (dotted.Regular at name)
  delimited : (at : ℕ) (inside : List ℕ) → IsDotted (token at (k.Delimited inside) ∷ []) (dotted.Delimited at inside)
  memory : {which : Terminal} {width : Width} (at : ℕ) → IsWidth which width → IsDotted (terminal at which ∷ []) (dotted.Memory at width)

dotted_fits : (at : ℕ) (kind : Kind) (x : Dotted) → dotted_in at kind ≡ Some x → IsDotted (token at kind ∷ []) x
dotted_fits at (k.Regular name) x h = let n : dotted.Regular at name ≡ x = cc in subst (IsDotted (token at (k.Regular name) ∷ [])) n (IsDotted.regular at name)
dotted_fits at (k.Delimited inside) x h = let n : dotted.Delimited at inside ≡ x = cc in subst (IsDotted (token at (k.Delimited inside) ∷ [])) n (IsDotted.delimited at inside)
dotted_fits at (k.Terminal t.Mem8) x h = let n : dotted.Memory at widths.Byte ≡ x = cc in subst (IsDotted (terminal at t.Mem8 ∷ [])) n (IsDotted.memory at IsWidth.byte)
dotted_fits at (k.Terminal t.Mem16) x h = let n : dotted.Memory at widths.Half ≡ x = cc in subst (IsDotted (terminal at t.Mem16 ∷ [])) n (IsDotted.memory at IsWidth.half)
dotted_fits at (k.Terminal t.Mem32) x h = let n : dotted.Memory at widths.Word ≡ x = cc in subst (IsDotted (terminal at t.Mem32 ∷ [])) n (IsDotted.memory at IsWidth.word)
dotted_fits at _ x h = absurd cc

dotted_runs : (depth : ℕ) → Runs depth (one dotted_of) IsDotted
dotted_runs depth = one_run depth dotted_of IsDotted (λ next x h. dotted_fits next.at next.kind x h) (token 0 (k.Regular []), dotted.Regular 0 [], refl)

module _ (depth variable_at : ℕ) (variable : List ℕ) where
  the_label : Label
  the_label = record { at = variable_at; name = variable }

  -- what stands behind the point makes a front with the name before it
  abbrev Behind : ℕ → Lang Start
  Behind = Seen (offset_of t.Dot) (IsAfter (l.Regular variable_at variable))

  abbrev Dots : Dotted → Lang Start
  Dots x = λ w y. (at : ℕ) → Then IsDotted (Behind at) x w y

  regular_dot : (at : ℕ) (x : ℕ) (name : List ℕ) (u : Tokens) → IsDotted u (dotted.Regular x name) → (next : Token) → offset_of t.Dot next ≡ Some at
      → IsAfter (l.Regular variable_at variable) (next ∷ (u ++ [])) (start.Whole (column_tree (Some the_label) x (i.Regular name)))
  unfolding the_label
  regular_dot at x name u (IsDotted.regular _ _) next e = go next at (mark_seen t.Dot next at e)
    where
      go : (next : Token) (at : ℕ) → IsMark t.Dot (next ∷ []) at → IsAfter (l.Regular variable_at variable) (next ∷ token x (k.Regular name) ∷ []) (start.Whole (column_tree (Some (record { at = variable_at; name = variable })) x (i.Regular name)))
      go next at (mark dot_at) = IsAfter.behind_dot variable_at variable dot_at x IsIdentifier.regular

  delimited_dot : (at : ℕ) (x : ℕ) (inside : List ℕ) (u : Tokens) → IsDotted u (dotted.Delimited x inside) → (next : Token) → offset_of t.Dot next ≡ Some at
      → IsAfter (l.Regular variable_at variable) (next ∷ (u ++ [])) (start.Whole (column_tree (Some the_label) x (i.Delimited (unquoted 34 inside))))
  unfolding the_label
  delimited_dot at x inside u (IsDotted.delimited _ _) next e = go next at (mark_seen t.Dot next at e)
    where
      go : (next : Token) (at : ℕ) → IsMark t.Dot (next ∷ []) at
          → IsAfter (l.Regular variable_at variable) (next ∷ token x (k.Delimited inside) ∷ []) (start.Whole (column_tree (Some (record { at = variable_at; name = variable })) x (i.Delimited (unquoted 34 inside))))
      go next at (mark dot_at) = IsAfter.behind_dot variable_at variable dot_at x IsIdentifier.delimited

  memory_dot : (at x open_at : ℕ) (width : Width) (u : Tokens) → IsDotted u (dotted.Memory x width) → (next : Token) → offset_of t.Dot next ≡ Some at
      → IsAfter (l.Regular variable_at variable) (next ∷ (u ++ terminal open_at t.LeftParen ∷ [])) (start.Open (forms.Memory (Some the_label) x width))
  unfolding the_label
  memory_dot at x open_at width u (IsDotted.memory {which = which} _ h) next e = go next at (mark_seen t.Dot next at e)
    where
      go : (next : Token) (at : ℕ) → IsMark t.Dot (next ∷ []) at
          → IsAfter (l.Regular variable_at variable) (next ∷ terminal x which ∷ terminal open_at t.LeftParen ∷ []) (start.Open (forms.Memory (Some (record { at = variable_at; name = variable })) x width))
      go next at (mark dot_at) = IsAfter.memory_behind_dot variable_at variable dot_at x open_at h

  dot_runs : (at : ℕ) (x : Dotted) → Runs depth (r.after_dot the_label x) (Then IsDotted (Behind at) x)
  unfolding r.after_dot
  dot_runs at (dotted.Regular x name) = pure_run depth (start.Whole (column_tree (Some the_label) x (i.Regular name))) (Then IsDotted (Behind at) (dotted.Regular x name)) (regular_dot at x name)
  dot_runs at (dotted.Delimited x inside) =
      pure_run depth (start.Whole (column_tree (Some the_label) x (i.Delimited (unquoted 34 inside)))) (Then IsDotted (Behind at) (dotted.Delimited x inside)) (delimited_dot at x inside)
  dot_runs at (dotted.Memory x width) =
      opened_runs depth (forms.Memory (Some the_label) x width) (Then IsDotted (Behind at) (dotted.Memory x width)) (λ open_at u h next e. memory_dot at x open_at width u h next e)

  dot_goes : (at : ℕ) (x : Dotted) → Goes (Then IsDotted (Behind at) x)
  dot_goes at (dotted.Regular x name) = ([], start.Whole (column_tree (Some the_label) x (i.Regular name)), regular_dot at x name)
  dot_goes at (dotted.Delimited x inside) = ([], start.Whole (column_tree (Some the_label) x (i.Delimited (unquoted 34 inside))), delimited_dot at x inside)
  dot_goes at (dotted.Memory x width) =
      (terminal 0 t.LeftParen ∷ [], start.Open (forms.Memory (Some the_label) x width), λ u h next e. memory_dot at x 0 width u h next e)

  alone : IsAfter (l.Regular variable_at variable) [] (start.Whole (column_tree None the_label.at (i.Regular the_label.name)))
  unfolding the_label
  alone = IsAfter.regular variable_at variable

  named_runs : Runs depth (r.named the_label) (IsAfter (l.Regular variable_at variable))
  unfolding r.named
  named_runs =
      seen_run depth depth (offset_of t.Dot) (λ _. one dotted_of >>= r.after_dot the_label) (pure (start.Whole (column_tree None the_label.at (i.Regular the_label.name))))
      (IsAfter (l.Regular variable_at variable)) (omega arith)
      (λ at. then_run depth (one dotted_of) (r.after_dot the_label) IsDotted (Behind at) (dot_goes at) (dotted_runs depth) (dot_runs at))
      (pure_run depth (start.Whole (column_tree None the_label.at (i.Regular the_label.name))) (IsAfter (l.Regular variable_at variable)) alone)

  pub named_front_runs : Runs depth (r.named (record { at = variable_at; name = variable })) (IsAfter (l.Regular variable_at variable))
  unfolding the_label
  named_front_runs = named_runs

-- behind COUNT and its parenthesis: a star, or nothing yet
data IsCounted (at : ℕ) : Tokens → Start → Type 0 where
  star : (star_at : ℕ) → IsCounted at (terminal star_at t.Star ∷ []) (start.Rows at)
  no_star : IsCounted at [] (start.Open (forms.Aggregate at functions.Count))

count_join : (at : ℕ) (u w : Tokens) (x : ℕ) (y : Start) → IsMark t.LeftParen u x → IsCounted at w y → IsAfter (l.Count at) (u ++ w) y
count_join at u w x y (mark open_at) (star star_at) = IsAfter.rows at open_at star_at
count_join at u w x y (mark open_at) no_star = IsAfter.count at open_at

star_join : (at : ℕ) (next : Token) (s : ℕ) → offset_of t.Star next ≡ Some s → IsCounted at (next ∷ []) (start.Rows at)
star_join at next s e = go next s (mark_seen t.Star next s e)
  where
    go : (next : Token) (s : ℕ) → IsMark t.Star (next ∷ []) s → IsCounted at (next ∷ []) (start.Rows at)
    go next s (mark star_at) = star star_at

counted_runs : (depth at : ℕ) → Runs depth (r.counted at) (IsAfter (l.Count at))
unfolding r.counted
counted_runs depth at =
    bind_run depth (expect t.LeftParen) (λ _. branch (offset_of t.Star) (λ _. pure (start.Rows at)) (pure (start.Open (forms.Aggregate at functions.Count)))) (IsMark t.LeftParen) (λ _. IsCounted at)
    (IsAfter (l.Count at)) (count_join at) (λ _. ([], start.Open (forms.Aggregate at functions.Count), no_star)) (expect_runs depth t.LeftParen)
    (λ _. seen_run depth depth (offset_of t.Star) (λ _. pure (start.Rows at)) (pure (start.Open (forms.Aggregate at functions.Count))) (IsCounted at) (omega arith)
    (λ s. pure_run depth (start.Rows at) (Seen (offset_of t.Star) (IsCounted at) s) (λ next e. star_join at next s e))
    (pure_run depth (start.Open (forms.Aggregate at functions.Count)) (IsCounted at) no_star))

after_runs : (depth : ℕ) (x : Lead) → Runs depth (r.after_lead x) (IsAfter x)
unfolding r.after_lead
after_runs depth (l.Numeral n) = pure_run depth (start.Whole (v.Numeral n)) (IsAfter (l.Numeral n)) (IsAfter.numeral n)
after_runs depth (l.Text at inside) = pure_run depth (start.Whole (v.Text at (unquoted 39 inside))) (IsAfter (l.Text at inside)) (IsAfter.text at inside)
after_runs depth (l.Null at) = pure_run depth (start.Whole (v.Null at)) (IsAfter (l.Null at)) (IsAfter.null at)
after_runs depth (l.Regular at name) = named_front_runs depth at name
after_runs depth (l.Delimited at inside) =
    pure_run depth (start.Whole (column_tree None at (i.Delimited (unquoted 34 inside)))) (IsAfter (l.Delimited at inside)) (IsAfter.delimited at inside)
after_runs depth l.Paren = pure_run depth (start.Open forms.Paren) (IsAfter l.Paren) IsAfter.paren
after_runs depth (l.Signed at) = opened_runs depth (forms.Signed at) (IsAfter (l.Signed at)) (λ open_at. IsAfter.signed at open_at)
after_runs depth (l.Bits at) = opened_runs depth (forms.Bits at) (IsAfter (l.Bits at)) (λ open_at. IsAfter.bits at open_at)
after_runs depth (l.Memory at width) = opened_runs depth (forms.Memory None at width) (IsAfter (l.Memory at width)) (λ open_at. IsAfter.memory at open_at width)
after_runs depth (l.Count at) = counted_runs depth at
after_runs depth (l.Extreme at function) = opened_runs depth (forms.Aggregate at function) (IsAfter (l.Extreme at function)) (λ open_at. IsAfter.extreme at open_at function)

pub front_runs : (depth : ℕ) (g : Aggregates) → Runs depth (r.front g) (IsFront g)
unfolding r.front
front_runs depth g = bind_run depth (one (lead_of g)) r.after_lead (IsLead g) IsAfter (IsFront g) (after_join g) after_goes (lead_runs depth g) (after_runs depth)
