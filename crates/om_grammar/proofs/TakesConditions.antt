-- A condition is read as its tokens say, where what follows doesn't go on with it. Where a condition may begin with an expression in
-- parentheses, the expression is read first, and what follows says what it is.
use Rattle.std.proofs.Common.{◌≡◌, ℕ, zero, suc, List, [], ◌∷◌, ◌++◌, Some, None, refl, ap, ◌∙◌, append_assoc}
use Rattle.om_token.specs.declared.token.Token.{Token}
use Rattle.om_token.specs.declared.terminal.Terminal.{Terminal}
use Rattle.om_token.specs.declared.terminal.Terminal.TheVariants as t
use Rattle.om_token.specs.Terminals.{same}
use Rattle.om_grammar.specs.declared.expr_tree.ExprTree.{ExprTree}
use Rattle.om_grammar.specs.declared.expr_tree.Addend.{Addend}
use Rattle.om_grammar.specs.declared.expr_tree.Factor.{Factor}
use Rattle.om_grammar.specs.declared.cond_tree.CondTree.{CondTree}
use Rattle.om_grammar.specs.declared.cond_tree.CondTree.TheVariants as b
use Rattle.om_grammar.specs.declared.cond_tree.CondTree.TheViews as c
use Rattle.om_grammar.specs.declared.cond_tree.Predicate.{Predicate}
use Rattle.om_grammar.specs.declared.cond_tree.Predicate.TheVariants as p
use Rattle.om_grammar.specs.declared.cond_tree.Polarity.{Polarity}
use Rattle.om_grammar.specs.declared.cond_tree.CompareOp.{CompareOp}
use Rattle.om_grammar.specs.declared.aggregates.Aggregates.{Aggregates}
use Rattle.om_grammar.specs.declared.aggregates.Aggregates.TheVariants as aggregates
use Rattle.om_grammar.specs.declared.found.Found.{Found}
use Rattle.om_grammar.specs.declared.found.Found.TheVariants as f
use Rattle.om_grammar.specs.declared.lead.Word.{Word}
use Rattle.om_grammar.specs.declared.lead.Word.TheVariants as word
use Rattle.om_grammar.specs.Grammar.{Tokens, terminal, in_parens, sum_of, product_of, all_of, any_of, IsExpr, AreAddends, IsTerm, AreFactors, IsFactor, IsPrimary, IsFunction, IsOperator, IsPolarity, IsValue, IsPredicate, IsCond, AreConjs, IsConj, AreNegs, IsNeg, IsTest}
use Rattle.om_grammar.specs.Reading as r
use Rattle.om_grammar.specs.Reading.{offset_of, sign_of, scale_of, word_of, closed, enclosed, listed, factor_at, product, sum, expr_over, resumed, between, within, after_not, is_null, after_word, compared, after_parens, truth, conjunction, conj, disjunction, after_neg, cond_over, neg_at}
use Rattle.om_grammar.specs.Parsers.{Parser, found}
use Rattle.om_grammar.proofs.Takes.{Yields, reads, wants, yields_then, yields_at, Many, many_done, many_more, yields_tails, listed_takes}
use Rattle.om_grammar.proofs.TakesExpressions.{EndsExpr, term_ends, ends_at_paren, ends_at_comma, LeadsOpenly, openly_more, openly_no_paren, sign_no_paren, column_leads, memory_leads, openly, opens_no_not, opens_more, expr_opens, expr_takes, addends_take, factors_take, product_joins, sum_joins, factor_member, addend_member, null, numeral, text, signed, bits, function_word}

-- ---- whether an expression begins with a parenthesis

-- an expression that begins with no parenthesis, or with an expression between parentheses
data Starts (g : Aggregates) : Tokens → ExprTree → Type 0 where
  straight : {u : Tokens} {x : ExprTree} → IsExpr g u x → ((rest : Tokens) → found (offset_of t.LeftParen) (u ++ rest) ≡ None) → Starts g u x
  paren : {u v w : Tokens} {x : ExprTree} {ys : List Factor} {xs : List Addend} (open_at close_at : ℕ) → IsExpr g u x → Starts g u x → AreFactors g v ys → AreAddends g w xs
      → Starts g ((in_parens open_at close_at u ++ v) ++ w) (sum_of (product_of x ys) xs)

openly_starts : {g : Aggregates} {u v w : Tokens} {x : ExprTree} {ys : List Factor} {xs : List Addend} → IsPrimary g u x → LeadsOpenly u → AreFactors g v ys → AreAddends g w xs
    → Starts g ((u ++ v) ++ w) (sum_of (product_of x ys) xs)
openly_starts {v = v} {w = w} h l f a = straight (IsExpr.sum (IsTerm.product (IsFactor.primary h) f) a) (λ rest. openly_no_paren (openly_more (openly_more l v) w) rest)

mutual
  starts_expr : {g : Aggregates} {u : Tokens} {x : ExprTree} → IsExpr g u x → Starts g u x
  starts_expr (IsExpr.sum h a) = starts_term h a

  starts_term : {g : Aggregates} {u : Tokens} {x : ExprTree} → IsTerm g u x → {w : Tokens} {xs : List Addend} → AreAddends g w xs → Starts g (u ++ w) (sum_of x xs)
  starts_term (IsTerm.product h f) a = starts_factor h f a

  starts_factor : {g : Aggregates} {u : Tokens} {x : ExprTree} → IsFactor g u x → {v w : Tokens} {ys : List Factor} {xs : List Addend} → AreFactors g v ys → AreAddends g w xs
      → Starts g ((u ++ v) ++ w) (sum_of (product_of x ys) xs)
  starts_factor (IsFactor.primary h) f a = starts_primary h f a
  starts_factor (IsFactor.with_sign {u = u} at s h) {v} {w} f a =
      straight (IsExpr.sum (IsTerm.product (IsFactor.with_sign at s h) f) a) (λ rest. sign_no_paren s at)

  starts_primary : {g : Aggregates} {u : Tokens} {x : ExprTree} → IsPrimary g u x → {v w : Tokens} {ys : List Factor} {xs : List Addend} → AreFactors g v ys → AreAddends g w xs
      → Starts g ((u ++ v) ++ w) (sum_of (product_of x ys) xs)
  starts_primary (IsPrimary.numeral at) f a = openly_starts (IsPrimary.numeral at) (openly at numeral) f a
  starts_primary (IsPrimary.text at) f a = openly_starts (IsPrimary.text at) (openly at text) f a
  starts_primary (IsPrimary.null at) f a = openly_starts (IsPrimary.null at) (openly at null) f a
  starts_primary (IsPrimary.column h) f a = openly_starts (IsPrimary.column h) (column_leads h) f a
  starts_primary (IsPrimary.parens open_at close_at h) f a = paren open_at close_at h (starts_expr h) f a
  starts_primary (IsPrimary.signed at open_at close_at h) f a = openly_starts (IsPrimary.signed at open_at close_at h) (openly at signed) f a
  starts_primary (IsPrimary.bits at open_at comma_at high_at other_at low_at close_at h) f a =
      openly_starts (IsPrimary.bits at open_at comma_at high_at other_at low_at close_at h) (openly at bits) f a
  starts_primary (IsPrimary.memory at open_at close_at q s h) f a = openly_starts (IsPrimary.memory at open_at close_at q s h) (memory_leads at _ q s) f a
  starts_primary (IsPrimary.rows at open_at star_at close_at) f a = openly_starts (IsPrimary.rows at open_at star_at close_at) (openly at (function_word IsFunction.count)) f a
  starts_primary (IsPrimary.aggregate at open_at close_at s h) f a = openly_starts (IsPrimary.aggregate at open_at close_at s h) (openly at (function_word s)) f a

-- ---- what may follow

-- these tokens don't go on with negations joined by AND
pub record EndsConj (rest : Tokens) : Type 0 where
  pub expr : EndsExpr rest
  pub no_and : found (offset_of t.And) rest ≡ None

-- these tokens don't go on with a condition
pub record EndsCond (rest : Tokens) : Type 0 where
  pub expr : EndsExpr rest
  pub no_and : found (offset_of t.And) rest ≡ None
  pub no_or : found (offset_of t.Or) rest ≡ None

ends_at_and : (at : ℕ) (rest : Tokens) → EndsExpr (terminal at t.And ∷ rest)
unfolding same
ends_at_and at rest = record { no_dot = refl; no_scale = refl; no_sign = refl }

ends_at_is : (at : ℕ) (rest : Tokens) → EndsExpr (terminal at t.Is ∷ rest)
unfolding same
ends_at_is at rest = record { no_dot = refl; no_scale = refl; no_sign = refl }

ends_at_operator : {which : Terminal} {op : CompareOp} → IsOperator which op → (at : ℕ) (rest : Tokens) → EndsExpr (terminal at which ∷ rest)
unfolding same
ends_at_operator IsOperator.equal at rest = record { no_dot = refl; no_scale = refl; no_sign = refl }
ends_at_operator IsOperator.not_equal at rest = record { no_dot = refl; no_scale = refl; no_sign = refl }
ends_at_operator IsOperator.less at rest = record { no_dot = refl; no_scale = refl; no_sign = refl }
ends_at_operator IsOperator.less_or_equal at rest = record { no_dot = refl; no_scale = refl; no_sign = refl }
ends_at_operator IsOperator.greater at rest = record { no_dot = refl; no_scale = refl; no_sign = refl }
ends_at_operator IsOperator.greater_or_equal at rest = record { no_dot = refl; no_scale = refl; no_sign = refl }

ends_at_between : {n : Tokens} {polarity : Polarity} → IsPolarity n polarity → (at : ℕ) (rest : Tokens) → EndsExpr (n ++ terminal at t.Between ∷ rest)
unfolding same
ends_at_between IsPolarity.plain at rest = record { no_dot = refl; no_scale = refl; no_sign = refl }
ends_at_between (IsPolarity.negated not_at) at rest = record { no_dot = refl; no_scale = refl; no_sign = refl }

ends_at_in : {n : Tokens} {polarity : Polarity} → IsPolarity n polarity → (at : ℕ) (rest : Tokens) → EndsExpr (n ++ terminal at t.In ∷ rest)
unfolding same
ends_at_in IsPolarity.plain at rest = record { no_dot = refl; no_scale = refl; no_sign = refl }
ends_at_in (IsPolarity.negated not_at) at rest = record { no_dot = refl; no_scale = refl; no_sign = refl }

negs_end : {w : Tokens} {xs : List CondTree} → AreNegs w xs → (rest : Tokens) → EndsConj rest → EndsExpr (w ++ rest)
negs_end AreNegs.no_neg rest ends = ends.expr
negs_end (AreNegs.negs {u = u} {w = w} at h g) rest ends = ends_at_and at ((u ++ w) ++ rest)

conjs_end : {w : Tokens} {xs : List CondTree} → AreConjs w xs → (rest : Tokens) → EndsCond rest → EndsConj (w ++ rest)
unfolding same
conjs_end AreConjs.no_conj rest ends = record { expr = ends.expr; no_and = ends.no_and }
conjs_end (AreConjs.conjs at h g) rest ends = record { expr = record { no_dot = refl; no_scale = refl; no_sign = refl }; no_and = refl }

cond_ends_at_paren : (at : ℕ) (rest : Tokens) → EndsCond (terminal at t.RightParen ∷ rest)
unfolding same
cond_ends_at_paren at rest = record { expr = ends_at_paren at rest; no_and = refl; no_or = refl }

-- ---- tests

abbrev factor_of : ℕ → Parser ExprTree
factor_of depth = factor_at depth aggregates.Refused

abbrev value_of : ℕ → Parser ExprTree
value_of depth = expr_over (factor_of depth)

-- a test whose parentheses hold conditions of this depth, and whose factors have that depth
abbrev test_of : ℕ → ℕ → Parser Found
test_of depth deep = r.one_test (cond_over (neg_at depth)) (factor_of deep)

test_straight : (inner : Parser Found) (one_factor : Parser ExprTree) (tokens middle : Tokens) (x : ExprTree) (y : Found) (rest : Tokens) → found (offset_of t.LeftParen) tokens ≡ None
    → Yields (expr_over one_factor tokens) x middle → Yields (compared (expr_over one_factor) x middle) y rest → Yields (r.one_test inner one_factor tokens) y rest
unfolding r.one_test
test_straight inner one_factor tokens middle x y rest e h g = rw e (yields_then (compared (expr_over one_factor)) h g)

test_paren : (inner : Parser Found) (one_factor : Parser ExprTree) (open_at close_at : ℕ) (u behind : Tokens) (x y : Found) (rest : Tokens)
    → Yields (inner (u ++ terminal close_at t.RightParen ∷ behind)) x (terminal close_at t.RightParen ∷ behind) → Yields (after_parens one_factor x behind) y rest
    → Yields (r.one_test inner one_factor (terminal open_at t.LeftParen ∷ (u ++ terminal close_at t.RightParen ∷ behind))) y rest
unfolding r.one_test closed same
test_paren inner one_factor open_at close_at u behind x y rest h g = yields_then (after_parens one_factor) (yields_then _ h (reads refl)) g

resumed_takes : (one_factor : Parser ExprTree) (v w after : Tokens) (x : ExprTree) (ys : List Factor) (xs : List Addend) → Many scale_of (factor_member one_factor) (v ++ (w ++ after)) ys (w ++ after)
    → Many sign_of (addend_member one_factor) (w ++ after) xs after → Yields (resumed one_factor x (v ++ (w ++ after))) (sum_of (product_of x ys) xs) after
unfolding resumed
resumed_takes one_factor v w after x ys xs h g = yields_then _ (product_joins one_factor v (w ++ after) x ys h) (sum_joins one_factor w after (product_of x ys) xs g)

after_value : (one_factor : Parser ExprTree) (x z : ExprTree) (behind after : Tokens) (y : Found) (rest : Tokens) → Yields (resumed one_factor x behind) z after
    → Yields (compared (expr_over one_factor) z after) y rest → Yields (after_parens one_factor (f.Value x) behind) y rest
unfolding after_parens
after_value one_factor x z behind after y rest h g = yields_then (compared (expr_over one_factor)) h g

cond_deep : (tokens : Tokens) (x : Found) (rest : Tokens) → Yields (cond_over (neg_at zero) tokens) x rest
unfolding cond_over neg_at
cond_deep tokens x rest = wants tokens refl

neg_plain : (depth : ℕ) (tokens : Tokens) (x : Found) (rest : Tokens) → found (offset_of t.Not) tokens ≡ None → ((deep : ℕ) → Yields (test_of depth deep tokens) x rest) → Yields (neg_at (suc depth) tokens) x rest
unfolding neg_at
neg_plain depth tokens x rest e h = rw e (h _)

cond_value : (neg : Parser Found) (tokens : Tokens) (x : ExprTree) (rest : Tokens) → Yields (neg tokens) (f.Value x) rest → Yields (cond_over neg tokens) (f.Value x) rest
unfolding cond_over after_neg
cond_value neg tokens x rest h = yields_then (after_neg neg) h (reads refl)

value_left : (value : Parser ExprTree) (x : ExprTree) (at : ℕ) (rest : Tokens) → Yields (compared value x (terminal at t.RightParen ∷ rest)) (f.Value x) (terminal at t.RightParen ∷ rest)
unfolding compared
value_left value x at rest = reads refl

regroup : (u : Tokens) (token : Token) (v w after : Tokens) → (((u ++ token ∷ []) ++ v) ++ w) ++ after ≡ u ++ token ∷ (v ++ (w ++ after))
regroup u token v w after = simp append_assoc

paren_test : (depth deep open_at close_at : ℕ) (u v w after : Tokens) (x : ExprTree) (ys : List Factor) (xs : List Addend) (y : Found) (rest : Tokens)
    → Yields (cond_over (neg_at depth) (u ++ terminal close_at t.RightParen ∷ (v ++ (w ++ after)))) (f.Value x) (terminal close_at t.RightParen ∷ (v ++ (w ++ after)))
    → AreFactors aggregates.Refused v ys → AreAddends aggregates.Refused w xs → EndsExpr after
    → Yields (compared (value_of deep) (sum_of (product_of x ys) xs) after) y rest → Yields (test_of depth deep (((in_parens open_at close_at u ++ v) ++ w) ++ after)) y rest
paren_test depth deep open_at close_at u v w after x ys xs y rest h fs gs ends g =
    yields_at (test_of depth deep) (ap (λ (l : Tokens). terminal open_at t.LeftParen ∷ l) (regroup u (terminal close_at t.RightParen) v w after))
    (test_paren (cond_over (neg_at depth)) (factor_of deep) open_at close_at u (v ++ (w ++ after)) (f.Value x) y rest h
    (after_value (factor_of deep) x (sum_of (product_of x ys) xs) (v ++ (w ++ after)) after y rest
    (resumed_takes (factor_of deep) v w after x ys xs (factors_take fs deep (w ++ after) (term_ends gs after ends)) (addends_take gs deep after ends)) g))

-- a test that begins with an expression
value_test : {u : Tokens} {x : ExprTree} → Starts aggregates.Refused u x → (depth deep : ℕ) (after : Tokens) → EndsExpr after → (y : Found) (rest : Tokens)
    → Yields (compared (value_of deep) x after) y rest → Yields (test_of depth deep (u ++ after)) y rest
value_test (straight {u = u} {x = x} h e) depth deep after ends y rest g =
    test_straight (cond_over (neg_at depth)) (factor_of deep) (u ++ after) after x y rest (e after) (expr_takes h deep after ends) g
value_test (paren {u = u} {v = v} {w = w} {x = x} {ys = ys} {xs = xs} open_at close_at h s fs gs) zero deep after ends y rest g =
    paren_test zero deep open_at close_at u v w after x ys xs y rest (cond_deep (u ++ terminal close_at t.RightParen ∷ (v ++ (w ++ after))) (f.Value x) _) fs gs ends g
value_test (paren {u = u} {v = v} {w = w} {x = x} {ys = ys} {xs = xs} open_at close_at h s fs gs) (suc depth) deep after ends y rest g =
    paren_test (suc depth) deep open_at close_at u v w after x ys xs y rest
    (cond_value (neg_at (suc depth)) _ x _ (neg_plain depth _ (f.Value x) _ (opens_no_not (expr_opens h) (terminal close_at t.RightParen ∷ (v ++ (w ++ after))))
    (λ deep. value_test s depth deep (terminal close_at t.RightParen ∷ (v ++ (w ++ after))) (ends_at_paren close_at (v ++ (w ++ after))) (f.Value x) (terminal close_at t.RightParen ∷ (v ++ (w ++ after))) (value_left (value_of deep) x close_at (v ++ (w ++ after))))))
    fs gs ends g

-- ---- predicates

word_seen : {which : Terminal} {op : CompareOp} → IsOperator which op → (at : ℕ) → word_of (terminal at which) ≡ Some (word.Compare at op)
word_seen IsOperator.equal at = refl
word_seen IsOperator.not_equal at = refl
word_seen IsOperator.less at = refl
word_seen IsOperator.less_or_equal at = refl
word_seen IsOperator.greater at = refl
word_seen IsOperator.greater_or_equal at = refl

compared_truth : (value : Parser ExprTree) (what : ExprTree) (token : Token) (tokens : Tokens) (w : Word) (x : Predicate) (rest : Tokens) → word_of token ≡ Some w
    → Yields (after_word what value w tokens) x rest → Yields (compared value what (token ∷ tokens)) (f.Truth (b.Predicate x)) rest
unfolding compared
compared_truth value what token tokens w x rest e h = rw e (yields_then _ h (reads refl))

comparison_takes : (value : Parser ExprTree) (what : ExprTree) {which : Terminal} {op : CompareOp} (at : ℕ) (tokens : Tokens) (right : ExprTree) (rest : Tokens) → IsOperator which op
    → Yields (value tokens) right rest → Yields (compared value what (terminal at which ∷ tokens)) (f.Truth (b.Predicate (p.Compare at op what right))) rest
unfolding after_word
comparison_takes value what {which} {op} at tokens right rest o h =
    compared_truth value what (terminal at which) tokens (word.Compare at op) (p.Compare at op what right) rest (word_seen o at) (yields_then _ h (reads refl))

between_takes : (value : Parser ExprTree) (what low high : ExprTree) {n : Tokens} {polarity : Polarity} (at and_at : ℕ) (tokens others rest : Tokens) → IsPolarity n polarity
    → Yields (value tokens) low (terminal and_at t.And ∷ others) → Yields (value others) high rest
    → Yields (compared value what (n ++ terminal at t.Between ∷ tokens)) (f.Truth (b.Predicate (p.Between at polarity what low high))) rest
unfolding compared after_word after_not between same
between_takes value what low high at and_at tokens others rest IsPolarity.plain h g = yields_then _ (yields_then _ h (yields_then _ g (reads refl))) (reads refl)
between_takes value what low high at and_at tokens others rest (IsPolarity.negated not_at) h g = yields_then _ (yields_then _ h (yields_then _ g (reads refl))) (reads refl)

within_takes : (value : Parser ExprTree) (what : ExprTree) (list : List ExprTree) {n : Tokens} {polarity : Polarity} (at open_at close_at : ℕ) (tokens rest : Tokens) → IsPolarity n polarity
    → Yields (listed value tokens) list (terminal close_at t.RightParen ∷ rest)
    → Yields (compared value what (n ++ terminal at t.In ∷ terminal open_at t.LeftParen ∷ tokens)) (f.Truth (b.Predicate (p.In at polarity what list))) rest
unfolding compared after_word after_not within enclosed closed same
within_takes value what list at open_at close_at tokens rest IsPolarity.plain h = yields_then _ (yields_then _ (yields_then _ h (reads refl)) (reads refl)) (reads refl)
within_takes value what list at open_at close_at tokens rest (IsPolarity.negated not_at) h = yields_then _ (yields_then _ (yields_then _ h (reads refl)) (reads refl)) (reads refl)

is_null_takes : (value : Parser ExprTree) (what : ExprTree) {n : Tokens} {polarity : Polarity} (at null_at : ℕ) (rest : Tokens) → IsPolarity n polarity
    → Yields (compared value what (terminal at t.Is ∷ ((n ++ terminal null_at t.Null ∷ []) ++ rest))) (f.Truth (b.Predicate (p.IsNull at polarity what))) rest
unfolding compared after_word is_null same
is_null_takes value what at null_at rest IsPolarity.plain = reads refl
is_null_takes value what at null_at rest (IsPolarity.negated not_at) = reads refl

no_comma_at_paren : (at : ℕ) (rest : Tokens) → found (offset_of t.Comma) (terminal at t.RightParen ∷ rest) ≡ None
unfolding same
no_comma_at_paren at rest = refl

between_regroup : (n : Tokens) (at : Token) (v : Tokens) (and_at : Token) (w rest : Tokens) → (n ++ at ∷ (v ++ and_at ∷ w)) ++ rest ≡ n ++ at ∷ (v ++ and_at ∷ (w ++ rest))
between_regroup n at v and_at w rest = simp append_assoc

in_regroup : (n : Tokens) (at first : Token) (w : Tokens) (last : Token) (rest : Tokens) → (n ++ at ∷ first ∷ (w ++ last ∷ [])) ++ rest ≡ n ++ at ∷ first ∷ (w ++ last ∷ rest)
in_regroup n at first w last rest = simp append_assoc

-- an expression, and what makes a predicate of it
predicate_from : (depth deep : ℕ) (u tail after : Tokens) (x : ExprTree) (rest : Tokens) (y : Found) → IsValue u x → tail ++ rest ≡ after → EndsExpr after
    → Yields (compared (value_of deep) x after) y rest → Yields (test_of depth deep ((u ++ tail) ++ rest)) y rest
predicate_from depth deep u tail after x rest y h e ends g =
    yields_at (test_of depth deep) (append_assoc u tail rest ∙ ap (λ (l : Tokens). u ++ l) e) (value_test (starts_expr h) depth deep after ends y rest g)

predicate_takes : {u : Tokens} {x : Predicate} → IsPredicate u x → (depth deep : ℕ) (rest : Tokens) → EndsExpr rest → Yields (test_of depth deep (u ++ rest)) (f.Truth (b.Predicate x)) rest
predicate_takes (IsPredicate.comparison {u = u} {w = w} {which = which} {left = left} {right = right} at h o g) depth deep rest ends =
    predicate_from depth deep u (terminal at which ∷ w) (terminal at which ∷ (w ++ rest)) left rest _ h refl (ends_at_operator o at (w ++ rest))
    (comparison_takes (value_of deep) left at (w ++ rest) right rest o (expr_takes g deep rest ends))
predicate_takes (IsPredicate.between {u = u} {n = n} {v = v} {w = w} {what = what} {low = low} {high = high} at and_at h o g k) depth deep rest ends =
    predicate_from depth deep u _ _ what rest _ h (between_regroup n (terminal at t.Between) v (terminal and_at t.And) w rest) (ends_at_between o at (v ++ terminal and_at t.And ∷ (w ++ rest)))
    (between_takes (value_of deep) what low high at and_at (v ++ terminal and_at t.And ∷ (w ++ rest)) (w ++ rest) rest o (expr_takes g deep (terminal and_at t.And ∷ (w ++ rest)) (ends_at_and and_at (w ++ rest))) (expr_takes k deep rest ends))
predicate_takes (IsPredicate.within {u = u} {n = n} {w = w} {what = what} {list = list} at open_at close_at h o g) depth deep rest ends =
    predicate_from depth deep u _ _ what rest _ h (in_regroup n (terminal at t.In) (terminal open_at t.LeftParen) w (terminal close_at t.RightParen) rest)
    (ends_at_in o at (terminal open_at t.LeftParen ∷ (w ++ terminal close_at t.RightParen ∷ rest)))
    (within_takes (value_of deep) what list at open_at close_at (w ++ terminal close_at t.RightParen ∷ rest) rest o
    (listed_takes IsValue (value_of deep) EndsExpr ends_at_comma (λ u x h rest ends. expr_takes h deep rest ends) g (terminal close_at t.RightParen ∷ rest) (ends_at_paren close_at rest) (no_comma_at_paren close_at rest)))
predicate_takes (IsPredicate.is_null {u = u} {n = n} {what = what} at null_at h o) depth deep rest ends =
    predicate_from depth deep u (terminal at t.Is ∷ (n ++ terminal null_at t.Null ∷ [])) (terminal at t.Is ∷ ((n ++ terminal null_at t.Null ∷ []) ++ rest)) what rest _ h refl
    (ends_at_is at ((n ++ terminal null_at t.Null ∷ []) ++ rest)) (is_null_takes (value_of deep) what at null_at rest o)

value_no_not : {u : Tokens} {x : ExprTree} → IsValue u x → (tail rest : Tokens) → found (offset_of t.Not) ((u ++ tail) ++ rest) ≡ None
value_no_not h tail rest = opens_no_not (opens_more (expr_opens h) tail) rest

test_no_not : {u : Tokens} {x : CondTree} → IsTest u x → (rest : Tokens) → found (offset_of t.Not) (u ++ rest) ≡ None
unfolding same
test_no_not (IsTest.nested open_at close_at h) rest = refl
test_no_not (IsTest.predicate (IsPredicate.comparison {w = w} {which = which} at h o g)) rest = value_no_not h (terminal at which ∷ w) rest
test_no_not (IsTest.predicate (IsPredicate.between at and_at h o g k)) rest = value_no_not h _ rest
test_no_not (IsTest.predicate (IsPredicate.within at open_at close_at h o g)) rest = value_no_not h _ rest
test_no_not (IsTest.predicate (IsPredicate.is_null at null_at h o)) rest = value_no_not h _ rest

-- ---- conditions

truth_takes : (both : Parser Found) (tokens : Tokens) (x : CondTree) (rest : Tokens) → Yields (both tokens) (f.Truth x) rest → Yields (truth both tokens) x rest
unfolding truth
truth_takes both tokens x rest h = yields_then _ h (reads refl)

neg_deep : (tokens : Tokens) (x : Found) (rest : Tokens) → Yields (neg_at zero tokens) x rest
unfolding neg_at
neg_deep tokens x rest = wants tokens refl

neg_not : (depth : ℕ) (tokens rest : Tokens) (x : CondTree) (at : ℕ) → Yields (neg_at depth tokens) (f.Truth x) rest → Yields (neg_at (suc depth) (terminal at t.Not ∷ tokens)) (f.Truth (c.Not at x)) rest
unfolding neg_at same
neg_not depth tokens rest x at h = yields_then _ (truth_takes (neg_at depth) tokens x rest h) (reads refl)

abbrev neg_member : Parser Found → ℕ → Parser CondTree
neg_member neg at = truth neg

abbrev conj_member : Parser Found → ℕ → Parser CondTree
conj_member neg at = conj neg

and_seen : (at : ℕ) → offset_of t.And (terminal at t.And) ≡ Some at
unfolding same
and_seen at = refl

or_seen : (at : ℕ) → offset_of t.Or (terminal at t.Or) ≡ Some at
unfolding same
or_seen at = refl

module _ (neg : Parser Found) (u w rest : Tokens) (x : CondTree) where
  negs_join : (xs : List CondTree) (at : ℕ) → Yields (neg (u ++ (w ++ rest))) (f.Truth x) (w ++ rest) → Many (offset_of t.And) (neg_member neg) (w ++ rest) xs rest
      → Many (offset_of t.And) (neg_member neg) (terminal at t.And ∷ ((u ++ w) ++ rest)) (x ∷ xs) rest
  negs_join xs at h g = rw (append_assoc u w rest) (many_more (offset_of t.And) (neg_member neg) u (and_seen at) (truth_takes neg (u ++ (w ++ rest)) x (w ++ rest) h) g)

  conjs_join : (xs : List CondTree) (at : ℕ) → Yields (conj neg (u ++ (w ++ rest))) x (w ++ rest) → Many (offset_of t.Or) (conj_member neg) (w ++ rest) xs rest
      → Many (offset_of t.Or) (conj_member neg) (terminal at t.Or ∷ ((u ++ w) ++ rest)) (x ∷ xs) rest
  conjs_join xs at h g = rw (append_assoc u w rest) (many_more (offset_of t.Or) (conj_member neg) u (or_seen at) h g)

conjunction_takes : (neg : Parser Found) (x : CondTree) (tokens : Tokens) (xs : List CondTree) (rest : Tokens) → Many (offset_of t.And) (neg_member neg) tokens xs rest → Yields (conjunction neg x tokens) (all_of x xs) rest
unfolding conjunction
conjunction_takes neg x tokens xs rest g = yields_then _ (yields_tails (offset_of t.And) (neg_member neg) g) (reads refl)

disjunction_takes : (neg : Parser Found) (x : CondTree) (tokens : Tokens) (xs : List CondTree) (rest : Tokens) → Many (offset_of t.Or) (conj_member neg) tokens xs rest → Yields (disjunction neg x tokens) (any_of x xs) rest
unfolding disjunction
disjunction_takes neg x tokens xs rest g = yields_then _ (yields_tails (offset_of t.Or) (conj_member neg) g) (reads refl)

conj_joins : (neg : Parser Found) (u w rest : Tokens) (x : CondTree) (xs : List CondTree) → Yields (neg (u ++ (w ++ rest))) (f.Truth x) (w ++ rest)
    → Many (offset_of t.And) (neg_member neg) (w ++ rest) xs rest → Yields (conj neg ((u ++ w) ++ rest)) (all_of x xs) rest
unfolding conj
conj_joins neg u w rest x xs h g = rw (append_assoc u w rest) (yields_then _ (truth_takes neg (u ++ (w ++ rest)) x (w ++ rest) h) (conjunction_takes neg x (w ++ rest) xs rest g))

two_tails : (u v w rest : Tokens) → ((u ++ v) ++ w) ++ rest ≡ u ++ (v ++ (w ++ rest))
two_tails u v w rest = simp append_assoc

cond_joins : (neg : Parser Found) (u v w rest : Tokens) (x : CondTree) (xs ys : List CondTree) → Yields (neg (u ++ (v ++ (w ++ rest)))) (f.Truth x) (v ++ (w ++ rest))
    → Many (offset_of t.And) (neg_member neg) (v ++ (w ++ rest)) xs (w ++ rest) → Many (offset_of t.Or) (conj_member neg) (w ++ rest) ys rest
    → Yields (cond_over neg (((u ++ v) ++ w) ++ rest)) (f.Truth (any_of (all_of x xs) ys)) rest
unfolding cond_over after_neg
cond_joins neg u v w rest x xs ys h g k =
    rw (two_tails u v w rest) (yields_then (after_neg neg) h (yields_then _ (conjunction_takes neg x (v ++ (w ++ rest)) xs (w ++ rest) g) (yields_then _ (disjunction_takes neg (all_of x xs) (w ++ rest) ys rest k) (reads refl))))

nested_test : (depth deep open_at close_at : ℕ) (u rest : Tokens) (x : CondTree) → Yields (cond_over (neg_at depth) (u ++ terminal close_at t.RightParen ∷ rest)) (f.Truth x) (terminal close_at t.RightParen ∷ rest)
    → Yields (test_of depth deep (terminal open_at t.LeftParen ∷ ((u ++ terminal close_at t.RightParen ∷ []) ++ rest))) (f.Truth x) rest
unfolding after_parens
nested_test depth deep open_at close_at u rest x h =
    rw (append_assoc u (terminal close_at t.RightParen ∷ []) rest) (test_paren (cond_over (neg_at depth)) (factor_of deep) open_at close_at u rest (f.Truth x) (f.Truth x) rest h (reads refl))

mutual
  cond_found : {u : Tokens} {x : CondTree} → IsCond u x → (depth : ℕ) (rest : Tokens) → EndsCond rest → Yields (cond_over (neg_at depth) (u ++ rest)) (f.Truth x) rest
  cond_found (IsCond.any {w = w} {xs = ys} (IsConj.all {u = u} {w = v} {x = x} {xs = xs} h g) k) depth rest ends =
      cond_joins (neg_at depth) u v w rest x xs ys (neg_takes h depth (v ++ (w ++ rest)) (negs_end g (w ++ rest) (conjs_end k rest ends))) (negs_take g depth (w ++ rest) (conjs_end k rest ends)) (conjs_take k depth rest ends)

  conjs_take : {w : Tokens} {xs : List CondTree} → AreConjs w xs → (depth : ℕ) (rest : Tokens) → EndsCond rest → Many (offset_of t.Or) (conj_member (neg_at depth)) (w ++ rest) xs rest
  conjs_take AreConjs.no_conj depth rest ends = many_done (offset_of t.Or) (conj_member (neg_at depth)) ends.no_or
  conjs_take (AreConjs.conjs {u = u} {w = w} {x = x} {xs = xs} at h g) depth rest ends =
      conjs_join (neg_at depth) u w rest x xs at (conj_takes h depth (w ++ rest) (conjs_end g rest ends)) (conjs_take g depth rest ends)

  conj_takes : {u : Tokens} {x : CondTree} → IsConj u x → (depth : ℕ) (rest : Tokens) → EndsConj rest → Yields (conj (neg_at depth) (u ++ rest)) x rest
  conj_takes (IsConj.all {u = u} {w = w} {x = x} {xs = xs} h g) depth rest ends =
      conj_joins (neg_at depth) u w rest x xs (neg_takes h depth (w ++ rest) (negs_end g rest ends)) (negs_take g depth rest ends)

  negs_take : {w : Tokens} {xs : List CondTree} → AreNegs w xs → (depth : ℕ) (rest : Tokens) → EndsConj rest → Many (offset_of t.And) (neg_member (neg_at depth)) (w ++ rest) xs rest
  negs_take AreNegs.no_neg depth rest ends = many_done (offset_of t.And) (neg_member (neg_at depth)) ends.no_and
  negs_take (AreNegs.negs {u = u} {w = w} {x = x} {xs = xs} at h g) depth rest ends =
      negs_join (neg_at depth) u w rest x xs at (neg_takes h depth (w ++ rest) (negs_end g rest ends)) (negs_take g depth rest ends)

  neg_takes : {u : Tokens} {x : CondTree} → IsNeg u x → (depth : ℕ) (rest : Tokens) → EndsExpr rest → Yields (neg_at depth (u ++ rest)) (f.Truth x) rest
  neg_takes (IsNeg.test {u = u} {x = x} h) zero rest ends = neg_deep (u ++ rest) (f.Truth x) rest
  neg_takes (IsNeg.test {u = u} {x = x} h) (suc depth) rest ends = neg_plain depth (u ++ rest) (f.Truth x) rest (test_no_not h rest) (λ deep. test_takes h depth deep rest ends)
  neg_takes (IsNeg.negation {u = u} {x = x} at h) zero rest ends = neg_deep (terminal at t.Not ∷ (u ++ rest)) (f.Truth (c.Not at x)) rest
  neg_takes (IsNeg.negation {u = u} {x = x} at h) (suc depth) rest ends = neg_not depth (u ++ rest) rest x at (neg_takes h depth rest ends)

  test_takes : {u : Tokens} {x : CondTree} → IsTest u x → (depth deep : ℕ) (rest : Tokens) → EndsExpr rest → Yields (test_of depth deep (u ++ rest)) (f.Truth x) rest
  test_takes (IsTest.nested {u = u} {x = x} open_at close_at h) depth deep rest ends =
      nested_test depth deep open_at close_at u rest x (cond_found h depth (terminal close_at t.RightParen ∷ rest) (cond_ends_at_paren close_at rest))
  test_takes (IsTest.predicate h) depth deep rest ends = predicate_takes h depth deep rest ends

pub cond_takes : {u : Tokens} {x : CondTree} → IsCond u x → (depth : ℕ) (rest : Tokens) → EndsCond rest → Yields (r.cond depth (u ++ rest)) x rest
unfolding r.cond
cond_takes {u} {x} h depth rest ends = truth_takes (cond_over (neg_at depth)) (u ++ rest) x rest (cond_found h depth rest ends)
