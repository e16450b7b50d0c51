use Rattle.std.proofs.Common.{◌≡◌, ◌∙◌, refl, sym, subst, ap, ℕ, zero, suc, ◌-◌, List, None, Ok, Err, rules, arith}
use Rattle.om_grammar.specs.declared.expr_tree.ExprTree.{ExprTree}
use Rattle.om_grammar.specs.declared.expr_tree.Addend.{Addend}
use Rattle.om_grammar.specs.declared.expr_tree.Factor.{Factor}
use Rattle.om_grammar.specs.declared.expr_tree.Scale.{Scale}
use Rattle.om_grammar.specs.declared.expr_tree.Sign.{Sign}
use Rattle.om_grammar.specs.declared.expr_tree.ExprTree.TheViews as e
use Rattle.om_grammar.specs.declared.aggregates.Aggregates.{Aggregates}
use Rattle.om_grammar.specs.Grammar.{Tokens, addend, factor}
use Rattle.om_grammar.specs.Parsers.{Step, Reads, ◌>>=◌, pure, found, behind, branched}
use Rattle.om_grammar.specs.Reading.{scale_of, sign_of, factor_at, term, primary, expr}
use Rattle.om_grammar.proofs.ListLemmas.{Left, left_more, left_err, left_done, member_shorter}
use Rattle.om_grammar.proofs.Members.{made_ok, made_err}
use Rattle.om_grammar.proofs.Shrinks.{scaled_factor, scaled_shrinks, added_term, added_shrinks}
use Rattle.om_grammar.proofs.expressions.+parser.Goals as goal

-- ---- factors of a product

pub more_factors-returns-in_err-factor : goal.more_factors-returns-in_err-factor
more_factors-returns-in_err-factor t c =
    let depth = c.args.depth in
    let g = c.args.aggregates in
    let s : ℕ × Scale = (c.in-Some.at, c.in-Some.scale) in
    let why = c.in_err-factor.field-0.0 in
    let rest = c.factor.new.tokens in
    let read = subst (λ (l : Tokens). Reads (factor_at depth g l) (Err why) rest) c.in-Some.ensures.after c.in_err-factor.ensures in
    let made = made_err (factor_at depth g) (λ x. factor s.0 s.1 x) _ why rest read in
    let left = left_err scale_of (scaled_factor depth g) (scaled_shrinks depth g) (λ factors. factors) c.factors.factors c.factors.tokens s why rest (sym c.in-Some.ensures.seen) made in
    let all = subst (λ (s : Step (List Factor)). Reads s (Err why) rest) (sym c.factors.invariant) left in
    search rules

pub more_factors-factors-smaller : goal.more_factors-factors-smaller
more_factors-factors-smaller t c =
    let depth = c.args.depth in
    let g = c.args.aggregates in
    let s : ℕ × Scale = (c.in-Some.at, c.in-Some.scale) in
    let x = c.in_ok-factor.factor in
    let read = ap (factor_at depth g) (sym c.in-Some.ensures.after) ∙ c.in_ok-factor.ensures in
    let made = made_ok (factor_at depth g) (λ x. factor s.0 s.1 x) _ x c.factor.new.tokens read in
    member_shorter scale_of (scaled_factor depth g) (scaled_shrinks depth g) c.factors.tokens s (Ok (factor s.0 s.1 x)) c.factor.new.tokens (sym c.in-Some.ensures.seen) made

pub more_factors-factors-preserved : goal.more_factors-factors-preserved
more_factors-factors-preserved t c =
    let depth = c.args.depth in
    let g = c.args.aggregates in
    let s : ℕ × Scale = (c.in-Some.at, c.in-Some.scale) in
    let x = c.in_ok-factor.factor in
    let read = ap (factor_at depth g) (sym c.in-Some.ensures.after) ∙ c.in_ok-factor.ensures in
    let made = made_ok (factor_at depth g) (λ x. factor s.0 s.1 x) _ x c.factor.new.tokens read in
    let more = left_more scale_of (scaled_factor depth g) (scaled_shrinks depth g) (λ factors. factors) c.factors.factors c.factors.tokens s (factor s.0 s.1 x) c.factor.new.tokens (sym c.in-Some.ensures.seen) made in
    c.factors.invariant ∙ more ∙ ap (λ l. Left scale_of (scaled_factor depth g) (scaled_shrinks depth g) (λ factors. factors) l c.factor.new.tokens) (sym c.in_ok-push.ensures.ok)

pub more_factors-returns : goal.more_factors-returns
more_factors-returns t c =
    let depth = c.args.depth in
    let g = c.args.aggregates in
    let none = sym c.scale.ensures.seen ∙ c.in_default.is in
    let next = c.scale.ensures.after ∙ ap (λ seen. behind seen c.factors.tokens) c.in_default.is in
    c.factors.invariant ∙ left_done scale_of (scaled_factor depth g) (scaled_shrinks depth g) (λ factors. factors) c.factors.factors c.factors.tokens none
    ∙ ap (λ (l : Tokens). (Ok c.factors.factors, l)) (sym next)

-- ---- terms of a sum

pub more_addends-returns-in_err-term : goal.more_addends-returns-in_err-term
more_addends-returns-in_err-term t c =
    let one = term (factor_at c.args.depth c.args.aggregates) in
    let s : ℕ × Sign = (c.in-Some.at, c.in-Some.sign) in
    let why = c.in_err-term.field-0.0 in
    let rest = c.term.new.tokens in
    let member = added_term c.args.depth c.args.aggregates in
    let shrinks = added_shrinks c.args.depth c.args.aggregates in
    let read = subst (λ (l : Tokens). Reads (one l) (Err why) rest) c.in-Some.ensures.after c.in_err-term.ensures in
    let made = made_err one (λ x. addend s.0 s.1 x) _ why rest read in
    let left = left_err sign_of member shrinks (λ addends. addends) c.addends.addends c.addends.tokens s why rest (sym c.in-Some.ensures.seen) made in
    let all = subst (λ (s : Step (List Addend)). Reads s (Err why) rest) (sym c.addends.invariant) left in
    search rules

pub more_addends-addends-smaller : goal.more_addends-addends-smaller
more_addends-addends-smaller t c =
    let one = term (factor_at c.args.depth c.args.aggregates) in
    let s : ℕ × Sign = (c.in-Some.at, c.in-Some.sign) in
    let x = c.in_ok-term.term in
    let member = added_term c.args.depth c.args.aggregates in
    let shrinks = added_shrinks c.args.depth c.args.aggregates in
    let read = ap one (sym c.in-Some.ensures.after) ∙ c.in_ok-term.ensures in
    let made = made_ok one (λ x. addend s.0 s.1 x) _ x c.term.new.tokens read in
    member_shorter sign_of member shrinks c.addends.tokens s (Ok (addend s.0 s.1 x)) c.term.new.tokens (sym c.in-Some.ensures.seen) made

pub more_addends-addends-preserved : goal.more_addends-addends-preserved
more_addends-addends-preserved t c =
    let one = term (factor_at c.args.depth c.args.aggregates) in
    let s : ℕ × Sign = (c.in-Some.at, c.in-Some.sign) in
    let x = c.in_ok-term.term in
    let member = added_term c.args.depth c.args.aggregates in
    let shrinks = added_shrinks c.args.depth c.args.aggregates in
    let read = ap one (sym c.in-Some.ensures.after) ∙ c.in_ok-term.ensures in
    let made = made_ok one (λ x. addend s.0 s.1 x) _ x c.term.new.tokens read in
    let more = left_more sign_of member shrinks (λ addends. addends) c.addends.addends c.addends.tokens s (addend s.0 s.1 x) c.term.new.tokens (sym c.in-Some.ensures.seen) made in
    c.addends.invariant ∙ more ∙ ap (λ l. Left sign_of member shrinks (λ addends. addends) l c.term.new.tokens) (sym c.in_ok-push.ensures.ok)

pub more_addends-returns : goal.more_addends-returns
more_addends-returns t c =
    let member = added_term c.args.depth c.args.aggregates in
    let shrinks = added_shrinks c.args.depth c.args.aggregates in
    let none = sym c.sign.ensures.seen ∙ c.in_default.is in
    let next = c.sign.ensures.after ∙ ap (λ seen. behind seen c.addends.tokens) c.in_default.is in
    c.addends.invariant ∙ left_done sign_of member shrinks (λ addends. addends) c.addends.addends c.addends.tokens none
    ∙ ap (λ (l : Tokens). (Ok c.addends.addends, l)) (sym next)

-- ---- a factor

without_sign : (depth : ℕ) (g : Aggregates) (tokens : Tokens) → (depth ≡ 0 → ⊥) → found sign_of tokens ≡ None → factor_at depth g tokens ≡ primary (expr (depth - 1)) g tokens
unfolding factor_at expr
without_sign zero g tokens n h = absurd (n refl)
without_sign (suc depth) g tokens n h =
    let less : suc depth - 1 ≡ depth = omega arith in
    ap (λ seen. branched seen (λ s. factor_at depth g >>= λ x. pure (e.Sign s.0 s.1 x)) (primary (expr depth) g) tokens) h
    ∙ ap (λ n. primary (expr n) g tokens) (sym less)

pub factor-returns-in_default : goal.factor-returns-in_default
factor-returns-in_default t c =
    let none = sym c.sign.ensures.seen ∙ c.in_default.is in
    let next = c.sign.ensures.after ∙ ap (λ seen. behind seen c.args.tokens.now) c.in_default.is in
    let read = subst (λ (l : Tokens). Reads (primary (expr (c.args.depth - 1)) c.args.aggregates l) c.primary.result c.primary.new.tokens) next c.primary.ensures in
    subst (λ (s : Step ExprTree). Reads s c.primary.result c.primary.new.tokens) (sym (without_sign c.args.depth c.args.aggregates c.args.tokens.now c.if-depth-eq0.false none)) read
