use Rattle.std.proofs.Common.{rules, ◌≡◌, List, map, sym, ap, ◌∙◌}
use Rattle.std.proofs.lemmas.List.{take_all}
use Rattle.om_grammar.specs.declared.expr_tree.Addend.{Addend}
use Rattle.om_grammar.specs.declared.expr_tree.Factor.{Factor}
use Rattle.om_value.specs.declared.expr.Expr.{Expr}
use Rattle.om_value.specs.declared.expr.Expr.TheViews as view
use Rattle.om_typing.specs.Typing.{expr_in}
use Rattle.om_typing.proofs.Resolutions.{addend_in, factor_in, resolved_sum, resolved_product}
use Rattle.om_typing.proofs.resolving.+resolve.Goals as goal

pub returns-after-loop-addend : goal.returns-after-loop-addend
returns-after-loop-addend t c =
    let first_is : c.in_ok-first-in-Sum.first ≡ expr_in c.args.scope.now c.in-Sum.first = search rules in
    ap (λ (e : Expr). view.Sum e c.loop-addend.addends) first_is
    ∙ ap (view.Sum (expr_in c.args.scope.now c.in-Sum.first)) (c.loop-addend.invariant ∙ ap (λ (l : List Addend). map (addend_in c.args.scope.now) l) (take_all c.loop-addend.addend-index c.as_slice-addend-items.result.now c.loop-addend-test.false ∙ c.as_slice-addend-items.ensures))
    ∙ sym (ap (expr_in c.args.scope.now) c.in-Sum.is ∙ resolved_sum c.args.scope.now c.in-Sum.first c.in-Sum.rest)

pub returns-after-loop-factor : goal.returns-after-loop-factor
returns-after-loop-factor t c =
    let first_is : c.in_ok-first-in-Product.first ≡ expr_in c.args.scope.now c.in-Product.first = search rules in
    ap (λ (e : Expr). view.Product e c.loop-factor.factors) first_is
    ∙ ap (view.Product (expr_in c.args.scope.now c.in-Product.first)) (c.loop-factor.invariant ∙ ap (λ (l : List Factor). map (factor_in c.args.scope.now) l) (take_all c.loop-factor.factor-index c.as_slice-factor-items.result.now c.loop-factor-test.false ∙ c.as_slice-factor-items.ensures))
    ∙ sym (ap (expr_in c.args.scope.now) c.in-Product.is ∙ resolved_product c.args.scope.now c.in-Product.first c.in-Product.rest)
