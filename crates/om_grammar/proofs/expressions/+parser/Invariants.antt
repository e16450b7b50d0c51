use Rattle.std.proofs.Common.{◌≡◌, ◌+◌, ◌*◌, length}
use Rattle.om_grammar.specs.Reading.{scale_of, sign_of, factor_at, more_factors, more_addends}
use Rattle.om_grammar.proofs.Shrinks.{scaled_factor, scaled_shrinks, added_term, added_shrinks}
use Rattle.om_grammar.proofs.ListLemmas.{Left}
use Rattle.om_grammar.proofs.expressions.+parser.Given as goal

-- a factor calls what has one level less, and each of the others calls one of the same depth and a lower rank
abbrev pub decreases-factor : goal.decreases-factor
decreases-factor l = l.depth * 16

abbrev pub decreases-more_factors : goal.decreases-more_factors
decreases-more_factors l = l.depth * 16 + 1

abbrev pub decreases-product : goal.decreases-product
decreases-product l = l.depth * 16 + 2

abbrev pub decreases-term : goal.decreases-term
decreases-term l = l.depth * 16 + 3

abbrev pub decreases-more_addends : goal.decreases-more_addends
decreases-more_addends l = l.depth * 16 + 4

abbrev pub decreases-sum : goal.decreases-sum
decreases-sum l = l.depth * 16 + 5

abbrev pub decreases-expr : goal.decreases-expr
decreases-expr l = l.depth * 16 + 6

abbrev pub decreases-nested : goal.decreases-nested
decreases-nested l = l.depth * 16 + 7

abbrev pub decreases-primary : goal.decreases-primary
decreases-primary l = l.depth * 16 + 8

abbrev pub invariant-more_factors-factors : goal.invariant-more_factors-factors
invariant-more_factors-factors l =
    more_factors (factor_at l.depth l.aggregates) l.fn.tokens ≡ Left scale_of (scaled_factor l.depth l.aggregates) (scaled_shrinks l.depth l.aggregates) (λ factors. factors) l.factors l.tokens

abbrev pub decreases-more_factors-factors : goal.decreases-more_factors-factors
decreases-more_factors-factors l = length l.tokens

abbrev pub invariant-more_addends-addends : goal.invariant-more_addends-addends
invariant-more_addends-addends l =
    more_addends (factor_at l.depth l.aggregates) l.fn.tokens ≡ Left sign_of (added_term l.depth l.aggregates) (added_shrinks l.depth l.aggregates) (λ addends. addends) l.addends l.tokens

abbrev pub decreases-more_addends-addends : goal.decreases-more_addends-addends
decreases-more_addends-addends l = length l.tokens
