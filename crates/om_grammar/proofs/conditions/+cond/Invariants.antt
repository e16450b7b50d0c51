use Rattle.std.proofs.Common.{◌≡◌, ◌+◌, ◌*◌, length}
use Rattle.om_token.specs.declared.terminal.Terminal.TheVariants as t
use Rattle.om_grammar.specs.declared.cond_tree.CondTree.TheViews as c
use Rattle.om_grammar.specs.Reading.{offset_of, neg_at, truth, conj, conjunction, disjunction}
use Rattle.om_grammar.proofs.ListLemmas.{Left}
use Rattle.om_grammar.proofs.ConditionShrinks.{truth_shrinks, conj_shrinks}
use Rattle.om_grammar.proofs.conditions.+cond.Given as goal

abbrev pub decreases-one_test : goal.decreases-one_test
decreases-one_test l = l.depth * 8

abbrev pub decreases-neg : goal.decreases-neg
decreases-neg l = l.depth * 8 + 1

abbrev pub decreases-truth : goal.decreases-truth
decreases-truth l = l.depth * 8 + 2

abbrev pub decreases-conjunction : goal.decreases-conjunction
decreases-conjunction l = l.depth * 8 + 3

abbrev pub decreases-conj : goal.decreases-conj
decreases-conj l = l.depth * 8 + 4

abbrev pub decreases-disjunction : goal.decreases-disjunction
decreases-disjunction l = l.depth * 8 + 5

abbrev pub decreases-after_neg : goal.decreases-after_neg
decreases-after_neg l = l.depth * 8 + 6

abbrev pub decreases-both : goal.decreases-both
decreases-both l = l.depth * 8 + 7

abbrev pub invariant-conjunction-ands : goal.invariant-conjunction-ands
invariant-conjunction-ands l =
    conjunction (neg_at l.depth) l.fn.first l.fn.tokens ≡ Left (offset_of t.And) (λ _. truth (neg_at l.depth)) (truth_shrinks l.depth) c.All l.members l.tokens

abbrev pub decreases-conjunction-ands : goal.decreases-conjunction-ands
decreases-conjunction-ands l = length l.tokens

abbrev pub invariant-disjunction-ors : goal.invariant-disjunction-ors
invariant-disjunction-ors l =
    disjunction (neg_at l.depth) l.fn.first l.fn.tokens ≡ Left (offset_of t.Or) (λ _. conj (neg_at l.depth)) (conj_shrinks l.depth) c.Any l.members l.tokens

abbrev pub decreases-disjunction-ors : goal.decreases-disjunction-ors
decreases-disjunction-ors l = length l.tokens
