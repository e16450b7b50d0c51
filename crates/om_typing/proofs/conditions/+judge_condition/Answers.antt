use Rattle.std.proofs.Common.{List, sym, ap, ◌∙◌}
use Rattle.std.specs.List.{flat_map}
use Rattle.std.proofs.lemmas.List.{take_all}
use Rattle.om_grammar.specs.declared.cond_tree.CondTree.{CondTree}
use Rattle.om_typing.specs.Conditions.{condition_mistakes}
use Rattle.om_typing.specs.Mistakes.{noted_all}
use Rattle.om_typing.proofs.ConditionsIn.{mistakes_all, mistakes_any}
use Rattle.om_typing.proofs.conditions.+judge_condition.Goals as goal

pub returns-after-loop-member : goal.returns-after-loop-member
returns-after-loop-member t c =
    c.loop-member.invariant
    ∙ ap (λ (l : List CondTree). noted_all c.args.foremost.now (flat_map (condition_mistakes c.args.scope.now) l)) (take_all c.loop-member.member-index c.as_slice-member-items.result.now c.loop-member-test.false ∙ c.as_slice-member-items.ensures)
    ∙ ap (noted_all c.args.foremost.now) (sym (ap (condition_mistakes c.args.scope.now) c.in-All.is ∙ mistakes_all c.args.scope.now c.in-All.members))

pub returns-after-loop-member-2 : goal.returns-after-loop-member-2
returns-after-loop-member-2 t c =
    c.loop-member-2.invariant
    ∙ ap (λ (l : List CondTree). noted_all c.args.foremost.now (flat_map (condition_mistakes c.args.scope.now) l)) (take_all c.loop-member-2.member-index c.as_slice-member-items-in-Any.result.now c.loop-member-2-test.false ∙ c.as_slice-member-items-in-Any.ensures)
    ∙ ap (noted_all c.args.foremost.now) (sym (ap (condition_mistakes c.args.scope.now) c.in-Any.is ∙ mistakes_any c.args.scope.now c.in-Any.members))
