use Rattle.std.proofs.Common.{◌++◌, List, sym, ap, ◌∙◌}
use Rattle.std.specs.List.{flat_map}
use Rattle.std.proofs.lemmas.List.{take_all}
use Rattle.om_grammar.specs.declared.cond_tree.CondTree.{CondTree}
use Rattle.om_typing.proofs.ConditionsIn.{conjuncts_of, split_all}
use Rattle.om_typing.proofs.resolving.+push_conjuncts.Goals as goal

pub returns-after-loop-member : goal.returns-after-loop-member
returns-after-loop-member t c =
    c.loop-member.invariant
    ∙ ap (λ (l : List CondTree). c.args.conjuncts.now ++ flat_map (conjuncts_of c.args.scope.now) l) (take_all c.loop-member.member-index c.as_slice-member-items.result.now c.loop-member-test.false ∙ c.as_slice-member-items.ensures)
    ∙ ap (λ l. c.args.conjuncts.now ++ l) (sym (ap (conjuncts_of c.args.scope.now) c.in-All.is ∙ split_all c.args.scope.now c.in-All.members))
