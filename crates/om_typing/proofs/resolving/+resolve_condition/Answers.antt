use Rattle.std.proofs.Common.{List, map, sym, ap, ◌∙◌}
use Rattle.std.proofs.lemmas.List.{take_all}
use Rattle.om_grammar.specs.declared.cond_tree.CondTree.{CondTree}
use Rattle.om_value.specs.declared.cond.Cond.TheViews as conds
use Rattle.om_typing.specs.Typing.{condition_in}
use Rattle.om_typing.proofs.ConditionsIn.{whole_in, whole_all, whole_any}
use Rattle.om_typing.proofs.resolving.+resolve_condition.Goals as goal

pub returns-after-loop-tree : goal.returns-after-loop-tree
returns-after-loop-tree t c =
    ap conds.All (c.loop-tree.invariant ∙ ap (λ (l : List CondTree). map (whole_in c.args.scope.now) l) (take_all c.loop-tree.tree-index c.as_slice-tree-items.result.now c.loop-tree-test.false ∙ c.as_slice-tree-items.ensures))
    ∙ sym (ap (λ (tree : CondTree). (condition_in c.args.scope.now tree).whole) c.in-All.is ∙ whole_all c.args.scope.now c.in-All.trees)

pub returns-after-loop-tree-2 : goal.returns-after-loop-tree-2
returns-after-loop-tree-2 t c =
    ap conds.Any (c.loop-tree-2.invariant ∙ ap (λ (l : List CondTree). map (whole_in c.args.scope.now) l) (take_all c.loop-tree-2.tree-index c.as_slice-tree-items-in-Any.result.now c.loop-tree-2-test.false ∙ c.as_slice-tree-items-in-Any.ensures))
    ∙ sym (ap (λ (tree : CondTree). (condition_in c.args.scope.now tree).whole) c.in-Any.is ∙ whole_any c.args.scope.now c.in-Any.trees)
