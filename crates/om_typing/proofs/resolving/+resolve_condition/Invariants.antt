use Rattle.std.proofs.Common.{◌≡◌, map, take}
use Rattle.om_typing.proofs.ConditionsIn.{whole_in}
use Rattle.om_typing.proofs.resolving.+resolve_condition.Given as goal

abbrev pub invariant-loop-tree : goal.invariant-loop-tree
invariant-loop-tree l = l.members ≡ map (whole_in l.scope) (take l.tree-index l.tree-items)

abbrev pub invariant-loop-tree-2 : goal.invariant-loop-tree-2
invariant-loop-tree-2 l = l.members ≡ map (whole_in l.scope) (take l.tree-index l.tree-items)
