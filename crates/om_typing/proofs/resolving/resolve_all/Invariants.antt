use Rattle.std.proofs.Common.{◌≡◌, map, take}
use Rattle.om_typing.specs.Typing.{expr_in}
use Rattle.om_typing.proofs.resolving.resolve_all.Given as goal

abbrev pub invariant-loop-tree : goal.invariant-loop-tree
invariant-loop-tree l = l.exprs ≡ map (expr_in l.scope) (take l.tree-index l.trees)
