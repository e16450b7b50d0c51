use Rattle.std.proofs.Common.{◌≡◌, take}
use Rattle.om_value.proofs.cond.copy_all.Given as goal

abbrev pub invariant-loop-expr : goal.invariant-loop-expr
invariant-loop-expr l = l.copies ≡ take l.expr-index l.exprs
