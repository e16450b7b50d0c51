use Rattle.std.proofs.Common.{◌≡◌, take}
use Rattle.om_eval.proofs.cond.Cond.+copy.Given as goal

abbrev pub invariant-loop-cond : goal.invariant-loop-cond
invariant-loop-cond l = l.copies ≡ take l.cond-index l.cond-items
