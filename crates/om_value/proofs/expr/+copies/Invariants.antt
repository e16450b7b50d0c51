use Rattle.std.proofs.Common.{◌≡◌, take}
use Rattle.om_value.proofs.expr.+copies.Given as goal

abbrev pub invariant-copy_addends-loop-addend : goal.invariant-copy_addends-loop-addend
invariant-copy_addends-loop-addend l = l.copies ≡ take l.addend-index l.addends

abbrev pub invariant-copy_factors-loop-factor : goal.invariant-copy_factors-loop-factor
invariant-copy_factors-loop-factor l = l.copies ≡ take l.factor-index l.factors
