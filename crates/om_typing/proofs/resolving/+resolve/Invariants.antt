use Rattle.std.proofs.Common.{◌≡◌, map, take}
use Rattle.om_typing.proofs.Resolutions.{addend_in, factor_in}
use Rattle.om_typing.proofs.resolving.+resolve.Given as goal

abbrev pub invariant-loop-addend : goal.invariant-loop-addend
invariant-loop-addend l = l.addends ≡ map (addend_in l.scope) (take l.addend-index l.addend-items)

abbrev pub invariant-loop-factor : goal.invariant-loop-factor
invariant-loop-factor l = l.factors ≡ map (factor_in l.scope) (take l.factor-index l.factor-items)
