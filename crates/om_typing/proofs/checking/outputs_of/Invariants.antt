use Rattle.std.proofs.Common.{◌≡◌, ◌+◌, ◌++◌, length}
use Rattle.om_typing.specs.Typing.{outputs_from}
use Rattle.om_typing.proofs.checking.outputs_of.Given as goal

abbrev pub invariant-loop-rest : goal.invariant-loop-rest
invariant-loop-rest l = outputs_from l.scope 1 l.items ≡ l.outputs ++ outputs_from l.scope (length l.outputs + 1) l.rest

abbrev pub decreases-loop-rest : goal.decreases-loop-rest
decreases-loop-rest l = length l.rest
