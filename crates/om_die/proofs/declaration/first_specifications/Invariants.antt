use Rattle.std.proofs.Common.{length}
use Rattle.om_die.proofs.TableLaws.{IsSoFar}
use Rattle.om_die.proofs.declaration.first_specifications.Given as goal

abbrev pub invariant-loop-name : goal.invariant-loop-name
invariant-loop-name l = IsSoFar l.bytes l.list l.rest

abbrev pub decreases-loop-name : goal.decreases-loop-name
decreases-loop-name l = length l.rest
