use Rattle.std.proofs.Common.{length}
use Rattle.om_step.proofs.WritesLemmas.{Doing}
use Rattle.om_step.proofs.stepping.do_writes.Given as goal

abbrev pub invariant-loop-write : goal.invariant-loop-write
invariant-loop-write l = Doing l.fn.memory l.writes l.memory l.rest

abbrev pub decreases-loop-write : goal.decreases-loop-write
decreases-loop-write l = length l.rest
