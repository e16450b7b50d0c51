use Rattle.std.proofs.Common.{length}
use Rattle.om_line.proofs.SharingLemmas.{SoFar}
use Rattle.om_line.proofs.tables.gather.Given as goal

abbrev pub invariant-loop-at : goal.invariant-loop-at
invariant-loop-at l = SoFar l.section l.offsets l.rest l.gathered l.shared

abbrev pub decreases-loop-at : goal.decreases-loop-at
decreases-loop-at l = length l.rest
