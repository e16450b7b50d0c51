use Rattle.std.proofs.Common.{length}
use Rattle.om_log.proofs.BodyLaws.{IsAt}
use Rattle.om_log.proofs.body.entries_of.Given as goal

abbrev pub invariant-loop-ended : goal.invariant-loop-ended
invariant-loop-ended l = IsAt l.body l.entries l.rest l.least l.ended

abbrev pub decreases-loop-ended : goal.decreases-loop-ended
decreases-loop-ended l = length l.rest
