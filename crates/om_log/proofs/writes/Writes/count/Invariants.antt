use Rattle.std.proofs.Common.{◌≡◌, ◌+◌, length}
use Rattle.om_log.proofs.writes.Writes.count.Given as goal

abbrev pub invariant-loop-others : goal.invariant-loop-others
invariant-loop-others l = l.count + length l.rest ≡ length l.self

abbrev pub decreases-loop-others : goal.decreases-loop-others
decreases-loop-others l = length l.rest
