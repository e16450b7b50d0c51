use Rattle.std.proofs.Common.{◌≡◌, ◌++◌, None, length}
use Rattle.om_claims.specs.Merging.{joined, left_in, merged}
use Rattle.om_claims.proofs.merging.merge.Given as goal

abbrev pub invariant-loop-piece : goal.invariant-loop-piece
invariant-loop-piece l = l.pieces.items ++ joined l.last (left_in l.claims l.left) ≡ joined None (merged l.claims None None l.fn.first l.fn.second)

abbrev pub decreases-loop-piece : goal.decreases-loop-piece
decreases-loop-piece l = length (left_in l.claims l.left)
