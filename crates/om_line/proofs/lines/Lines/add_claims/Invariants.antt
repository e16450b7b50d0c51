use Rattle.std.proofs.Common.{◌≡◌, ◌++◌, length}
use Rattle.om_line.specs.Claims.{claims_of}
use Rattle.om_line.proofs.lines.Lines.add_claims.Given as goal

abbrev pub invariant-loop-row : goal.invariant-loop-row
invariant-loop-row l = l.initial.claims ++ claims_of l.self.rows ≡ l.claims ++ claims_of l.rest

abbrev pub decreases-loop-row : goal.decreases-loop-row
decreases-loop-row l = length l.rest
