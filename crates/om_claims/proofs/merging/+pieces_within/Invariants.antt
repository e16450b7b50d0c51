use Rattle.std.proofs.Common.{◌-◌}
use Rattle.om_claims.proofs.merging.+pieces_within.Given as goal

abbrev pub decreases-pieces_within : goal.decreases-pieces_within
decreases-pieces_within l = l.high - l.low
