use Rattle.std.proofs.Common.{◌≡◌, length}
use Rattle.om_line.specs.Sharing.{rise_from}
use Rattle.om_line.proofs.sharing.is_rising.Given as goal

abbrev pub invariant-loop-rest : goal.invariant-loop-rest
invariant-loop-rest l = rise_from 0 l.rows ≡ rise_from l.low l.rest

abbrev pub decreases-loop-rest : goal.decreases-loop-rest
decreases-loop-rest l = length l.rest
