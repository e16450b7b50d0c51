use Rattle.std.proofs.Common.{◌≡◌}
use Rattle.om_mem.specs.Laid.{refusing}
use Rattle.om_mem.proofs.reading.first_without.Given as goal

abbrev pub invariant-loop-left : goal.invariant-loop-left
invariant-loop-left l = refusing l.regions l.at l.left l.rights ≡ refusing l.regions l.address l.count l.rights

abbrev pub decreases-loop-left : goal.decreases-loop-left
decreases-loop-left l = l.left
