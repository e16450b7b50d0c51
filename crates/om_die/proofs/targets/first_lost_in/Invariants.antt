use Rattle.std.proofs.Common.{◌≡◌, drop, find}
use Rattle.std.specs.BTreeSet.{contains}
use Rattle.std.specs.Ordering.{nat_cmp}
use Rattle.om_die.specs.References.{has_lost_by}
use Rattle.om_die.proofs.targets.first_lost_in.Given as goal

abbrev pub invariant-loop-die : goal.invariant-loop-die
invariant-loop-die l = find (has_lost_by (contains nat_cmp l.offsets)) (drop l.die-index l.dies) ≡ find (has_lost_by (contains nat_cmp l.offsets)) l.dies
