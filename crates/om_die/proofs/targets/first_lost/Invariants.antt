use Rattle.std.proofs.Common.{◌≡◌, drop, find}
use Rattle.std.specs.BTreeSet.{contains}
use Rattle.std.specs.Ordering.{nat_cmp}
use Rattle.om_die.specs.References.{has_lost_by}
use Rattle.om_die.specs.Units.{dies_of_units}
use Rattle.om_die.proofs.targets.first_lost.Given as goal

abbrev pub invariant-loop-unit : goal.invariant-loop-unit
invariant-loop-unit l = find (has_lost_by (contains nat_cmp l.offsets)) (dies_of_units (drop l.unit-index l.units)) ≡ find (has_lost_by (contains nat_cmp l.offsets)) (dies_of_units l.units)
