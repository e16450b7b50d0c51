use Rattle.std.proofs.Common.{◌≡◌, map}
use Rattle.om_die.specs.References.{is_skipped}
use Rattle.om_die.specs.Units.{settled_unit}
use Rattle.om_die.proofs.settling.settle_units.Given as goal

abbrev pub invariant-loop-unit : goal.invariant-loop-unit
invariant-loop-unit l = l.settled ≡ map (settled_unit (is_skipped l.skipped)) l.yielded
