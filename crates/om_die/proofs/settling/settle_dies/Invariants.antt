use Rattle.std.proofs.Common.{◌≡◌, map}
use Rattle.om_die.specs.References.{is_skipped}
use Rattle.om_die.specs.Units.{settled_die}
use Rattle.om_die.proofs.settling.settle_dies.Given as goal

abbrev pub invariant-loop-die : goal.invariant-loop-die
invariant-loop-die l = l.settled ≡ map (settled_die (is_skipped l.skipped)) l.yielded
