use Rattle.std.proofs.Common.{◌≡◌, map}
use Rattle.om_die.specs.References.{is_skipped, settled_attribute}
use Rattle.om_die.proofs.settling.settle_attributes.Given as goal

abbrev pub invariant-loop-attr : goal.invariant-loop-attr
invariant-loop-attr l = l.settled ≡ map (settled_attribute (is_skipped l.skipped)) l.yielded
