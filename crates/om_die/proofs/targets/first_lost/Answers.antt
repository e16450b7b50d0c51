use Rattle.std.proofs.Common.{arith}
use Rattle.std.specs.BTreeSet.{contains}
use Rattle.std.specs.Ordering.{nat_cmp}
use Rattle.om_die.specs.References.{has_lost_by}
use Rattle.om_die.proofs.ReferenceLaws.{found_here, found_nowhere, passed_over}
use Rattle.om_die.proofs.targets.first_lost.Goals as goal

pub returns-in-Some : goal.returns-in-Some
returns-in-Some c =
    let found = rw c.as_slice.ensures at c.in-Some.ensures in
    found_here (contains nat_cmp c.in_ok-offsets.offsets) c.args.units.now c.loop-unit.unit-index c.unit-item.result c.in-Some.at c.in_ok-offsets.ensures (omega arith) c.unit-item.is found c.loop-unit.invariant

pub loop-unit-preserved : goal.loop-unit-preserved
loop-unit-preserved c =
    let none = rw c.as_slice.ensures at c.in_default.ensures in
    passed_over (has_lost_by (contains nat_cmp c.in_ok-offsets.offsets)) c.args.units.now c.loop-unit.unit-index c.unit-item.result (omega arith) c.unit-item.is none c.loop-unit.invariant

pub returns : goal.returns
returns c = found_nowhere (contains nat_cmp c.in_ok-offsets.offsets) c.args.units.now c.loop-unit.unit-index c.in_ok-offsets.ensures (omega arith) c.loop-unit.invariant
