use Rattle.std.proofs.Common.{arith, inr, sym, ◌∙◌}
use Rattle.om_die.specs.UnitList.{shown}
use Rattle.om_die.proofs.ReferenceLaws.{are_units, parts_few, parts_rise, target_refused}
use Rattle.om_die.proofs.unit_reader.read.Goals as goal

pub settle-requires-clause-rising : goal.settle-requires-clause-rising
settle-requires-clause-rising c = parts_rise (shown c.args.sections.now) c.in_ok-parts.parts c.in_ok-parts.ensures.parts

pub settle-requires-clause-few : goal.settle-requires-clause-few
settle-requires-clause-few c = omega (arith, c.requires, parts_few (shown c.args.sections.now) c.in_ok-parts.parts c.in_ok-parts.ensures.parts)

pub returns-in-Some-clause-fault : goal.returns-in-Some-clause-fault
returns-in-Some-clause-fault c =
    let lost = rw c.as_slice.ensures at (sym c.in-Some.is ∙ c.in_ok-at.ensures) in
    inr (inr (target_refused (shown c.args.sections.now) c.in_ok-parts.parts c.in_ok-units.units.list c.in-Some.at c.in_ok-parts.ensures.parts c.in_ok-units.ensures.list lost))

pub returns-clause-units : goal.returns-clause-units
returns-clause-units c =
    let lost = rw c.as_slice.ensures at (sym c.in-None.is ∙ c.in_ok-at.ensures) in
    are_units (shown c.args.sections.now) c.in_ok-parts.parts c.in_ok-units.units c.in_ok-parts.ensures.parts c.in_ok-units.ensures.list c.in_ok-units.ensures.skipped lost
