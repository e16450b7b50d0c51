use Rattle.std.proofs.Common.{refl}
use Rattle.std.proofs.lemmas.Result.{err_from_is_err_and}
use Rattle.om_die.specs.UnitList.{piece_of, shown}
use Rattle.om_die.proofs.DieLaws.{some_left}
use Rattle.om_die.proofs.UnitLaws.{goes_on, no_tables, shorter, starts, stops_or}
use Rattle.om_die.proofs.unit_list.read_parts.Goals as goal

pub loop-rest-init : goal.loop-rest-init
loop-rest-init c = record {
  here = rw c.new-parts.ensures (starts (shown c.args.sections.now));
  tables = no_tables c.args.sections.now.abbreviations.now c.new-tables.result c.new-tables.ensures;
}

pub returns-in_err-part-clause-fault : goal.returns-in_err-part-clause-fault
returns-in_err-part-clause-fault c =
    let p = err_from_is_err_and c.from_residual.result c.from_residual.ensures.1 in
    let some = some_left c.loop-rest.rest.now c.is_empty.result c.is_empty.ensures c.loop-rest-test.true in
    rw (p.1, p.2) (stops_or (shown c.args.sections.now) c.loop-rest.parts c.loop-rest.rest.now _ c.in_err-part.field-0.0 c.loop-rest.invariant.here refl some c.in_err-part.ensures.fault)

pub loop-rest-smaller : goal.loop-rest-smaller
loop-rest-smaller c = shorter (shown c.args.sections.now) _ _ c.loop-rest.rest.now (piece_of c.in_ok-part.part) c.in_ok-part.tail.now c.in_ok-part.ensures.part

pub loop-rest-preserved : goal.loop-rest-preserved
loop-rest-preserved c = record {
  here = rw c.in_ok-add.ensures (goes_on (shown c.args.sections.now) c.loop-rest.parts c.loop-rest.rest.now _ (piece_of c.in_ok-part.part) c.in_ok-part.tail.now c.loop-rest.invariant.here refl c.in_ok-part.ensures.part);
  tables = c.in_ok-part.ensures.tables;
}
