use Rattle.std.proofs.lemmas.Result.{err_from_is_err_and}
use Rattle.om_cfi.specs.declared.fault.CfiFault.TheVariants as fault
use Rattle.om_cfi.specs.Frames.{common_fault}
use Rattle.om_cfi.proofs.SweepLemmas.{commons_more, found_or, none_more}
use Rattle.om_cfi.proofs.commons.read_commons.Goals as goal

pub returns-in_err-take_in-clause-fault : goal.returns-in_err-take_in-clause-fault
returns-in_err-take_in-clause-fault c =
    let p = err_from_is_err_and c.from_residual.result c.from_residual.ensures.1 in
    rw (p.1, p.2) (found_or common_fault fault.NoMemory c.args.entries.now c.loop-entry.entry-index c.entry-item.result c.entry-item.result c.in_err-take_in.field-0.0 c.loop-entry-test.true c.entry-item.is c.loop-entry.invariant.none
    c.in_err-take_in.ensures.fault)

pub loop-entry-preserved : goal.loop-entry-preserved
loop-entry-preserved c = record {
  are = commons_more c.args.entries.now c.loop-entry.entry-index c.entry-item.result c.entry-item.result c.loop-entry.commons c.take_in.new.self c.loop-entry-test.true c.entry-item.is c.loop-entry.invariant.are c.in_ok-take_in.ensures.kept;
  none = none_more common_fault c.args.entries.now c.loop-entry.entry-index c.entry-item.result c.entry-item.result c.loop-entry-test.true c.entry-item.is c.loop-entry.invariant.none c.in_ok-take_in.ensures.none;
}
