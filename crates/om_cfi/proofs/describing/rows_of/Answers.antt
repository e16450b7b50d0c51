use Rattle.std.proofs.Common.{refl, ◌∙◌}
use Rattle.std.proofs.lemmas.Result.{err_from_is_err_and}
use Rattle.om_cfi.specs.declared.fault.CfiFault.TheVariants as fault
use Rattle.om_cfi.specs.Frames.{fault_by, frame_by}
use Rattle.om_cfi.specs.Kept.{find_in}
use Rattle.om_cfi.specs.Rows.{no_rows}
use Rattle.om_cfi.proofs.DescribingLemmas.{no_description, rows_more}
use Rattle.om_cfi.proofs.SweepLemmas.{found_or, none_more}
use Rattle.om_cfi.proofs.describing.rows_of.Goals as goal

pub returns-in_err-add_entry-clause-fault : goal.returns-in_err-add_entry-clause-fault
returns-in_err-add_entry-clause-fault c =
    let p = err_from_is_err_and c.from_residual.result c.from_residual.ensures.1 in
    rw (p.1, p.2) (found_or (fault_by (find_in c.args.commons.now)) fault.NoMemory c.args.entries.now c.loop-entry.entry-index c.entry-item.result c.entry-item.result c.in_err-add_entry.field-0.0 c.loop-entry-test.true c.entry-item.is
    c.loop-entry.invariant.none c.in_err-add_entry.ensures.fault)

pub loop-entry-init : goal.loop-entry-init
loop-entry-init c = record { rows = c.new-rows.ensures ∙ no_description no_rows; none = refl }

pub loop-entry-preserved : goal.loop-entry-preserved
loop-entry-preserved c = record {
  rows = rows_more (frame_by (find_in c.args.commons.now)) no_rows c.args.entries.now c.loop-entry.entry-index c.entry-item.result c.entry-item.result c.loop-entry.rows c.add_entry.new.rows c.loop-entry-test.true c.entry-item.is
      c.loop-entry.invariant.rows c.in_ok-add_entry.ensures.rows;
  none = none_more (fault_by (find_in c.args.commons.now)) c.args.entries.now c.loop-entry.entry-index c.entry-item.result c.entry-item.result c.loop-entry-test.true c.entry-item.is c.loop-entry.invariant.none c.in_ok-add_entry.ensures.lawful;
}
