use Rattle.std.proofs.Common.{sym, ◌∙◌}
use Rattle.om_log.specs.EntryFields.{chunk_field}
use Rattle.om_log.proofs.FieldLaws.{behind_more, behind_none, behind_done}
use Rattle.om_log.proofs.entry_fields.behind_chunks.Goals as goal

pub returns-in_err-after : goal.returns-in_err-after
returns-in_err-after c =
    rw c.from_residual.ensures (sym c.loop-left.invariant ∙ behind_none chunk_field c.loop-left.left c.loop-left.rest.now c.loop-left-test.true c.in_err-after.ensures)

pub loop-left-preserved : goal.loop-left-preserved
loop-left-preserved c =
    behind_more chunk_field c.loop-left.left c.loop-left.rest.now (c.in_ok-after.field-0-0, c.in_ok-after.after.now) c.loop-left-test.true c.in_ok-after.ensures
    ∙ c.loop-left.invariant

pub returns : goal.returns
returns c = sym c.loop-left.invariant ∙ behind_done chunk_field c.loop-left.left c.loop-left.rest.now c.loop-left-test.false
