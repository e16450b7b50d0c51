use Rattle.om_command.proofs.RowsLemmas.{more_cells}
use Rattle.om_names.specs.Known.{told_by}
use Rattle.om_view.specs.Row.{row_of}
use Rattle.om_command.proofs.rows.cells.Goals as goal

pub loop-output-preserved : goal.loop-output-preserved
loop-output-preserved c =
    more_cells (row_of (told_by c.args.view.now.debug.now) c.args.view.now.machine.now.state c.args.view.now.step) c.args.outputs.now c.loop-output.output-index c.output-item.result c.loop-output.cells c.push.new.self c.in_ok-cell.field-0
    c.loop-output-test.true c.output-item.is c.loop-output.invariant c.in_ok-cell.ensures c.in_ok-push.ensures.ok
