use Rattle.std.proofs.Common.{◌≡◌, take}
use Rattle.om_command.specs.Answer.{cells_of}
use Rattle.om_names.specs.Known.{told_by}
use Rattle.om_view.specs.Row.{row_of}
use Rattle.om_command.proofs.rows.cells.Given as goal

-- the cells of the outputs so far
abbrev pub invariant-loop-output : goal.invariant-loop-output
invariant-loop-output l = l.cells ≡ cells_of (take l.output-index l.outputs) (row_of (told_by l.view.debug.now) l.view.machine.now.state l.view.step)
