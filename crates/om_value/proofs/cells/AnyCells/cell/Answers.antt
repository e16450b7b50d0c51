use Rattle.std.proofs.Common.{sym, ◌∙◌}
use Rattle.om_value.specs.Meaning.{near}
use Rattle.om_value.proofs.Values.{value-Column}
use Rattle.om_value.proofs.cells.AnyCells.cell.Goals as goal

pub returns : goal.returns
returns g c = c.cell_at.ensures ∙ sym (value-Column near _ _)
