use Rattle.std.proofs.Common.{rules, sym, ◌∙◌}
use Rattle.om_value.specs.Row.{IsColumn}
use Rattle.om_value.proofs.Values.{cell_of, no_cell}
use Rattle.om_value.proofs.arithmetic.cell_at.Goals as goal

pub returns-then-is_column : goal.returns-then-is_column
returns-then-is_column g c =
    let is : IsColumn c.args.column = search (rules, c.is_column.ensures) in
    c.cell.ensures ∙ sym (cell_of (g.V.RowView.answers c.args.view.now) c.args.column is)

pub returns-else-is_column : goal.returns-else-is_column
returns-else-is_column g c =
    let not : IsColumn c.args.column → ⊥ = search (rules, c.is_column.ensures) in
    sym (no_cell (g.V.RowView.answers c.args.view.now) c.args.column not)
