use Rattle.std.proofs.Common.{None, Some, ap, ◌∙◌}
use Rattle.std.specs.List.{slice_get}
use Rattle.om_line.specs.Claims.{claims_of}
use Rattle.om_line.proofs.RowLemmas.{lent, row_by_place}
use Rattle.om_line.proofs.table.LineTable.at.Goals as goal

pub returns-in_err-place : goal.returns-in_err-place
returns-in_err-place c =
    rw (← c.self.view_is)
    (row_by_place c.self.inside.lines.rows c.args.pc c.from.result None c.from_residual.result c.from.ensures (c.in_err-place.ensures (claims_of c.self.inside.lines.rows) c.self.invariant) c.from_residual.ensures)

pub returns : goal.returns
returns c =
    rw (← c.self.view_is)
    (row_by_place c.self.inside.lines.rows c.args.pc c.from.result (Some c.in_ok-place.place) c.copied.result c.from.ensures (c.in_ok-place.ensures (claims_of c.self.inside.lines.rows) c.self.invariant)
    (c.copied.ensures ∙ lent _ c.in_ok-place.place c.get.result c.get.ensures.lookup ∙ ap (λ rows. slice_get rows c.in_ok-place.place) c.as_slice.ensures))
