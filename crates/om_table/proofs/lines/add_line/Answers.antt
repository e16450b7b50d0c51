use Rattle.std.proofs.Common.{◌≡◌, ◌∙◌, ap, [], length, map, sym, arith}
use Rattle.std.proofs.lemmas.List.{length-map, get_or-map}
use Rattle.om_table.proofs.LineLemmas.{cell_more, line_end}
use Rattle.om_table.proofs.lines.add_line.Goals as goal

pub loop-column-preserved : goal.loop-column-preserved
loop-column-preserved g c =
    let shown = g.P.Printed.shown in
    let cells = c.args.cells.now in
    let long : length (map shown cells) ≡ length cells = length-map cells shown in
    let here = ap shown c.index-cells-column.is ∙ sym (get_or-map shown cells c.loop-column.column c.index-cells-column.result [] c.loop-column-test.true) in
    cell_more c.args.widths.now (map shown cells) c.loop-column.column (shown c.index-cells-column.result) c.args.text.now c.loop-column.text c.add_cell.new.text
    (c.requires ∙ sym long) (omega (arith, long, c.loop-column-test.true)) here c.loop-column.invariant c.in_ok-add_cell.ensures

pub returns : goal.returns
returns g c =
    let shown = g.P.Printed.shown in
    let cells = c.args.cells.now in
    let long : length (map shown cells) ≡ length cells = length-map cells shown in
    rw (line_end c.args.widths.now (map shown cells) c.loop-column.column c.args.text.now c.loop-column.text
    (c.requires ∙ sym long) (omega (arith, long)) c.loop-column.invariant) c.add.ensures.ok
