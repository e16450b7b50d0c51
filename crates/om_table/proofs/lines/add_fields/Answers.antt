use Rattle.std.proofs.Common.{◌≡◌, ◌∙◌, ap, length, map, sym, arith}
use Rattle.std.proofs.lemmas.List.{length-map, get_or-map}
use Rattle.om_table.proofs.LineLemmas.{field_more, csv_line_end}
use Rattle.om_table.proofs.lines.add_fields.Goals as goal

pub loop-column-preserved : goal.loop-column-preserved
loop-column-preserved g c =
    let field = g.P.Printed.field in
    let cells = c.args.cells.now in
    let long : length (map field cells) ≡ length cells = length-map cells field in
    let here = ap field c.index-cells-column.is ∙ sym (get_or-map field cells c.loop-column.column c.index-cells-column.result (field c.index-cells-column.result) c.loop-column-test.true) in
    field_more (map field cells) c.loop-column.column (field c.index-cells-column.result) c.args.text.now c.loop-column.text c.add_field.new.text
    (omega (arith, long, c.loop-column-test.true)) here c.loop-column.invariant c.in_ok-add_field.ensures

pub returns : goal.returns
returns g c =
    let field = g.P.Printed.field in
    let cells = c.args.cells.now in
    let long : length (map field cells) ≡ length cells = length-map cells field in
    rw (csv_line_end (map field cells) c.loop-column.column c.args.text.now c.loop-column.text
    (omega (arith, long)) c.loop-column.invariant) c.add.ensures.ok
