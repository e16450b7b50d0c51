use Rattle.std.proofs.Common.{◌≡◌, [], length, map, max, ap, get_or, sym, ◌∙◌, arith}
use Rattle.std.proofs.lemmas.List.{length-map, get_or-map}
use Rattle.om_table.proofs.WidthLemmas.{widened_more, widened_all}
use Rattle.om_table.proofs.widths.widen.Goals as goal

pub loop-column-preserved : goal.loop-column-preserved
loop-column-preserved g c =
    let shown = g.P.Printed.shown in
    let cells = c.args.cells.now in
    let long : length (map shown cells) ≡ length cells = length-map cells shown in
    let here = ap shown c.index-cells-column.is ∙ sym (get_or-map shown cells c.loop-column.column c.index-cells-column.result [] c.loop-column-test.true) in
    let raised : c.max.result ≡ max (get_or c.loop-column.widths c.loop-column.column 0) (length (shown c.index-cells-column.result)) =
    c.max.ensures ∙ ap (max (get_or c.loop-column.widths c.loop-column.column 0)) c.in_ok-shown_len.ensures.len in
    widened_more c.args.widths.now (map shown cells) c.loop-column.column c.max.result (shown c.index-cells-column.result) c.loop-column.widths
    (c.requires ∙ sym long) (omega (arith, long, c.loop-column-test.true)) raised here c.loop-column.invariant

pub returns : goal.returns
returns g c =
    let long = length-map c.args.cells.now g.P.Printed.shown in
    widened_all c.args.widths.now (map g.P.Printed.shown c.args.cells.now) c.loop-column.column c.loop-column.widths
    (c.requires ∙ sym long) (omega (arith, long)) c.loop-column.invariant
