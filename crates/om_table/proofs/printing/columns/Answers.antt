use Rattle.std.proofs.Common.{◌≡◌, ◌≤◌, ◌++◌, ◌∷◌, [], ◌∙◌, sym, ap, length, map, drop, codes, decimal, rules}
use Rattle.std.proofs.lemmas.List.{append-nil}
use Rattle.om_table.specs.Text.{lines_of, shown}
use Rattle.om_table.proofs.TextLemmas.{columns_rest, columns_end, too_long}
use Rattle.om_table.proofs.WidthLemmas.{length-widths}
use Rattle.om_table.proofs.printing.columns.Goals as goal

pub add_line-requires : goal.add_line-requires
add_line-requires c =
    ap length (c.as_slice.ensures.value ∙ c.in_ok-widths.ensures)
    ∙ length-widths (length c.args.table.now.names) (lines_of c.args.table.now) ∙ ap length (sym c.as_slice-2.ensures)

pub returns-in_err-within : goal.returns-in_err-within
returns-in_err-within c =
    let table = c.args.table.now in
    let is = columns_rest table c.in_ok-widths.widths.items c.loop-row.text (map (map shown) (drop c.loop-row.row-index table.rows)) c.in_ok-widths.ensures c.loop-row.invariant in
    too_long _ _ _ _ _ _ is c.in_err-within.ensures c.from_residual-in_err-within.ensures.1

pub add_line-requires-in-loop-row : goal.add_line-requires-in-loop-row
add_line-requires-in-loop-row c =
    let table = c.args.table.now in
    let same : length c.row-item.result ≡ length table.names = search rules in
    ap length (c.as_slice-in-loop-row.ensures.value ∙ c.in_ok-widths.ensures)
    ∙ length-widths (length table.names) (lines_of table) ∙ sym same ∙ ap length (sym c.as_slice-in-loop-row-2.ensures)

pub returns-in_err-within-2 : goal.returns-in_err-within-2
returns-in_err-within-2 c =
    let table = c.args.table.now in
    let all : length table.rows ≤ c.loop-row.row-index = search rules in
    let text : c.add_count.new.text ≡ c.loop-row.text ++ codes "rows " ++ decimal (length table.rows) ++ 10 ∷ [] = search rules in
    let is = columns_end table c.in_ok-widths.widths.items c.loop-row.row-index c.loop-row.text c.add_count.new.text c.in_ok-widths.ensures all c.loop-row.invariant text in
    too_long _ c.add_count.new.text [] _ _ _ (is ∙ sym (append-nil c.add_count.new.text)) c.in_err-within-2.ensures c.from_residual-in_err-within-2.ensures.1

pub returns : goal.returns
returns c =
    let table = c.args.table.now in
    let all : length table.rows ≤ c.loop-row.row-index = search rules in
    let text : c.add_count.new.text ≡ c.loop-row.text ++ codes "rows " ++ decimal (length table.rows) ++ 10 ∷ [] = search rules in
    let is = columns_end table c.in_ok-widths.widths.items c.loop-row.row-index c.loop-row.text c.add_count.new.text c.in_ok-widths.ensures all c.loop-row.invariant text in
    (sym is, rw is c.in_ok-within-2.ensures)
