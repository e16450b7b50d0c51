use Rattle.std.proofs.Common.{◌≡◌, ◌++◌, drop, flat_map, map}
use Rattle.om_table.specs.Text.{line, lines_of, shown}
use Rattle.om_table.proofs.printing.columns.Given as goal

-- the lines so far, and those of the rows that are left, are all lines
abbrev pub invariant-loop-row : goal.invariant-loop-row
invariant-loop-row l =
    flat_map (line l.widths.items) (lines_of l.table) ≡ l.text ++ flat_map (line l.widths.items) (map (map shown) (drop l.row-index l.table.rows))
