use Rattle.std.proofs.Common.{◌≡◌, ◌++◌, map, take, codes}
use Rattle.std.specs.List.{join_by, zip}
use Rattle.om_table.specs.Text.{padded}
use Rattle.om_table.proofs.lines.add_line.Given as goal

-- the cells so far stand in their widths
abbrev pub invariant-loop-column : goal.invariant-loop-column
invariant-loop-column g l =
    l.text ≡ l.fn.text ++ join_by padded (codes "  ") (take l.column (zip l.widths (map g.P.Printed.shown l.cells)))
