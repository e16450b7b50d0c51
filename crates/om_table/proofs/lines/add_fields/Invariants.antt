use Rattle.std.proofs.Common.{◌≡◌, ◌++◌, map, take, codes}
use Rattle.std.specs.List.{join_by}
use Rattle.om_table.proofs.lines.add_fields.Given as goal

-- the fields so far stand between commas
abbrev pub invariant-loop-column : goal.invariant-loop-column
invariant-loop-column g l =
    l.text ≡ l.fn.text ++ join_by (λ f. f) (codes ",") (take l.column (map g.P.Printed.field l.cells))
