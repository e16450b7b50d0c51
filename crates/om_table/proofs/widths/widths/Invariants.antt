use Rattle.std.proofs.Common.{◌≡◌, ◌∷◌, length, map, take}
use Rattle.om_table.specs.Escape.{escaped}
use Rattle.om_table.specs.Text.{shown, widths_of}
use Rattle.om_table.proofs.widths.widths.Given as goal

-- the widths are those of the names and the rows so far
abbrev pub invariant-loop-row : goal.invariant-loop-row
invariant-loop-row l =
    l.widths.items ≡ widths_of (length l.table.names) (map escaped l.table.names ∷ map (map shown) (take l.row-index l.table.rows))
