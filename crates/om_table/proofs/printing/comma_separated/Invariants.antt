use Rattle.std.proofs.Common.{◌≡◌, ◌++◌, drop, flat_map, map}
use Rattle.om_table.specs.Text.{csv_line, csv_text, field_of}
use Rattle.om_table.proofs.printing.comma_separated.Given as goal

-- the lines so far, and those of the rows that are left, are all lines
abbrev pub invariant-loop-fields : goal.invariant-loop-fields
invariant-loop-fields l =
    csv_text l.table ≡ l.text ++ flat_map csv_line (map (map field_of) (drop l.fields-index l.table.rows))
