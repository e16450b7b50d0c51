use Rattle.std.proofs.Common.{◌≡◌, ◌++◌, length, map, take}
use Rattle.om_line.specs.Gathering.{kept_row}
use Rattle.om_line.proofs.gathering.Gathered.add_rows.Given as goal

abbrev pub invariant-loop-row : goal.invariant-loop-row
invariant-loop-row l = record {
  rows : l.self.rows ≡ l.initial.self.rows ++ map (kept_row l.before (length l.lines.files)) (take l.row-index l.row-items);
  files : l.self.files ≡ l.initial.self.files;
  claims : l.self.claims ≡ l.initial.self.claims;
}
