use Rattle.std.proofs.Common.{◌≡◌, ◌++◌, take}
use Rattle.om_line.proofs.gathering.Gathered.add_files.Given as goal

abbrev pub invariant-loop-name : goal.invariant-loop-name
invariant-loop-name l = record {
  rows : l.self.rows ≡ l.initial.self.rows;
  files : l.self.files ≡ l.initial.self.files ++ take l.name-index l.name-items;
  claims : l.self.claims ≡ l.initial.self.claims;
}
