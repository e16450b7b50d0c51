use Rattle.std.proofs.Common.{◌≡◌, ◌+◌, ◌≤◌, ◌++◌, take}
use Rattle.std.specs.Prelude.{sum_by}
use Rattle.std.specs.List.{flat_map}
use Rattle.om_names.specs.EntryByEntry.{claims_of, count_by, named_spans, names_of}
use Rattle.om_names.proofs.functions.Functions.add_unit.Given as goal

abbrev pub invariant-loop-die : goal.invariant-loop-die
invariant-loop-die l = record {
  claims : l.self.claims ≡ l.initial.self.claims ++ claims_of (flat_map (named_spans l.names l.section l.base) (take l.die-index l.die-items));
  names : l.self.names ≡ l.initial.self.names ++ names_of (flat_map (named_spans l.names l.section l.base) (take l.die-index l.die-items));
  count : l.self.count ≡ l.initial.self.count + sum_by (count_by l.section l.base) (take l.die-index l.die-items);
  few : l.self.count ≤ l.initial.self.count + l.die-index;
}
