use Rattle.std.proofs.Common.{◌≡◌, ◌++◌, map, take}
use Rattle.om_names.specs.EntryByEntry.{claims_of, named_by, names_of}
use Rattle.om_names.proofs.functions.Functions.claim.Given as goal

abbrev pub invariant-loop-span : goal.invariant-loop-span
invariant-loop-span l = record {
  claims : l.self.claims ≡ l.initial.self.claims ++ claims_of (map (named_by l.name) (take l.span-index l.spans));
  names : l.self.names ≡ l.initial.self.names ++ names_of (map (named_by l.name) (take l.span-index l.spans));
  count : l.self.count ≡ l.initial.self.count;
}
