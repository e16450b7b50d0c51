use Rattle.std.proofs.Common.{◌≡◌, ◌++◌, map, take}
use Rattle.std.specs.Prelude.{filter_map}
use Rattle.om_names.specs.Stretches.{claimed_by, claims_of, helds_of, stretch}
use Rattle.om_names.proofs.stretches.Claimed.add.Given as goal

abbrev pub invariant-loop-span : goal.invariant-loop-span
invariant-loop-span l = record {
  claims : l.self.claims ≡ l.initial.self.claims ++ claims_of (map (claimed_by l.variable) (filter_map (stretch l.place) (take l.span-index l.spans)));
  held : l.self.held ≡ l.initial.self.held ++ helds_of (map (claimed_by l.variable) (filter_map (stretch l.place) (take l.span-index l.spans)));
}
