use Rattle.std.proofs.Common.{◌≡◌, map, take}
use Rattle.om_names.specs.FoundList.{scoped_by}
use Rattle.om_names.specs.Stretches.{all_claimed, claims_of, helds_of}
use Rattle.om_names.proofs.stretches.read_claimed.Given as goal

abbrev pub invariant-loop-one : goal.invariant-loop-one
invariant-loop-one l = record {
  claims : l.claimed.claims ≡ claims_of (all_claimed l.names.list.items (map (scoped_by l.ranges) (take l.one-index l.found)));
  held : l.claimed.held ≡ helds_of (all_claimed l.names.list.items (map (scoped_by l.ranges) (take l.one-index l.found)));
}
