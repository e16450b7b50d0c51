use Rattle.std.proofs.Common.{◌≡◌, ◌+◌, drop, sum_by}
use Rattle.std.specs.Option.{option_map}
use Rattle.om_mem.specs.Laid.{place_of}
use Rattle.om_mem.proofs.spot.find_spot.Given as goal

abbrev pub invariant-loop-region : goal.invariant-loop-region
invariant-loop-region l = record {
  place : place_of l.regions l.address ≡ option_map (λ found. (l.before + found.0, found.1)) (place_of (drop l.region-index l.regions) l.address);
  before : l.before + sum_by (λ r. r.size) (drop l.region-index l.regions) ≡ sum_by (λ r. r.size) l.regions;
}
