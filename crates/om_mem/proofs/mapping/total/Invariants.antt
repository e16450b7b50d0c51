use Rattle.std.proofs.Common.{◌≡◌, ◌+◌, drop, sum_by}
use Rattle.om_mem.proofs.mapping.total.Given as goal

abbrev pub invariant-loop-region : goal.invariant-loop-region
invariant-loop-region l =
    l.bytes + sum_by (λ r. r.size) (drop l.region-index l.regions) ≡ sum_by (λ r. r.size) l.regions
