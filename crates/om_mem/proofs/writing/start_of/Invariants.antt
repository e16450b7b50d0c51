use Rattle.std.proofs.Common.{◌≡◌, ◌+◌, drop, sum_by}
use Rattle.om_mem.proofs.writing.start_of.Given as goal

abbrev pub invariant-loop-earlier : goal.invariant-loop-earlier
invariant-loop-earlier l = l.before + sum_by (λ r. r.size) (drop l.earlier l.regions) ≡ sum_by (λ r. r.size) l.regions
