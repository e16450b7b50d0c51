use Rattle.std.proofs.Common.{length}
use Rattle.om_cfi.proofs.CutLemmas.{IsLeft}
use Rattle.om_cfi.proofs.entries.cut.Given as goal

abbrev pub invariant-loop-left : goal.invariant-loop-left
invariant-loop-left l = IsLeft l.section l.entries l.left

abbrev pub decreases-loop-left : goal.decreases-loop-left
decreases-loop-left l = length l.left
