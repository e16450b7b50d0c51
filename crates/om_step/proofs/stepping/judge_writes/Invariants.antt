use Rattle.std.proofs.Common.{◌≡◌, length}
use Rattle.om_step.specs.Step.{outside_of}
use Rattle.om_step.proofs.stepping.judge_writes.Given as goal

abbrev pub invariant-loop-write : goal.invariant-loop-write
invariant-loop-write l = outside_of l.memory.contents.regions l.left ≡ outside_of l.memory.contents.regions l.writes

abbrev pub decreases-loop-write : goal.decreases-loop-write
decreases-loop-write l = length l.left
