use Rattle.std.proofs.Common.{drop}
use Rattle.om_step.proofs.FirstLemmas.{Filling}
use Rattle.om_step.proofs.first.fill_segments.Given as goal

abbrev pub invariant-loop-segment : goal.invariant-loop-segment
invariant-loop-segment l = Filling l.segments l.start (drop l.segment-index l.segments) l.memory.contents l.region
