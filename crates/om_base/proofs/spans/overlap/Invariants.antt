use Rattle.std.proofs.Common.{◌≡◌, ◌+◌, length}
use Rattle.om_base.specs.Spans.{overlap_of}
use Rattle.om_base.proofs.SpanLemmas.{overlap_from}
use Rattle.om_base.proofs.spans.overlap.Given as goal

abbrev pub invariant-loop-span : goal.invariant-loop-span
invariant-loop-span l = record {
  same : overlap_of l.spans ≡ overlap_from l.first l.rest;
  place : l.first + length l.rest ≡ length l.spans;
}

abbrev pub decreases-loop-span : goal.decreases-loop-span
decreases-loop-span l = length l.rest
