use Rattle.std.proofs.Common.{◌≡◌, map, take}
use Rattle.om_mem.specs.Contents.{span_of}
use Rattle.om_mem.proofs.mapping.spans_of.Given as goal

-- the spans of the regions so far
abbrev pub invariant-loop-region : goal.invariant-loop-region
invariant-loop-region l = l.spans.items ≡ map span_of (take l.region-index l.regions)
