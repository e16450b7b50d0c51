use Rattle.std.proofs.Common.{◌≡◌, ◌≤◌, ◌+◌, length, drop}
use Rattle.om_record.specs.Recording.{heap_place, nonempty}
use Rattle.om_record.proofs.regions.find_heap_place.Given as goal

abbrev pub invariant-loop-segment : goal.invariant-loop-segment
invariant-loop-segment l =
    (l.place + length (nonempty (drop l.segment-index l.segments)) ≡ heap_place l.segments) × (l.place ≤ l.segment-index + 1)
