use Rattle.std.proofs.Common.{◌≡◌, ◌≤◌, ◌^◌, max, drop}
use Rattle.om_record.specs.Recording.{greatest_end, nonempty}
use Rattle.om_record.proofs.regions.end_of_segments.Given as goal

abbrev pub invariant-loop-segment : goal.invariant-loop-segment
invariant-loop-segment l =
    (max l.end (greatest_end (nonempty (drop l.segment-index l.segments))) ≡ greatest_end (nonempty l.segments)) × (l.end ≤ 2 ^ 32)
