use Rattle.std.proofs.Common.{◌≡◌, ◌++◌, drop, map, filter, nat_lt}
use Rattle.om_elf.specs.Image.{Image}
use Rattle.om_mem.specs.Contents.{Filled}
use Rattle.om_step.specs.First.{segment_of}
use Rattle.om_step.proofs.first.all_regions.Given as goal

abbrev pub invariant-loop-segment : goal.invariant-loop-segment
invariant-loop-segment l =
    map (λ (f : Filled). f.region) (map segment_of (filter (λ (i : Image). nat_lt 0 i.memsz) l.segments))
    ≡ l.regions ++ map (λ (f : Filled). f.region) (map segment_of (filter (λ (i : Image). nat_lt 0 i.memsz) (drop l.segment-index l.segments)))
