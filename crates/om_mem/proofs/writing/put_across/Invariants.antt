use Rattle.std.proofs.Common.{◌≡◌, length}
use Rattle.std.specs.Prelude.{None}
use Rattle.om_mem.specs.Contents.{addresses_from, outside, stored}
use Rattle.om_mem.specs.Laid.{IsSame, laid}
use Rattle.om_mem.proofs.writing.put_across.Given as goal

abbrev pub invariant-loop-rest : goal.invariant-loop-rest
invariant-loop-rest l = record {
  rest : stored (laid l.regions l.bytes).bytes (addresses_from l.at (length l.rest)) l.rest ≡ stored (laid l.regions l.initial.bytes).bytes (addresses_from l.address (length l.new)) l.new;
  inside : outside l.regions l.at (length l.rest) ≡ None;
  whole : length l.bytes ≡ length l.initial.bytes;
  flags : length l.dirty ≡ length l.initial.dirty;
  same : IsSame l.initial.bytes l.initial.dirty l.bytes l.dirty;
}

abbrev pub decreases-loop-rest : goal.decreases-loop-rest
decreases-loop-rest l = length l.rest
