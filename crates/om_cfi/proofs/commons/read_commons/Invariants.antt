use Rattle.std.proofs.Common.{◌≡◌, None, map, take}
use Rattle.om_base.specs.Firsts.{first_of}
use Rattle.om_cfi.specs.Frames.{common_fault}
use Rattle.om_cfi.specs.Kept.{AreCommons}
use Rattle.om_cfi.proofs.commons.read_commons.Given as goal

abbrev pub invariant-loop-entry : goal.invariant-loop-entry
invariant-loop-entry l = record {
  are : AreCommons (take l.entry-index l.entries) l.commons;
  none : first_of (map common_fault (take l.entry-index l.entries)) ≡ None;
}
