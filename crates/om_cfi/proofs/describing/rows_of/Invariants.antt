use Rattle.std.proofs.Common.{◌≡◌, None, map, take}
use Rattle.std.specs.Prelude.{filter_map}
use Rattle.om_base.specs.Firsts.{first_of}
use Rattle.om_cfi.specs.Frames.{fault_by, frame_by}
use Rattle.om_cfi.specs.Kept.{find_in}
use Rattle.om_cfi.specs.Rows.{no_rows, with_descriptions}
use Rattle.om_cfi.proofs.describing.rows_of.Given as goal

abbrev pub invariant-loop-entry : goal.invariant-loop-entry
invariant-loop-entry l = record {
  rows : l.rows ≡ with_descriptions no_rows (filter_map (frame_by (find_in l.commons)) (take l.entry-index l.entries));
  none : first_of (map (fault_by (find_in l.commons)) (take l.entry-index l.entries)) ≡ None;
}
