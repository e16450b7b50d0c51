use Rattle.std.proofs.Common.{◌≡◌}
use Rattle.om_log.specs.Fields.{behind}
use Rattle.om_log.specs.EntryFields.{chunk_field}
use Rattle.om_log.proofs.entry_fields.behind_chunks.Given as goal

abbrev pub invariant-loop-left : goal.invariant-loop-left
invariant-loop-left l = behind l.left chunk_field l.rest ≡ behind l.fn.count chunk_field l.fn.bytes

abbrev pub decreases-loop-left : goal.decreases-loop-left
decreases-loop-left l = l.left
