use Rattle.om_cfi.proofs.DescribingLemmas.{no_description}
use Rattle.om_cfi.specs.Frames.{frame_by}
use Rattle.om_cfi.proofs.describing.add_entry.Goals as goal

pub returns-then-entry-clause-rows : goal.returns-then-entry-clause-rows
unfolding frame_by
returns-then-entry-clause-rows c = rw c.if-entry.true (no_description c.args.rows.now)
