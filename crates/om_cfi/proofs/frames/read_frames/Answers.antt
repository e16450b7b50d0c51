use Rattle.om_cfi.proofs.RuleRowLemmas.{section_told}
use Rattle.om_cfi.proofs.frames.read_frames.Goals as goal

pub returns-clause-rules : goal.returns-clause-rules
returns-clause-rules c = section_told c.args.section.now c.in-Ok.rows c.as_slice.result.now c.in_ok-index.index c.in-Ok.ensures.rows c.as_slice.ensures c.in_ok-index.ensures.index
