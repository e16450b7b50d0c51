use Rattle.std.proofs.Common.{◌-◌}
use Rattle.om_mem.specs.Pages.{page_count}
use Rattle.om_step.proofs.BackLemmas.{PutSoFar}
use Rattle.om_step.proofs.back.put_pages.Given as goal

abbrev pub invariant-loop-page : goal.invariant-loop-page
invariant-loop-page g l = PutSoFar l.fn.memory.contents l.memory.contents (g.P.Pages.bytes_at l.pages) l.page

abbrev pub decreases-loop-page : goal.decreases-loop-page
decreases-loop-page g l = page_count l.fn.memory.contents.regions - l.page
