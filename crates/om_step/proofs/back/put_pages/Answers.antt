use Rattle.om_step.proofs.BackLemmas.{put_start}
use Rattle.om_step.proofs.back.put_pages.Goals as goal

pub loop-page-init : goal.loop-page-init
loop-page-init g c = put_start c.args.memory.now.contents (g.P.Pages.bytes_at c.args.pages.now)
