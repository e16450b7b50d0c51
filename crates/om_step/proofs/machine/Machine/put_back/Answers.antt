use Rattle.om_step.proofs.BackLemmas.{put_is}
use Rattle.om_step.proofs.machine.Machine.put_back.Goals as goal

pub returns-clause-back : goal.returns-clause-back
returns-clause-back g c =
    λ target back.
    rw c.clear_dirty.ensures.cleared
    (put_is c.args.self.now.state c.args.core.now _ (g.P.Pages.bytes_at c.args.pages.now) target (rw (← c.self.view_is) c.put_pages.ensures.put) c.put_pages.ensures.whole back)
