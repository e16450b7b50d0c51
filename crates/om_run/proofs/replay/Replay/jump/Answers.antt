use Rattle.std.proofs.Common.{◌≤◌, sym, subst}
use Rattle.om_step.specs.Back.{IsBack}
use Rattle.om_step.specs.First.{first_state}
use Rattle.om_step.specs.State.{State}
use Rattle.om_run.specs.Replay.{Place, here}
use Rattle.om_run.specs.Run.{end_of, state_at}
use Rattle.om_run.proofs.PositionLemmas.{placed_jump}
use Rattle.om_run.proofs.replay.Replay.jump.Goals as goal

pub invariant_of-self : goal.invariant_of-self
invariant_of-self g c =
    let within = subst (λ (p : Place). c.args.step ≤ (end_of p.entries).step) (sym c.self.view_is) c.requires.within in
    let back = subst (λ (p : Place). IsBack (here p) c.args.core.now (g.P.Pages.bytes_at c.args.pages.now) (state_at p.entries p.first c.args.step)) (sym c.self.view_is) c.requires.back in (
      rw (c.skip_to-self-inside.ensures, c.as_slice.ensures)
          (placed_jump _ c.self.inside.machine c.put_back.new.self c.self.inside.rest.now c.self.inside.end c.args.step c.self.invariant.0 (rw c.self.invariant.0.ending within)
          (c.put_back.ensures.back _ (subst (λ (s : State). IsBack s c.args.core.now (g.P.Pages.bytes_at c.args.pages.now) (state_at c.self.inside.log.now.entries (first_state c.self.inside.elf.now c.self.inside.log.now.start) c.args.step)) (sym c.self.invariant.0.state) back)) c.put_back.ensures.clean),
      c.find_quiet-self-inside.ensures,
    )
