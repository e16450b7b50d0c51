use Rattle.std.proofs.Common.{◌≡◌, ◌<◌, ◌∙◌, sym, Ok, None}
use Rattle.om_step.specs.Step.{outcome}
use Rattle.om_run.specs.Position.{end_of_quiet}
use Rattle.om_run.specs.Replay.{verdict_at}
use Rattle.om_run.specs.Run.{after_by}
use Rattle.om_run.proofs.PositionLemmas.{lawful_rest, touching, placed_next, told_next, quiet_marks, quiet_none, quiet_stays, quiet_within}
use Rattle.om_run.proofs.replay.Replay.pass.Goals as goal

pub invariant_of-self-2 : goal.invariant_of-self-2
invariant_of-self-2 c =
    let placed = c.self.invariant.0 in
    let quiet : c.self.inside.step < end_of_quiet c.self.inside.rest.now c.self.inside.end.step = rw (← c.self.invariant.1) c.if-self.false in
    let made = touching (outcome c.self.inside.machine.state) (sym c.if-not-make_step.false ∙ c.make_step.ensures.made) in
    let after : c.make_step.new.machine.state ≡ after_by (outcome c.self.inside.machine.state) None c.self.inside.machine.state =
    rw made.1 c.make_step.ensures.state in
    let next = placed_next _ c.self.inside.machine c.make_step.new.machine c.self.inside.rest.now c.self.inside.end placed (quiet_within _ _ _ quiet)
    (rw (quiet_none _ _ _ (lawful_rest _ _ _ _ placed) quiet) after) c.make_step.ensures.kept in
    (rw (quiet_stays _ _ _ quiet) at next, c.self.invariant.1)

pub returns-clause-verdict : goal.returns-clause-verdict
returns-clause-verdict c =
    let placed = c.self.invariant.0 in
    let quiet : c.self.inside.step < end_of_quiet c.self.inside.rest.now c.self.inside.end.step = rw (← c.self.invariant.1) c.if-self.false in
    let made = touching (outcome c.self.inside.machine.state) (sym c.if-not-make_step.false ∙ c.make_step.ensures.made) in
    let verdict : verdict_at c.args.self.now ≡ Ok made.0 =
    rw (← c.self.view_is) (told_next _ c.self.inside.machine c.self.inside.rest.now c.self.inside.end made.0
    placed (quiet_within _ _ _ quiet) (quiet_marks _ _ _ _ placed quiet) (sym (quiet_none _ _ _ (lawful_rest _ _ _ _ placed) quiet)) made.1) in
    λ _. (made.0, verdict)
