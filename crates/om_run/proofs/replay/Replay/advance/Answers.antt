use Rattle.std.proofs.Common.{◌<◌, sym, ◌∙◌, refl, None}
use Rattle.std.proofs.lemmas.Result.{err_from_is_err_and}
use Rattle.om_run.specs.Position.{end_of_quiet}
use Rattle.om_run.proofs.PositionLemmas.{lawful_rest, made_next, placed_next, told_verdict, quiet_marks, quiet_none, quiet_stays, quiet_within}
use Rattle.om_run.proofs.replay.Replay.advance.Goals as goal

pub returns-in_err-touched-clause-verdict : goal.returns-in_err-touched-clause-verdict
returns-in_err-touched-clause-verdict c =
    let placed = c.self.invariant.0 in
    let quiet : c.self.inside.step < end_of_quiet c.self.inside.rest.now c.self.inside.end.step = rw (← c.self.invariant.1) c.if-self.true in
    let p = err_from_is_err_and c.from_residual.result c.from_residual.ensures.1 in
    rw (p.1, p.2, ← c.self.view_is) (sym c.in_err-touched.was ∙ told_verdict _ c.self.inside.machine c.self.inside.rest.now c.self.inside.end None c.step_without_call.result
    placed (quiet_within _ _ _ quiet) (quiet_marks _ _ _ _ placed quiet) (sym (quiet_none _ _ _ (lawful_rest _ _ _ _ placed) quiet)) (c.step_without_call.ensures.verdict c.self.inside.end refl))

pub invariant_of-self-then-self : goal.invariant_of-self-then-self
invariant_of-self-then-self c =
    let placed = c.self.invariant.0 in
    let quiet : c.self.inside.step < end_of_quiet c.self.inside.rest.now c.self.inside.end.step = rw (← c.self.invariant.1) c.if-self.true in
    let next = placed_next _ c.self.inside.machine c.step_without_call.new.machine c.self.inside.rest.now c.self.inside.end placed (quiet_within _ _ _ quiet)
    (made_next c.self.inside.machine.state c.step_without_call.new.machine.state None c.self.inside.rest.now c.self.inside.step c.step_without_call.result c.in_ok-touched.touched
    c.step_without_call.ensures.machine c.in_ok-touched.was (sym (quiet_none _ _ _ (lawful_rest _ _ _ _ placed) quiet))) c.step_without_call.ensures.kept in
    (rw (quiet_stays _ _ _ quiet) at next, c.self.invariant.1)

pub returns-then-self-clause-verdict : goal.returns-then-self-clause-verdict
returns-then-self-clause-verdict c =
    let placed = c.self.invariant.0 in
    let quiet : c.self.inside.step < end_of_quiet c.self.inside.rest.now c.self.inside.end.step = rw (← c.self.invariant.1) c.if-self.true in
    rw (← c.self.view_is) (sym c.in_ok-touched.was ∙ told_verdict _ c.self.inside.machine c.self.inside.rest.now c.self.inside.end None c.step_without_call.result
    placed (quiet_within _ _ _ quiet) (quiet_marks _ _ _ _ placed quiet) (sym (quiet_none _ _ _ (lawful_rest _ _ _ _ placed) quiet)) (c.step_without_call.ensures.verdict c.self.inside.end refl))
