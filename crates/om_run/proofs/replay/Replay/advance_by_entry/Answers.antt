use Rattle.std.proofs.Common.{sym, ◌∙◌, refl}
use Rattle.std.proofs.lemmas.Result.{err_from_is_err_and}
use Rattle.om_run.proofs.PositionLemmas.{goes_unhalted, lawful_rest, made_next, placed_next, told_verdict, verdict_halted}
use Rattle.om_run.proofs.replay.Replay.advance_by_entry.Goals as goal

pub halt_before-requires : goal.halt_before-requires
halt_before-requires c = lawful_rest _ _ _ _ c.self.invariant.0

pub first_call-call-requires : goal.first_call-call-requires
first_call-call-requires c = lawful_rest _ _ _ _ c.self.invariant.0

pub returns-in-Some-clause-verdict : goal.returns-in-Some-clause-verdict
returns-in-Some-clause-verdict c =
    rw (← c.self.view_is)
    (sym (verdict_halted _ c.self.inside.machine c.self.inside.rest.now c.self.inside.end c.in-Some.halt c.self.invariant.0 (rw c.as_slice-entries.ensures at (sym c.in-Some.is ∙ c.halt_before.ensures))))

pub returns-in_err-touched-clause-verdict : goal.returns-in_err-touched-clause-verdict
returns-in_err-touched-clause-verdict c =
    let p = err_from_is_err_and c.from_residual.result c.from_residual.ensures.1 in
    let goes = goes_unhalted _ _ _ _ (sym c.in_default.is ∙ c.halt_before.ensures) in
    rw (p.1, p.2, ← c.self.view_is) (sym c.in_err-touched.was ∙ told_verdict _ c.self.inside.machine c.self.inside.rest.now c.self.inside.end c.first_call-call.result c.step_by.result
    c.self.invariant.0 goes.1 goes.0 c.first_call-call.ensures (c.step_by.ensures.verdict c.self.inside.end refl))

pub invariant_of-self-2 : goal.invariant_of-self-2
invariant_of-self-2 c =
    let goes = goes_unhalted _ _ _ _ (sym c.in_default.is ∙ c.halt_before.ensures) in (
      rw (c.skip_to-self-inside.ensures) (placed_next _
          c.self.inside.machine c.step_by.new.machine c.self.inside.rest.now c.self.inside.end c.self.invariant.0 goes.1
          (made_next c.self.inside.machine.state c.step_by.new.machine.state c.first_call-call.result c.self.inside.rest.now c.self.inside.step c.step_by.result c.in_ok-touched.touched
          c.step_by.ensures.machine c.in_ok-touched.was c.first_call-call.ensures) c.step_by.ensures.kept),
      c.find_quiet-self-inside.ensures,
    )

pub returns-clause-verdict : goal.returns-clause-verdict
returns-clause-verdict c =
    let goes = goes_unhalted _ _ _ _ (sym c.in_default.is ∙ c.halt_before.ensures) in
    rw (← c.self.view_is) (sym c.in_ok-touched.was ∙ told_verdict _ c.self.inside.machine c.self.inside.rest.now c.self.inside.end c.first_call-call.result c.step_by.result
    c.self.invariant.0 goes.1 goes.0 c.first_call-call.ensures (c.step_by.ensures.verdict c.self.inside.end refl))
