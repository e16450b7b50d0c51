use Rattle.std.proofs.Common.{◌≡◌, ◌<◌, ◌++◌, None, ap, sym, ◌∙◌, arith}
use Rattle.std.proofs.lemmas.Result.{err_from_is_err_and}
use Rattle.om_record.specs.Progress.{IsAt, moment, entries_before}
use Rattle.om_record.proofs.RunLemmas.{at_start, at_marked, at_walked, at_reached, at_served_by, mark_at}
use Rattle.om_record.proofs.MadeLemmas.{call_full, end_known, end_stop, goes_on, log_finish, made_finish, mark_full}
use Rattle.om_step.specs.State.{Standing}
use Rattle.om_record.proofs.making.record_run.Goals as goal
use Rattle.om_record.proofs.making.record_run.Goals.{After-walk, In_default, In_ok-push_mark}

pub loop-writer-init : goal.loop-writer-init
loop-writer-init c =
    rw (c.new-process.ensures, c.new-writer.ensures) (at_start c.args.elf.now c.args.input.now c.args.limit c.args.start c.in-Ok.machine.state c.requires.start (ap (λ (s : Standing). s.state) c.in-Ok.ensures.1))

pub returns-in_err-push_mark-clause-made : goal.returns-in_err-push_mark-clause-made
returns-in_err-push_mark-clause-made c =
    let p = err_from_is_err_and c.from_residual.result c.from_residual.ensures.1 in
    rw (c.in-Ok.ensures.0, p.1, p.2) (mark_full c.args.elf.now c.args.input.now c.args.limit c.loop-writer.process.meter c.value-step.result
    (moment c.loop-writer.process.machine.state c.loop-writer.process.host) c.loop-writer.writer c.loop-writer.exit c.in_err-push_mark.field-0.0
    c.loop-writer.invariant c.value-step.ensures c.in_err-push_mark.ensures.fault)

-- behind the mark of its step
marked : (c : In_ok-push_mark) → IsAt c.args.elf.now c.args.input.now c.args.limit c.loop-writer.process.meter (moment c.loop-writer.process.machine.state c.loop-writer.process.host)
    (entries_before c.args.elf.now c.args.input.now c.args.limit c.loop-writer.process.meter ++ mark_at c.args.limit c.loop-writer.process.meter (moment c.loop-writer.process.machine.state c.loop-writer.process.host))
    c.push_mark.new.writer c.loop-writer.exit
marked c = at_marked _ _ _ _ _ _ _ _ _ c.loop-writer.invariant c.value-step.ensures c.in_ok-push_mark.ensures.logged c.in_ok-push_mark.ensures.stand

pub returns-in-Some-clause-made : goal.returns-in-Some-clause-made
returns-in-Some-clause-made c =
    let at = marked (goal.at.returns-in-Some-clause-made c).In_ok-push_mark in
    let end = end_known _ _ _ _ _ _ _ _ c.in-Some.end at (rw c.value-step.ensures at (sym c.in-Some.ensures.end)) (omega arith) c.in-Some.ensures.fits in
    rw c.in-Ok.ensures.0 (made_finish _ _ _ _ _ _ _ _ c.finish.result at end c.finish.ensures.recorded c.finish.ensures.fault)

pub returns-in-Some-clause-log : goal.returns-in-Some-clause-log
returns-in-Some-clause-log c =
    let at = marked (goal.at.returns-in-Some-clause-log c).In_ok-push_mark in
    let end = end_known _ _ _ _ _ _ _ _ c.in-Some.end at (rw c.value-step.ensures at (sym c.in-Some.ensures.end)) (omega arith) c.in-Some.ensures.fits in
    log_finish _ _ _ _ _ _ _ _ c.finish.result at end c.finish.ensures.recorded c.args.start c.requires.start c.requires.room c.in-Ok.ensures.0

-- where no end is known
unended : (c : In_default) → (c.loop-writer.exit ≡ None) × (c.loop-writer.process.meter < c.args.limit)
unended c =
    goes_on c.loop-writer.exit c.loop-writer.process.meter c.args.limit (rw c.value-step.ensures at (sym c.known_end.ensures.end ∙ c.in_default.is))

pub loop-writer-preserved-in-Reached : goal.loop-writer-preserved-in-Reached
loop-writer-preserved-in-Reached c =
    let at = marked (goal.at.loop-writer-preserved-in-Reached c).In_ok-push_mark in
    let on = unended (goal.at.loop-writer-preserved-in-Reached c).In_default in
    rw (on.0, c.walk.ensures.host) (at_reached c.args.elf.now c.args.input.now c.args.limit c.next_mark.result c.loop-writer.process.meter c.walk.new.self.meter
    (moment c.loop-writer.process.machine.state c.loop-writer.process.host) c.walk.new.self.machine.state c.push_mark.new.writer (rw on.0 at at)
    c.next_mark.ensures.within (λ k h g. c.next_mark.ensures.unmarked k (omega arith) g) c.walk.ensures.walk (omega (arith, c.next_mark.ensures.later)) c.in-Reached.ensures.pause)

-- behind a walk that ended before the next mark
walked : (c : After-walk) → c.walk.new.self.meter < c.next_mark.result
    → IsAt c.args.elf.now c.args.input.now c.args.limit c.walk.new.self.meter (moment c.walk.new.self.machine.state c.walk.new.self.host)
    (entries_before c.args.elf.now c.args.input.now c.args.limit c.walk.new.self.meter ++ mark_at c.args.limit c.walk.new.self.meter (moment c.walk.new.self.machine.state c.walk.new.self.host))
    c.push_mark.new.writer None
walked c early =
    let at = at_marked _ _ _ _ _ _ _ _ _ c.loop-writer.invariant c.value-step.ensures c.in_ok-push_mark.ensures.logged c.in_ok-push_mark.ensures.stand in
    let on = goes_on c.loop-writer.exit c.loop-writer.process.meter c.args.limit (rw c.value-step.ensures at (sym c.known_end.ensures.end ∙ c.in_default.is)) in
    rw c.walk.ensures.host (at_walked c.args.elf.now c.args.input.now c.args.limit c.next_mark.result c.loop-writer.process.meter c.walk.new.self.meter
    (moment c.loop-writer.process.machine.state c.loop-writer.process.host) c.walk.new.self.machine.state c.push_mark.new.writer (rw on.0 at at)
    c.next_mark.ensures.within (λ k h g. c.next_mark.ensures.unmarked k (omega arith) g) c.walk.ensures.walk c.walk.ensures.later early)

pub returns-in_err-exit-in-AtCall-clause-made : goal.returns-in_err-exit-in-AtCall-clause-made
returns-in_err-exit-in-AtCall-clause-made c =
    let early = c.in-AtCall.ensures.pause.0 in
    let at = walked (goal.at.returns-in_err-exit-in-AtCall-clause-made c).After-walk early in
    let p = err_from_is_err_and c.from_residual-in_err-exit-in-AtCall.result c.from_residual-in_err-exit-in-AtCall.ensures.1 in
    rw (c.in-Ok.ensures.0, p.1, p.2) (call_full c.args.elf.now c.args.input.now c.args.limit c.walk.new.self.meter _ c.push_mark.new.writer _
    at (omega (arith, early, c.next_mark.ensures.within)) c.in-AtCall.ensures.pause.1 c.args.start c.requires.start c.in_err-exit-in-AtCall.ensures.fault)

pub loop-writer-preserved : goal.loop-writer-preserved
loop-writer-preserved c =
    let early = c.in-AtCall.ensures.pause.0 in
    let at = walked (goal.at.loop-writer-preserved c).After-walk early in
    let served = c.in_ok-exit-in-AtCall.ensures in
    rw (served.meter, served.served, served.exit) (at_served_by c.args.elf.now c.args.input.now c.args.limit c.walk.new.self.meter _ c.push_mark.new.writer c.serve.new.writer
    at (omega (arith, early, c.next_mark.ensures.within)) c.in-AtCall.ensures.pause.1 c.args.start c.requires.start served.logged served.stand)

pub returns-in-AtStop-clause-made : goal.returns-in-AtStop-clause-made
returns-in-AtStop-clause-made c =
    let early = c.in-AtStop.ensures.pause.0 in
    let at = walked (goal.at.returns-in-AtStop-clause-made c).After-walk early in
    let end = end_stop _ _ _ _ _ _ _ c.in-AtStop.cause at (omega (arith, early, c.next_mark.ensures.within)) (omega arith) c.in-AtStop.ensures.pause.1 in
    rw c.in-Ok.ensures.0 (made_finish _ _ _ _ _ _ _ _ c.finish-in-AtStop.result at end
    (rw (c.end_by_stop.ensures, c.value.ensures) at c.finish-in-AtStop.ensures.recorded) c.finish-in-AtStop.ensures.fault)

pub returns-in-AtStop-clause-log : goal.returns-in-AtStop-clause-log
returns-in-AtStop-clause-log c =
    let early = c.in-AtStop.ensures.pause.0 in
    let at = walked (goal.at.returns-in-AtStop-clause-log c).After-walk early in
    let end = end_stop _ _ _ _ _ _ _ c.in-AtStop.cause at (omega (arith, early, c.next_mark.ensures.within)) (omega arith) c.in-AtStop.ensures.pause.1 in
    log_finish _ _ _ _ _ _ _ _ c.finish-in-AtStop.result at end
    (rw (c.end_by_stop.ensures, c.value.ensures) at c.finish-in-AtStop.ensures.recorded) c.args.start c.requires.start c.requires.room c.in-Ok.ensures.0
