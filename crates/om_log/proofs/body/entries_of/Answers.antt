use Rattle.std.proofs.Common.{inr}
use Rattle.std.proofs.lemmas.Result.{err_from_is_err_and}
use Rattle.om_log.proofs.BodyLaws.{starts, goes_on, shorter, refused_behind, trailing_behind, none_left}
use Rattle.om_log.proofs.body.entries_of.Goals as goal

pub loop-ended-init : goal.loop-ended-init
loop-ended-init c = rw c.new-entries.ensures (starts c.args.body.now)

pub returns-in_err-entry-clause-fault : goal.returns-in_err-entry-clause-fault
returns-in_err-entry-clause-fault c =
    let p = err_from_is_err_and c.from_residual.result c.from_residual.ensures.1 in
    rw (p.1, p.2) (inr (refused_behind c.args.len c.args.body.now c.loop-ended.entries c.loop-ended.rest.now c.loop-ended.least c.loop-ended.ended c.in_err-entry.field-0.0
    c.loop-ended.invariant c.loop-ended-test.true c.in_err-entry.ensures.fault))

pub loop-ended-smaller : goal.loop-ended-smaller
loop-ended-smaller c = shorter c.loop-ended.least c.loop-ended.rest.now c.in_ok-entry.entry c.in_ok-entry.tail.now c.in_ok-entry.ensures.first

pub loop-ended-preserved : goal.loop-ended-preserved
loop-ended-preserved c =
    rw (c.in_ok-push.ensures.ok, c.next-least.ensures) (goes_on c.args.body.now c.loop-ended.entries c.loop-ended.rest.now c.loop-ended.least c.loop-ended.ended
    c.in_ok-entry.entry c.in_ok-entry.tail.now c.is_end-ended.result c.loop-ended.invariant c.loop-ended-test.true c.in_ok-entry.ensures.first c.is_end-ended.ensures)

pub returns-then-not-is_empty-clause-fault : goal.returns-then-not-is_empty-clause-fault
returns-then-not-is_empty-clause-fault c =
    inr (trailing_behind c.args.len c.args.body.now c.loop-ended.entries c.loop-ended.rest.now c.loop-ended.least c.loop-ended.ended
    c.loop-ended.invariant c.loop-ended-test.false (none_left c.loop-ended.rest.now c.is_empty.result c.is_empty.ensures c.if-not-is_empty.true))
