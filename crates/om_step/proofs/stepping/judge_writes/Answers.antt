use Rattle.std.proofs.Common.{◌∙◌}
use Rattle.om_step.proofs.WritesLemmas.{judge_on, judge_over, judge_stop}
use Rattle.om_step.proofs.stepping.judge_writes.Goals as goal

pub returns-in-Some-first_outside : goal.returns-in-Some-first_outside
returns-in-Some-first_outside c =
    judge_stop c.args.memory.now.contents.regions c.loop-write.left c.in-Some.write c.in-Some.others _ c.in-Some.ensures
    (rw (← c.write.view_is) c.in-Some-first_outside.ensures)
    ∙ c.loop-write.invariant

pub loop-write-preserved : goal.loop-write-preserved
loop-write-preserved c =
    judge_on c.args.memory.now.contents.regions c.loop-write.left c.in-Some.write c.in-Some.others c.in-Some.ensures
    (rw (← c.write.view_is) c.in_default-first_outside.ensures)
    ∙ c.loop-write.invariant

pub returns : goal.returns
returns c = judge_over c.args.memory.now.contents.regions c.loop-write.left c.in_default.ensures ∙ c.loop-write.invariant
