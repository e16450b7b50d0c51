use Rattle.std.proofs.Common.{◌^◌, ◌<◌, arith}
use Rattle.om_step.proofs.WritesLemmas.{do_more, do_over, do_start, first_inside, write_done}
use Rattle.om_step.proofs.stepping.do_writes.Goals as goal

pub loop-write-init : goal.loop-write-init
loop-write-init c = rw c.again-rest.ensures (do_start c.args.memory.now c.args.writes.now c.requires.inside)

pub unwrap-requires : goal.unwrap-requires
unwrap-requires c =
    let regions = c.loop-write.memory.contents.regions in
    write_done regions c.in-Some.write _
    (first_inside regions c.loop-write.rest c.in-Some.write c.in-Some.others c.in-Some.ensures c.loop-write.invariant.inside)
    (rw (← c.write.view_is) c.write_bytes.ensures.fault)

pub loop-write-preserved : goal.loop-write-preserved
loop-write-preserved c =
    let small : c.in-Some.write.addr < 2 ^ 32 = rw (← c.write.view_is) (omega arith) in
    do_more c.args.memory.now c.args.writes.now c.loop-write.memory c.loop-write.rest c.in-Some.write c.in-Some.others c.write_bytes.new.self
    c.in-Some.ensures small (rw (← c.write.view_is) (rw c.unwrap.ensures at c.write_bytes.ensures.contents)) c.write_bytes.ensures.kept c.loop-write.invariant

pub returns-clause-contents : goal.returns-clause-contents
returns-clause-contents c = do_over c.args.memory.now c.args.writes.now c.loop-write.memory c.loop-write.rest c.in_default.ensures c.loop-write.invariant
