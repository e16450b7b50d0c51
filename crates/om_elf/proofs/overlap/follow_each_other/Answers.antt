use Rattle.om_elf.proofs.DisjointLemmas.{disjoint_all, disjoint_more, past_more}
use Rattle.om_elf.proofs.overlap.follow_each_other.Goals as goal

pub loop-span-preserved : goal.loop-span-preserved
loop-span-preserved c = record {
  disjoint = disjoint_more c.args.spans.now c.loop-span.span-index c.loop-span.end _ c.loop-span-test.true c.if-span-end.false c.loop-span.invariant.disjoint c.loop-span.invariant.past;
  past = λ n later. past_more c.args.spans.now c.loop-span.span-index c.loop-span.end c.max-end.result n _ c.loop-span-test.true c.max-end.ensures later c.loop-span.invariant.past;
}

pub returns : goal.returns
returns c = λ _. disjoint_all c.args.spans.now c.loop-span.span-index c.loop-span-test.false c.loop-span.invariant.disjoint
