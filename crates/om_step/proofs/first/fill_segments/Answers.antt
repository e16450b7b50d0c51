use Rattle.std.proofs.Common.{arith}
use Rattle.std.proofs.lemmas.Bool.{le-ltb, lt-ltb}
use Rattle.om_step.proofs.FirstLemmas.{fill_few, fill_more, fill_over, fill_region, fill_skip, fill_start, fill_within, fits_here, here}
use Rattle.om_step.proofs.first.fill_segments.Goals as goal
use Rattle.om_step.proofs.first.fill_segments.Goals.{then-segment-gt0, else-segment-gt0}

pub loop-segment-init : goal.loop-segment-init
loop-segment-init c = fill_start _ _ _ c.requires.zeros

pub fill-requires-clause-region : goal.fill-requires-clause-region
fill-requires-clause-region c =
    fill_within _ _ _ _ _ _ (lt-ltb 0 _ c.if-segment-gt0.true) (here _ _ _ _ _ _ _ c.loop-segment-test.true c.segment.view_is c.segment-item.is c.loop-segment.invariant)

pub fill-requires-clause-fits : goal.fill-requires-clause-fits
fill-requires-clause-fits c =
    rw (fill_region _ _ _ _ _ _ (lt-ltb 0 _ c.if-segment-gt0.true) (here _ _ _ _ _ _ _ c.loop-segment-test.true c.segment.view_is c.segment-item.is c.loop-segment.invariant))
    (fits_here _ _ _ _ c.requires.segments.fit c.loop-segment-test.true c.segment.view_is c.segment-item.is).bytes

pub overflow_add-region : goal.overflow_add-region
overflow_add-region c = let few = fill_few _ _ _ _ _ c.requires.segments c.loop-segment.invariant in omega arith

pub loop-segment-preserved : goal.loop-segment-preserved
loop-segment-preserved c =
    let on = here _ _ _ _ _ _ _ c.loop-segment-test.true c.segment.view_is c.segment-item.is c.loop-segment.invariant in
    elim c.if-segment-gt0.branch [
      | then-segment-gt0 w ↦
          rw (w.memory-is, w.region-is, w.fill.ensures.contents, fill_region _ _ _ _ _ _ (lt-ltb 0 _ w.if-segment-gt0.true) on)
          (fill_more _ _ _ _ _ _ (lt-ltb 0 _ w.if-segment-gt0.true) c.requires.apart c.requires.segments c.requires.start on)
      | else-segment-gt0 w ↦ rw (w.memory-is, w.region-is) (fill_skip _ _ _ _ _ _ (le-ltb 0 _ w.if-segment-gt0.false) on)
    ]

pub returns : goal.returns
returns c = fill_over _ _ _ _ _ c.loop-segment-test.false c.loop-segment.invariant
