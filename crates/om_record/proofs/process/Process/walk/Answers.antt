use Rattle.std.proofs.Common.{◌≡◌, ◌+◌, ◌-◌, arith}
use Rattle.om_record.specs.Progress.{GoesOn}
use Rattle.om_record.proofs.ProgressLemmas.{walk_more}
use Rattle.om_step.specs.Step.{outcome}
use Rattle.om_record.proofs.process.Process.walk.Goals as goal

pub loop-self-preserved : goal.loop-self-preserved
loop-self-preserved c =
    let count : c.step.new.meter - c.args.self.now.meter ≡ (c.loop-self.self.meter - c.args.self.now.meter) + 1 = omega (arith, c.in-Next.ensures.meter) in
    let goes : GoesOn (outcome c.loop-self.self.machine.state) = rw (← c.in-Next.ensures.outcome) tt in
    record {
      walk = rw (count, c.step.ensures.state) (walk_more c.args.self.now.machine.state _ _ c.loop-self.invariant.walk goes);
      later = omega (arith, c.in-Next.ensures.meter);
      within = omega (arith, c.in-Next.ensures.meter);
      host = c.loop-self.invariant.host;
    }
