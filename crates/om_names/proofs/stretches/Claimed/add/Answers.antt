use Rattle.std.proofs.Common.{refl}
use Rattle.om_names.proofs.StretchLemmas.{claims_more, helds_more}
use Rattle.om_names.proofs.stretches.Claimed.add.Goals as goal

pub loop-span-preserved : goal.loop-span-preserved
loop-span-preserved c = record {
  claims = claims_more c.args.place c.args.variable.now c.args.spans.now c.loop-span.span-index _ _ c.args.self.now.claims c.loop-span.self.claims c.add_span.new.self.claims c.loop-span-test.true refl
      c.loop-span.invariant.claims c.in_ok-add_span.ensures.claims;
  held = helds_more c.args.place c.args.variable.now c.args.spans.now c.loop-span.span-index _ _ c.args.self.now.held c.loop-span.self.held c.add_span.new.self.held c.loop-span-test.true refl
      c.loop-span.invariant.held c.in_ok-add_span.ensures.held;
}
