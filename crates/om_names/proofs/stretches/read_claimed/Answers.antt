use Rattle.om_names.proofs.StretchLemmas.{parts_more}
use Rattle.om_names.proofs.stretches.read_claimed.Goals as goal

pub loop-one-preserved : goal.loop-one-preserved
loop-one-preserved c = record {
  claims = parts_more c.args.names.now.list.items c.args.ranges.now (λ it. it.claim) c.args.found.now c.loop-one.one-index c.one-item.result c.one-item.result c.loop-one.claimed.claims c.add_found.new.self.claims c.loop-one-test.true c.one-item.is
      c.loop-one.invariant.claims c.in_ok-add_found.ensures.claims;
  held = parts_more c.args.names.now.list.items c.args.ranges.now (λ it. it.held) c.args.found.now c.loop-one.one-index c.one-item.result c.one-item.result c.loop-one.claimed.held c.add_found.new.self.held c.loop-one-test.true c.one-item.is
      c.loop-one.invariant.held c.in_ok-add_found.ensures.held;
}
