use Rattle.om_mem.proofs.SpotLemmas.{region-spot}
use Rattle.om_mem.proofs.spot.find_spot.Goals as goal

pub returns-then-holds-clause-spot : goal.returns-then-holds-clause-spot
returns-then-holds-clause-spot c =
    region-spot c.args.regions.now c.loop-region.region-index c.loop-region.before _ c.requires c.loop-region-test.true c.loop-region.invariant.before
