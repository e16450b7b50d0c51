use Rattle.om_step.proofs.FirstLemmas.{first_cleared}
use Rattle.om_step.proofs.first.first_memory.Goals as goal

pub returns : goal.returns
returns c = (
  rw (← c.in_ok-regions.ensures) c.in_ok-memory.ensures.0,
  first_cleared c.args.segments.now c.args.start.now c.fill_segments.new.memory c.clear_dirty.new.self c.fill_segments.ensures c.clear_dirty.ensures.cleared,
)
