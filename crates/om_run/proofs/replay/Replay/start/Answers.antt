use Rattle.std.proofs.Common.{refl}
use Rattle.om_log.proofs.RegionLemmas.{room_of}
use Rattle.om_run.proofs.PositionLemmas.{clean_first, placed_start}
use Rattle.om_step.specs.First.{first_state}
use Rattle.om_run.proofs.replay.Replay.start.Goals as goal

pub invariant_of-result : goal.invariant_of-result
invariant_of-result c = (
  rw (c.find_end-end.ensures, c.as_slice-rest.ensures, c.in_ok-machine.ensures.1)
      (placed_start c.args.log.now.entries (first_state c.args.elf.now c.args.log.now.start) _ c.requires.log.entries refl (clean_first c.args.elf.now c.args.log.now.start)),
  c.find_quiet.ensures,
)

pub load-requires-clause-start : goal.load-requires-clause-start
load-requires-clause-start c = room_of c.args.log.now.start c.requires.log.start
