use Rattle.om_mem.specs.Contents.{low_bytes}
use Rattle.om_step.proofs.FrameLemmas.{write_elsewhere, write_rights}
use Rattle.om_step.proofs.machine.Machine.store.Goals as goal

pub returns-clause-bytes : goal.returns-clause-bytes
returns-clause-bytes c =
    λ a apart.
    rw (c.if-not-write.ensures.contents, ← c.self.view_is) (write_elsewhere c.self.inside.memory.contents c.args.address c.args.count c.args.value a c.ranges.address.fits apart)

pub returns-clause-rights : goal.returns-clause-rights
returns-clause-rights c =
    rw (c.if-not-write.ensures.contents, ← c.self.view_is) (write_rights c.self.inside.memory.contents c.args.address (low_bytes c.args.count c.args.value))
