use Rattle.std.proofs.Common.{refl}
use Rattle.om_mem.proofs.PageLemmas.{regions-laid, whole-laid}
use Rattle.om_mem.proofs.memory.Memory.pages.Goals as goal

pub returns-clause-count : goal.returns-clause-count
returns-clause-count c =
    rw (← c.self.view_is, regions-laid, c.len.ensures, c.self.inside.bytes.ok.0, c.self.invariant.laid.whole) refl

pub returns-clause-whole : goal.returns-clause-whole
returns-clause-whole c =
    rw (← c.self.view_is) (λ address. rw (regions-laid) (whole-laid c.self.inside.regions.items c.self.inside.bytes.items address c.self.invariant.laid.whole))
