use Rattle.om_mem.proofs.PageLemmas.{regions-laid}
use Rattle.om_mem.proofs.memory.Memory.may_write.Goals as goal

pub returns : goal.returns
returns c = rw (← c.self.view_is, regions-laid, ← c.as_slice.ensures.value) c.are_writable.ensures
