use Rattle.std.proofs.Common.{◌∙◌}
use Rattle.om_mem.proofs.AcrossLemmas.{all-mapped}
use Rattle.om_mem.proofs.PageLemmas.{regions-laid}
use Rattle.om_mem.proofs.memory.Memory.is_mapped.Goals as goal

pub returns : goal.returns
returns c =
    rw (← c.self.view_is, regions-laid, ← c.as_slice.ensures.value) (c.may_all.ensures ∙ all-mapped _ c.args.address c.args.count)
