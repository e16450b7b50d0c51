use Rattle.std.proofs.Common.{rules}
use Rattle.om_mem.proofs.pages.clear.Goals as goal

pub returns : goal.returns
returns c = c.fill.ensures.after (λ y is. search rules)
