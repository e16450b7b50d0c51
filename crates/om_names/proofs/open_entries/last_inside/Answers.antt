use Rattle.std.proofs.Common.{◌∙◌}
use Rattle.om_names.proofs.WalkLemmas.{inside_none, inside_some}
use Rattle.om_names.proofs.open_entries.last_inside.Goals as goal

pub returns-in-Some : goal.returns-in-Some
returns-in-Some c = c.again.ensures ∙ inside_some c.in-Some.last.now c.args.stack.now c.in-Some.ensures.value

pub returns-in-None : goal.returns-in-None
returns-in-None c = c.nothing.ensures ∙ inside_none c.args.stack.now c.in-None.ensures.value
