use Rattle.std.proofs.Common.{map, ap, ◌∙◌}
use Rattle.std.proofs.lemmas.List.{take_all}
use Rattle.om_names.specs.ByName.{held_by}
use Rattle.om_names.proofs.variables.fixed_of.Goals as goal

pub returns : goal.returns
returns c = c.loop-seen.invariant ∙ ap (map held_by) (take_all c.loop-seen.seen-index c.args.list.now c.loop-seen-test.false)
