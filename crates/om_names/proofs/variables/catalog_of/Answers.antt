use Rattle.std.proofs.Common.{map, ap, ◌∙◌}
use Rattle.std.proofs.lemmas.List.{take_all}
use Rattle.om_names.specs.ByName.{info_by}
use Rattle.om_names.proofs.variables.catalog_of.Goals as goal

pub returns : goal.returns
returns c = c.loop-seen.invariant ∙ ap (map info_by) (take_all c.loop-seen.seen-index c.args.list.now c.loop-seen-test.false)
