use Rattle.std.proofs.Common.{◌≡◌, map, take}
use Rattle.om_names.specs.ByName.{info_by}
use Rattle.om_names.proofs.variables.catalog_of.Given as goal

abbrev pub invariant-loop-seen : goal.invariant-loop-seen
invariant-loop-seen l = l.catalog ≡ map info_by (take l.seen-index l.list)
