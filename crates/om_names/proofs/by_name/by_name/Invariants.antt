use Rattle.std.proofs.Common.{◌≡◌, [], map, take}
use Rattle.std.specs.Prelude.{fold}
use Rattle.om_names.specs.ByName.{HasPlaces, put}
use Rattle.om_names.proofs.by_name.by_name.Given as goal

abbrev pub invariant-loop-one : goal.invariant-loop-one
invariant-loop-one l = record {
  list : l.them.list.items ≡ fold put [] (map (λ it. it.variable) (take l.one-index l.found));
  places : HasPlaces l.them;
}
