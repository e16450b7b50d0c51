use Rattle.std.proofs.Common.{[], ◌++◌, reverse, take}
use Rattle.std.specs.Prelude.{filter_map}
use Rattle.om_names.specs.Above.{placed_behind}
use Rattle.om_names.specs.FoundList.{found_at}
use Rattle.om_names.proofs.WalkLemmas.{IsStack, ToCome}
use Rattle.om_names.proofs.found.add_unit.Given as goal

abbrev pub invariant-loop-die : goal.invariant-loop-die
invariant-loop-die l = record {
  come : ToCome (found_at l.names l.ranges l.base) l.die-items l.die-index l.found (l.initial.found ++ filter_map (found_at l.names l.ranges l.base) (placed_behind [] l.die-items));
  stack : IsStack l.names l.ranges l.base (reverse l.stack.items) (reverse (take l.die-index l.die-items));
}
