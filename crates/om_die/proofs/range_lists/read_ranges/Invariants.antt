use Rattle.std.proofs.Common.{◌≡◌, ◌++◌, drop, length}
use Rattle.std.specs.Option.{option_map}
use Rattle.om_die.specs.RangeLists.{range_list}
use Rattle.om_die.proofs.range_lists.read_ranges.Given as goal

abbrev pub invariant-loop-begin : goal.invariant-loop-begin
invariant-loop-begin l = range_list l.fn.base (drop l.at l.section) ≡ option_map (λ later. l.ranges ++ later) (range_list l.base l.rest)

abbrev pub decreases-loop-begin : goal.decreases-loop-begin
decreases-loop-begin l = length l.rest
