use Rattle.std.proofs.Common.{◌≡◌, reverse, length}
use Rattle.om_names.specs.OpenEntries.{closed}
use Rattle.om_names.proofs.open_entries.close.Given as goal

abbrev pub invariant-loop-last : goal.invariant-loop-last
invariant-loop-last l = closed l.depth (reverse l.stack.items) ≡ closed l.depth (reverse l.initial.stack.items)

abbrev pub decreases-loop-last : goal.decreases-loop-last
decreases-loop-last l = length l.stack.items
