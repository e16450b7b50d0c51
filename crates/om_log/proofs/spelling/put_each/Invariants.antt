use Rattle.std.proofs.Common.{◌≡◌, ◌++◌, length}
use Rattle.std.specs.List.{AllByRecursion, flat_map}
use Rattle.om_log.specs.Grammar.{chunk_spelling}
use Rattle.om_log.specs.Fronts.{IsFront}
use Rattle.om_log.specs.Writing.{IsShort}
use Rattle.om_log.proofs.spelling.put_each.Given as goal

abbrev pub invariant-loop-write : goal.invariant-loop-write
invariant-loop-write l =
    IsFront l.initial.bytes.items l.bytes.items × AllByRecursion IsShort l.rest
    × (l.bytes.items ++ flat_map chunk_spelling l.rest ≡ l.initial.bytes.items ++ flat_map chunk_spelling l.writes)

abbrev pub decreases-loop-write : goal.decreases-loop-write
decreases-loop-write l = length l.rest
