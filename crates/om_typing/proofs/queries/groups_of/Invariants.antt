use Rattle.std.proofs.Common.{◌≡◌, ◌++◌, length}
use Rattle.std.specs.List.{filter_map}
use Rattle.om_typing.specs.Names.{place_of}
use Rattle.om_typing.proofs.queries.groups_of.Given as goal

abbrev pub invariant-loop-rest : goal.invariant-loop-rest
invariant-loop-rest l = filter_map (place_of l.catalog l.query.tables) l.query.groups ≡ l.groups ++ filter_map (place_of l.catalog l.query.tables) l.rest

abbrev pub decreases-loop-rest : goal.decreases-loop-rest
decreases-loop-rest l = length l.rest
