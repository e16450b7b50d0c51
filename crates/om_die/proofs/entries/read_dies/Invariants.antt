use Rattle.std.proofs.Common.{length}
use Rattle.om_die.specs.AbbreviationIndex.{find_in}
use Rattle.om_die.proofs.DieLaws.{IsAt}
use Rattle.om_die.proofs.entries.read_dies.Given as goal

abbrev pub invariant-loop-rest : goal.invariant-loop-rest
invariant-loop-rest l = IsAt l.context (find_in l.table) l.left l.at l.bytes l.dies l.depth l.rest

abbrev pub decreases-loop-rest : goal.decreases-loop-rest
decreases-loop-rest l = length l.rest
