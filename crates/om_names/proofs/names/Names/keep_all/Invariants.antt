use Rattle.std.proofs.Common.{◌++◌, take, List}
use Rattle.om_die.specs.declared.die.Die.{Die}
use Rattle.om_names.specs.Names.{AreNames}
use Rattle.om_names.proofs.names.Names.keep_all.Given as goal

abbrev pub invariant-loop-die : goal.invariant-loop-die
invariant-loop-die l = (before : List Die) → AreNames before l.initial.self → AreNames (before ++ take l.die-index l.dies) l.self
