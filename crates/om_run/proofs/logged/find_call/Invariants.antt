use Rattle.std.proofs.Common.{◌≡◌, drop}
use Rattle.om_run.specs.Run.{due}
use Rattle.om_run.proofs.logged.find_call.Given as goal

abbrev pub invariant-loop-entry : goal.invariant-loop-entry
invariant-loop-entry l = due l.entries l.at ≡ due (drop l.entry-index l.entries) l.at
