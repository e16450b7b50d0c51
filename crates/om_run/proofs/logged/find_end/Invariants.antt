use Rattle.std.proofs.Common.{◌≡◌, drop}
use Rattle.om_run.specs.Run.{end_of}
use Rattle.om_run.proofs.logged.find_end.Given as goal

abbrev pub invariant-loop-entry : goal.invariant-loop-entry
invariant-loop-entry l = end_of l.entries ≡ end_of (drop l.entry-index l.entries)
