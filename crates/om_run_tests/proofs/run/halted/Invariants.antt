use Rattle.std.proofs.Common.{◌-◌}
use Rattle.om_run_tests.proofs.run.halted.Given as goal

abbrev pub decreases-loop-replay : goal.decreases-loop-replay
decreases-loop-replay l = l.most - l.meter
