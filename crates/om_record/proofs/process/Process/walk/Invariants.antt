use Rattle.std.proofs.Common.{◌≡◌, ◌≤◌, ◌-◌}
use Rattle.om_record.specs.Progress.{IsWalk}
use Rattle.om_record.proofs.process.Process.walk.Given as goal

abbrev pub invariant-loop-self : goal.invariant-loop-self
invariant-loop-self l = record {
  walk : IsWalk l.initial.self.machine.state (l.self.meter - l.initial.self.meter) l.self.machine.state;
  later : l.initial.self.meter ≤ l.self.meter;
  within : l.self.meter ≤ l.until;
  host : l.self.host ≡ l.initial.self.host;
}

abbrev pub decreases-loop-self : goal.decreases-loop-self
decreases-loop-self l = l.until - l.self.meter
