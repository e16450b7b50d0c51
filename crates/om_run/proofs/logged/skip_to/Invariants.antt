use Rattle.std.proofs.Common.{◌≡◌, drop}
use Rattle.om_run.specs.Position.{from_step}
use Rattle.om_run.proofs.logged.skip_to.Given as goal

abbrev pub invariant-loop-entry : goal.invariant-loop-entry
invariant-loop-entry l = (l.skipped ≡ l.entry-index) × (from_step l.step l.entries ≡ from_step l.step (drop l.entry-index l.entries))
