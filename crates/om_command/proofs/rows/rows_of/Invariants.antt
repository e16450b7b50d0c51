use Rattle.std.proofs.Common.{◌≡◌, ◌-◌, ◌≤◌, None}
use Rattle.om_names.specs.Known.{told_by}
use Rattle.om_run.specs.Departure.{first_departure}
use Rattle.om_run.specs.Run.{below, end_of}
use Rattle.om_command.specs.Answer.{kept_of}
use Rattle.om_command.specs.Rows.{rows_before}
use Rattle.om_command.proofs.rows.rows_of.Given as goal

-- the run is the same, it didn't depart so far, and the rows so far are kept
abbrev pub invariant-loop-rows : goal.invariant-loop-rows
invariant-loop-rows l = record {
  entries : l.replay.entries ≡ l.fn.replay.entries;
  first : l.replay.first ≡ l.fn.replay.first;
  within : l.replay.step ≤ (end_of l.fn.replay.entries).step;
  going : first_departure l.fn.replay.entries l.fn.replay.first (below l.replay.step) ≡ None;
  kept : l.rows ≡ kept_of l.condition l.outputs (rows_before (told_by l.debug) l.fn.replay.entries l.fn.replay.first l.replay.step);
  metered : l.meter ≡ l.replay.step;
}

abbrev pub decreases-loop-rows : goal.decreases-loop-rows
decreases-loop-rows l = (end_of l.replay.entries).step - l.replay.step
