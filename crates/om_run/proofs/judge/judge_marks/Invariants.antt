use Rattle.std.proofs.Common.{◌≡◌, drop}
use Rattle.om_log.specs.Grammar.{AreLawful}
use Rattle.om_run.specs.Departure.{departs_at_marks}
use Rattle.om_run.specs.Run.{marks_of}
use Rattle.om_run.proofs.judge.judge_marks.Given as goal

abbrev pub invariant-loop-entry : goal.invariant-loop-entry
invariant-loop-entry l =
    (departs_at_marks (marks_of l.entries l.at) l.at l.machine.state ≡ departs_at_marks (marks_of (drop l.entry-index l.entries) l.at) l.at l.machine.state)
    × AreLawful l.at (drop l.entry-index l.entries)
