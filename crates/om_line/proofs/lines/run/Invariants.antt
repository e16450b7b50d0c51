use Rattle.std.proofs.Common.{◌≡◌, ◌&&◌, length}
use Rattle.std.specs.Prelude.{All}
use Rattle.om_line.specs.Instructions.{instructions_in}
use Rattle.om_line.specs.Sharing.{IsStart, are_relative}
use Rattle.om_line.proofs.RunLemmas.{IsRun}
use Rattle.om_line.proofs.lines.run.Given as goal

abbrev pub invariant-loop-rest : goal.invariant-loop-rest
invariant-loop-rest l = record {
  run : IsRun l.head l.fn.files l.program l.running.registers l.running.rows l.running.files l.rest;
  starts : All (IsStart l.head l.program) l.running.starts;
  relative : are_relative (instructions_in l.head l.program) ≡ (l.running.is_relative && are_relative (instructions_in l.head l.rest));
}

abbrev pub decreases-loop-rest : goal.decreases-loop-rest
decreases-loop-rest l = length l.rest
