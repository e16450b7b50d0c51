use Rattle.std.proofs.Common.{◌-◌}
use Rattle.om_record.specs.Progress.{IsAt, moment, entries_before}
use Rattle.om_record.proofs.making.record_run.Given as goal

abbrev pub invariant-loop-writer : goal.invariant-loop-writer
invariant-loop-writer l =
    IsAt l.elf l.input l.limit l.process.meter (moment l.process.machine.state l.process.host)
    (entries_before l.elf l.input l.limit l.process.meter) l.writer l.exit

abbrev pub decreases-loop-writer : goal.decreases-loop-writer
decreases-loop-writer l = l.limit - l.process.meter
