use Rattle.std.proofs.Common.{◌≡◌, ◌++◌, drop}
use Rattle.std.specs.List.{AllByRecursion}
use Rattle.om_log.specs.Grammar.{spellings}
use Rattle.om_log.specs.Writing.{HasShortWrites}
use Rattle.om_log.proofs.writer.push_all.Given as goal

abbrev pub invariant-loop-entry : goal.invariant-loop-entry
invariant-loop-entry l =
    (l.writer.start ≡ l.initial.writer.start) × AllByRecursion HasShortWrites (drop l.entry-index l.entries)
    × (l.writer.body ++ spellings (drop l.entry-index l.entries) ≡ l.initial.writer.body ++ spellings l.entries)
