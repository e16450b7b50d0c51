use Rattle.std.proofs.Common.{◌≡◌, ◌++◌, drop}
use Rattle.om_elf.specs.Segments.{spans_of}
use Rattle.om_elf.proofs.programs.read_spans.Given as goal

abbrev pub invariant-loop-program : goal.invariant-loop-program
invariant-loop-program l = spans_of l.programs ≡ l.spans.items ++ spans_of (drop l.program-index l.programs)
