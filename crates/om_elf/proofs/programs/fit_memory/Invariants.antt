use Rattle.std.proofs.Common.{◌≡◌, ◌+◌, ◌≤◌, drop}
use Rattle.om_elf.specs.Segments.{memory_of}
use Rattle.om_elf.proofs.programs.fit_memory.Given as goal

abbrev pub invariant-loop-program : goal.invariant-loop-program
invariant-loop-program l = record {
  total : l.total + memory_of (drop l.program-index l.programs) ≡ memory_of l.programs;
  small : l.total ≤ 33554432;
}
