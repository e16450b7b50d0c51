use Rattle.std.proofs.Common.{◌≡◌, ◌++◌, drop}
use Rattle.om_elf.specs.Segments.{images_of}
use Rattle.om_elf.proofs.programs.read_segments.Given as goal

abbrev pub invariant-loop-program : goal.invariant-loop-program
invariant-loop-program l =
    images_of l.file l.programs ≡ l.segments.items ++ images_of l.file (drop l.program-index l.programs)
