use Rattle.std.proofs.Common.{◌≡◌}
use Rattle.om_elf.proofs.TableLemmas.{first_programs}
use Rattle.om_elf.proofs.programs.read_programs.Given as goal

abbrev pub invariant-loop-place : goal.invariant-loop-place
invariant-loop-place l = l.programs.items ≡ first_programs l.file l.header.e_phoff l.place
