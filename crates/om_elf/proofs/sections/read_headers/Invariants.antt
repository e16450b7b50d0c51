use Rattle.std.proofs.Common.{◌≡◌}
use Rattle.om_elf.proofs.TableLemmas.{first_sections}
use Rattle.om_elf.proofs.sections.read_headers.Given as goal

abbrev pub invariant-loop-place : goal.invariant-loop-place
invariant-loop-place l = l.sections.items ≡ first_sections l.file l.header.e_shoff l.place
