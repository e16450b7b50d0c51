use Rattle.std.proofs.Common.{◌≡◌, length}
use Rattle.om_line.specs.Files.{files_in}
use Rattle.om_line.proofs.ProgramLemmas.{in_front}
use Rattle.om_line.proofs.files.files_in.Given as goal

abbrev pub invariant-loop-file : goal.invariant-loop-file
invariant-loop-file l = files_in l.bytes ≡ in_front l.files (files_in l.rest)

abbrev pub decreases-loop-file : goal.decreases-loop-file
decreases-loop-file l = length l.rest
