use Rattle.std.proofs.Common.{◌≡◌, true, length}
use Rattle.om_line.specs.Files.{behind_strings}
use Rattle.om_line.proofs.files.behind_strings.Given as goal

abbrev pub invariant-loop-byte : goal.invariant-loop-byte
invariant-loop-byte l = behind_strings true l.fn.bytes ≡ behind_strings l.begins l.rest

abbrev pub decreases-loop-byte : goal.decreases-loop-byte
decreases-loop-byte l = length l.rest
