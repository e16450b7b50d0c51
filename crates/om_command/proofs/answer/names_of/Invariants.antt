use Rattle.std.proofs.Common.{◌≡◌, take}
use Rattle.om_command.specs.Answer.{names_of}
use Rattle.om_command.proofs.answer.names_of.Given as goal

-- the names of the outputs so far
abbrev pub invariant-loop-output : goal.invariant-loop-output
invariant-loop-output l = l.names ≡ names_of (take l.output-index l.outputs)
