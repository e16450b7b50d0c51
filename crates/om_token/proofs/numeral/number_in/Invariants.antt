use Rattle.std.proofs.Common.{◌≡◌, ◌<◌, ◌^◌, length}
use Rattle.om_token.specs.Numerals as spec
use Rattle.om_token.proofs.NumberLemmas.{number_from}
use Rattle.om_token.proofs.numeral.number_in.Given as goal

abbrev pub invariant-loop-byte : goal.invariant-loop-byte
invariant-loop-byte l = (spec.number_in l.base l.digits ≡ number_from l.base l.value l.rest) × (l.value < 2 ^ 64)

abbrev pub decreases-loop-byte : goal.decreases-loop-byte
decreases-loop-byte l = length l.rest
