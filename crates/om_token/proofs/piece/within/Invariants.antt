use Rattle.std.proofs.Common.{length}
use Rattle.om_token.proofs.PieceLemmas.{Passed}
use Rattle.om_token.proofs.piece.within.Given as goal

abbrev pub invariant-loop-byte : goal.invariant-loop-byte
invariant-loop-byte l = Passed l.quote l.text l.rest

abbrev pub decreases-loop-byte : goal.decreases-loop-byte
decreases-loop-byte l = length l.rest
