use Rattle.std.proofs.Common.{length}
use Rattle.om_token.proofs.TokenLaws.{UpTo}
use Rattle.om_token.proofs.tokenizer.tokens.Given as goal

abbrev pub invariant-loop-rest : goal.invariant-loop-rest
invariant-loop-rest l = UpTo l.text l.tokens l.rest

abbrev pub decreases-loop-rest : goal.decreases-loop-rest
decreases-loop-rest l = length l.rest
