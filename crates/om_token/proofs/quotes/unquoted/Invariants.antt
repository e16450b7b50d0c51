use Rattle.std.proofs.Common.{◌≡◌, ◌++◌, length}
use Rattle.om_token.specs.Quotes.{unquoted}
use Rattle.om_token.proofs.quotes.unquoted.Given as goal

abbrev pub invariant-loop-byte : goal.invariant-loop-byte
invariant-loop-byte l = l.text ++ unquoted l.quote l.rest ≡ unquoted l.quote l.inside

abbrev pub decreases-loop-byte : goal.decreases-loop-byte
decreases-loop-byte l = length l.rest
