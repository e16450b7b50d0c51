use Rattle.std.proofs.Common.{◌≡◌, ℕ, List, ◌++◌, length}
use Rattle.std.specs.Str.{bytes_eq}
use Rattle.om_token.specs.Quotes.{unquoted}
use Rattle.om_parse.proofs.identifier.behind_said.Given as goal

abbrev pub invariant-loop-bytes : goal.invariant-loop-bytes
invariant-loop-bytes l = (more : List ℕ) → bytes_eq (unquoted 34 l.inside) (l.bytes ++ more) ≡ bytes_eq (unquoted 34 l.initial.inside) (l.initial.bytes ++ more)

abbrev pub decreases-loop-bytes : goal.decreases-loop-bytes
decreases-loop-bytes l = length l.bytes
