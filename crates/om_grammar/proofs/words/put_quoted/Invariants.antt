use Rattle.std.proofs.Common.{◌≡◌, ◌++◌, take}
use Rattle.om_token.specs.Quotes.{quoted}
use Rattle.om_grammar.proofs.words.put_quoted.Given as goal

abbrev pub invariant-loop-byte : goal.invariant-loop-byte
invariant-loop-byte l = l.text ≡ l.initial.text ++ quoted l.quote (take l.byte-index l.said)
