use Rattle.std.proofs.Common.{◌≡◌, length}
use Rattle.om_token.specs.declared.terminal.Terminal.TheVariants as t
use Rattle.om_parse.specs.declared.tree.CondTree.TheVariants as c
use Rattle.om_parse.specs.Reading.{one_test, joined}
use Rattle.om_parse.proofs.ListLemmas.{Left, test_shrinks}
use Rattle.om_parse.proofs.grammar.joined.Given as goal

abbrev pub invariant-ands : goal.invariant-ands
invariant-ands l = joined l.fn.first l.fn.tokens ≡ Left t.And one_test test_shrinks c.All l.tests l.tokens

abbrev pub decreases-ands : goal.decreases-ands
decreases-ands l = length l.tokens
