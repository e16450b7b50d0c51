use Rattle.std.proofs.Common.{◌≡◌, length}
use Rattle.om_token.specs.declared.terminal.Terminal.TheVariants as t
use Rattle.om_grammar.specs.Reading.{offset_of, listed, value}
use Rattle.om_grammar.proofs.Shrinks.{value_shrinks}
use Rattle.om_grammar.proofs.ListLemmas.{Left}
use Rattle.om_grammar.proofs.predicates.values.Given as goal

abbrev pub invariant-commas : goal.invariant-commas
invariant-commas l = listed (value l.depth) l.fn.tokens ≡ Left (offset_of t.Comma) (λ _. value l.depth) (value_shrinks l.depth) (λ values. values) l.values l.tokens

abbrev pub decreases-commas : goal.decreases-commas
decreases-commas l = length l.tokens
