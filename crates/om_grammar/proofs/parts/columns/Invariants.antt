use Rattle.std.proofs.Common.{◌≡◌, length}
use Rattle.om_token.specs.declared.terminal.Terminal.TheVariants as t
use Rattle.om_grammar.specs.Reading.{offset_of, listed, column}
use Rattle.om_grammar.proofs.ConditionShrinks.{column_shrinks}
use Rattle.om_grammar.proofs.ListLemmas.{Left}
use Rattle.om_grammar.proofs.parts.columns.Given as goal

abbrev pub invariant-commas : goal.invariant-commas
invariant-commas l = listed column l.fn.tokens ≡ Left (offset_of t.Comma) (λ _. column) column_shrinks (λ columns. columns) l.columns l.tokens

abbrev pub decreases-commas : goal.decreases-commas
decreases-commas l = length l.tokens
