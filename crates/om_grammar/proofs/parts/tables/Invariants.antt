use Rattle.std.proofs.Common.{◌≡◌, length}
use Rattle.om_token.specs.declared.terminal.Terminal.TheVariants as t
use Rattle.om_grammar.specs.Reading.{offset_of, listed, table}
use Rattle.om_grammar.proofs.ConditionShrinks.{table_shrinks}
use Rattle.om_grammar.proofs.ListLemmas.{Left}
use Rattle.om_grammar.proofs.parts.tables.Given as goal

abbrev pub invariant-commas : goal.invariant-commas
invariant-commas l = listed table l.fn.tokens ≡ Left (offset_of t.Comma) (λ _. table) table_shrinks (λ tables. tables) l.tables l.tokens

abbrev pub decreases-commas : goal.decreases-commas
decreases-commas l = length l.tokens
