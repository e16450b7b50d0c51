use Rattle.std.proofs.Common.{◌≡◌, length}
use Rattle.om_token.specs.declared.terminal.Terminal.TheVariants as t
use Rattle.om_grammar.specs.Reading.{offset_of, listed, item}
use Rattle.om_grammar.proofs.ConditionShrinks.{item_shrinks}
use Rattle.om_grammar.proofs.ListLemmas.{Left}
use Rattle.om_grammar.proofs.parts.items.Given as goal

abbrev pub invariant-commas : goal.invariant-commas
invariant-commas l = listed (item l.depth) l.fn.tokens ≡ Left (offset_of t.Comma) (λ _. item l.depth) (item_shrinks l.depth) (λ items. items) l.items l.tokens

abbrev pub decreases-commas : goal.decreases-commas
decreases-commas l = length l.tokens
