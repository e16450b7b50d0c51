use Rattle.std.proofs.Common.{◌≡◌, length}
use Rattle.om_token.specs.declared.terminal.Terminal.TheVariants as t
use Rattle.om_grammar.specs.Reading.{offset_of, listed, sort_key}
use Rattle.om_grammar.proofs.ConditionShrinks.{sort_key_shrinks}
use Rattle.om_grammar.proofs.ListLemmas.{Left}
use Rattle.om_grammar.proofs.parts.sort_keys.Given as goal

abbrev pub invariant-commas : goal.invariant-commas
invariant-commas l = listed sort_key l.fn.tokens ≡ Left (offset_of t.Comma) (λ _. sort_key) sort_key_shrinks (λ keys. keys) l.keys l.tokens

abbrev pub decreases-commas : goal.decreases-commas
decreases-commas l = length l.tokens
