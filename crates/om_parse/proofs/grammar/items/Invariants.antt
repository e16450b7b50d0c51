use Rattle.std.proofs.Common.{◌≡◌, length}
use Rattle.om_token.specs.declared.terminal.Terminal.TheVariants as t
use Rattle.om_parse.specs.Reading.{item, items}
use Rattle.om_parse.proofs.ListLemmas.{Left, item_shrinks}
use Rattle.om_parse.proofs.grammar.items.Given as goal

abbrev pub invariant-commas : goal.invariant-commas
invariant-commas l = items l.fn.tokens ≡ Left t.Comma item item_shrinks (λ items. items) l.items l.tokens

abbrev pub decreases-commas : goal.decreases-commas
decreases-commas l = length l.tokens
