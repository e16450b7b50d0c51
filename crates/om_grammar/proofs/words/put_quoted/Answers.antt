use Rattle.std.proofs.Common.{zero, get_or, refl, sym, ◌∙◌}
use Rattle.std.proofs.lemmas.List.{append-nil}
use Rattle.om_token.specs.Quotes.{quoted}
use Rattle.om_grammar.specs.Words.{said}
use Rattle.om_grammar.proofs.WordLemmas.{grown, grown_all}
use Rattle.om_grammar.proofs.words.put_quoted.Goals as goal

pub loop-byte-init : goal.loop-byte-init
unfolding quoted
loop-byte-init c = sym (append-nil c.args.text.now)

pub loop-byte-preserved : goal.loop-byte-preserved
unfolding quoted
loop-byte-preserved c = c.in_ok-put_said.ensures ∙ grown (said c.args.quote) c.args.text.now c.loop-byte.text c.args.said.now c.loop-byte.byte-index (get_or c.args.said.now c.loop-byte.byte-index zero) zero c.loop-byte-test.true refl c.loop-byte.invariant

pub returns : goal.returns
unfolding quoted
returns c = grown_all (said c.args.quote) c.args.text.now c.loop-byte.text c.args.said.now c.loop-byte.byte-index c.loop-byte-test.false c.loop-byte.invariant
