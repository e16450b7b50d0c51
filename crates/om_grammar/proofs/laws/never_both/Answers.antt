use Rattle.om_grammar.specs.Grammar.{IsQuery}
use Rattle.om_grammar.proofs.ParseLaws as laws
use Rattle.om_grammar.proofs.laws.never_both.Goals as goal

pub returns-clause-of_tokens : goal.returns-clause-of_tokens
returns-clause-of_tokens c = λ tokens rest query h g. laws.never_both_of_tokens IsQuery tokens rest query g h

pub returns-clause-of_text : goal.returns-clause-of_text
returns-clause-of_text c = laws.never_both
