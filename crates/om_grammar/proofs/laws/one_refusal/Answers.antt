use Rattle.om_grammar.specs.Grammar.{IsQuery}
use Rattle.om_grammar.proofs.ParseLaws as laws
use Rattle.om_grammar.proofs.laws.one_refusal.Goals as goal

pub returns-clause-of_tokens : goal.returns-clause-of_tokens
returns-clause-of_tokens c = laws.one_place IsQuery

pub returns-clause-of_text : goal.returns-clause-of_text
returns-clause-of_text c = laws.one_refusal
