use Rattle.om_grammar.proofs.ParseLaws as laws
use Rattle.om_grammar.proofs.laws.one_tree.Goals as goal

pub returns-clause-of_tokens : goal.returns-clause-of_tokens
returns-clause-of_tokens c = laws.one_tree_of_tokens

pub returns-clause-of_text : goal.returns-clause-of_text
returns-clause-of_text c = laws.one_tree
