use Rattle.om_grammar.proofs.TotalLaws as laws
use Rattle.om_grammar.proofs.laws.tree_or_refusal.Goals as goal

pub returns : goal.returns
returns c = laws.tree_or_refusal
