use Rattle.om_token.proofs.QuoteLemmas as lemmas
use Rattle.om_token.proofs.laws.one_spelling.Goals as goal

pub returns-clause-says : goal.returns-clause-says
returns-clause-says c = lemmas.says

pub returns-clause-alone : goal.returns-clause-alone
returns-clause-alone c = lemmas.alone

pub returns-clause-allowed : goal.returns-clause-allowed
returns-clause-allowed c = lemmas.allowed
