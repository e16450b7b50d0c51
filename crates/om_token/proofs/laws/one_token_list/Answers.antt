use Rattle.om_token.proofs.TokenLaws as laws
use Rattle.om_token.proofs.laws.one_token_list.Goals as goal

pub returns-clause-tokens : goal.returns-clause-tokens
returns-clause-tokens c = laws.one_token_list

pub returns-clause-place : goal.returns-clause-place
returns-clause-place c = laws.one_bad_place

pub returns-clause-never_both : goal.returns-clause-never_both
returns-clause-never_both c = laws.not_both_cut

pub returns-clause-tokens_or_none : goal.returns-clause-tokens_or_none
returns-clause-tokens_or_none c = laws.tokens_or_none
