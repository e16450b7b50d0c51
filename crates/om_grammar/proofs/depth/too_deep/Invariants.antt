use Rattle.std.proofs.Common.{◌≡◌, ◌≤◌, ℕ, drop}
use Rattle.om_grammar.specs.Grammar.{Tokens}
use Rattle.om_grammar.specs.Counts.{first_past}
use Rattle.om_grammar.proofs.depth.too_deep.Given as goal

-- what the tokens that are left tell, behind so many open parentheses and so long a run
pub record IsLeft (tokens rest : Tokens) (parens run : ℕ) : Type 0 where
  pub same : first_past 0 0 tokens ≡ first_past parens run rest
  pub few : parens ≤ 64
  pub short : run ≤ 64

abbrev pub invariant-loop-token : goal.invariant-loop-token
invariant-loop-token l = IsLeft l.tokens (drop l.token-index l.tokens) l.parens l.run
