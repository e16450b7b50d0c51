-- When a text says what a tree says.
use Rattle.std.specs.Prelude.{ℕ, List}
use Rattle.om_token.specs.Tokens.{AreTokens}
use Rattle.om_grammar.specs.declared.tree.Query.{Query}
use Rattle.om_grammar.specs.declared.fault.ParseFault.{ParseFault}
use Rattle.om_grammar.specs.declared.fault.ParseFault.TheVariants as f
use Rattle.om_grammar.specs.Grammar.{Tokens, IsQuery}
use Rattle.om_grammar.specs.Refusals.{IsRefusal}
use Rattle.om_grammar.specs.Sameness.{SameQuery}

-- a text has tokens that have a tree, and it is the same as this one apart from offsets
pub record Spells (text : List ℕ) (query : Query) : Type 0 where
  pub tokens : Tokens
  pub tree : Query
  pub cut : AreTokens text tokens
  pub is_tree : IsQuery tokens tree
  pub same : SameQuery query tree

-- a text goes past the limits on length or depth, and this fault tells it
pub data IsPastLimits (text : List ℕ) : ParseFault → Type 0 where
  wide : {length : ℕ} → IsRefusal text (f.TooWide length) → IsPastLimits text (f.TooWide length)
  deep : {at : ℕ} → IsRefusal text (f.TooDeep at) → IsPastLimits text (f.TooDeep at)
