-- The text of a tree has a tree again, and it is the same.
use Rattle.std.proofs.Common.{◌≡◌, ℕ, ◌≤◌, List, length, subst, ◌⊎◌, inl, inr, ⊎_elim}
use Rattle.std.proofs.lemmas.Bool.Decides.{leb_tells}
use Rattle.om_token.proofs.TokenLaws.{one_token_list}
use Rattle.om_grammar.specs.declared.tree.Query.{Query}
use Rattle.om_grammar.specs.declared.fault.ParseFault.{ParseFault}
use Rattle.om_grammar.specs.declared.fault.ParseFault.TheVariants as f
use Rattle.om_grammar.specs.Grammar.{Tokens, IsQuery}
use Rattle.om_grammar.specs.Depth.{IsShallow, IsTooDeep}
use Rattle.om_grammar.specs.Refusals.{HasTree, IsRefusal}
use Rattle.om_grammar.specs.Sameness.{SameQuery}
use Rattle.om_grammar.specs.Spelling.{Spells, IsPastLimits}
use Rattle.om_grammar.specs.Words.{query_text}
use Rattle.om_grammar.proofs.DepthLaws.{shallow_or_deep}
use Rattle.om_grammar.proofs.ParseLaws.{one_tree_of_tokens}
use Rattle.om_grammar.proofs.SpelledQueries.{spells}

-- what the text of a tree spells
spelled : (text : List ℕ) (query : Query) → HasTree text query → Spells (query_text query) query
spelled text query h = spells text h.tokens query h.cut h.tree

abbrev IsReadAgain : List ℕ → Type 0
IsReadAgain text = ((again : Query) × HasTree text again) ⊎ ((fault : ParseFault) × IsPastLimits text fault)

read_again : (text : List ℕ) (query : Query) (s : Spells text query) → length text ≤ 16384 → IsShallow s.tokens ⊎ ((at : ℕ) × IsTooDeep s.tokens at) → IsReadAgain text
read_again text query s short (inl shallow) = inl (s.tree, record { tokens = s.tokens; short = short; cut = s.cut; shallow = shallow; tree = s.is_tree })
read_again text query s short (inr x) = inr (f.TooDeep x.0, IsPastLimits.deep (IsRefusal.deep short s.cut x.1))

pub again : (text : List ℕ) (query : Query) → HasTree text query → IsReadAgain (query_text query)
again text query h =
    let s = spelled text query h in
    ⊎_elim (λ g. read_again (query_text query) query s g.1 (shallow_or_deep s.tokens)) (λ g. inr (f.TooWide (length (query_text query)), IsPastLimits.wide (IsRefusal.wide g.1)))
    (leb_tells (length (query_text query)) 16384)

pub same : (text : List ℕ) (query again : Query) → HasTree text query → HasTree (query_text query) again → SameQuery query again
same text query again h g =
    let s = spelled text query h in
    let tokens : s.tokens ≡ g.tokens = one_token_list (query_text query) s.tokens g.tokens s.cut g.cut in
    let tree : s.tree ≡ again = one_tree_of_tokens g.tokens s.tree again (subst (λ (l : Tokens). IsQuery l s.tree) tokens s.is_tree) g.tree in
    subst (λ (x : Query). SameQuery query x) tree s.same
