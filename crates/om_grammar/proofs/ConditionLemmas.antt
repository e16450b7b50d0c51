-- Negations, conjunctions and disjunctions by their next token.
use Rattle.std.proofs.Common.{◌≡◌, ℕ, zero, suc, ◌<◌, ◌-◌, [], ◌∷◌, Option, Some, None, Ok, Err, refl, sym, ap, subst, ◌∙◌, arith}
use Rattle.om_token.specs.declared.terminal.Terminal.TheVariants as t
use Rattle.om_grammar.specs.declared.stop.Stop.{Stop}
use Rattle.om_grammar.specs.declared.stop.Stop.TheVariants as stop
use Rattle.om_grammar.specs.declared.cond_tree.CondTree.{CondTree}
use Rattle.om_grammar.specs.declared.cond_tree.CondTree.TheViews as c
use Rattle.om_grammar.specs.declared.aggregates.Aggregates.TheVariants as aggregates
use Rattle.om_grammar.specs.declared.found.Found.{Found}
use Rattle.om_grammar.specs.declared.found.Found.TheVariants as f
use Rattle.om_grammar.specs.Grammar.{Tokens, all_of, any_of}
use Rattle.om_grammar.specs.Parsers.{Step, Parser, and_then, ◌>>=◌, pure, found, passed, branched, branch, Reads}
use Rattle.om_grammar.specs.Reading.{offset_of, factor_at, neg_at, one_test, cond_over, truth, conjunction, conj, disjunction}
use Rattle.om_grammar.proofs.ListLemmas.{Left, left_more, left_err, left_done}
use Rattle.om_grammar.proofs.ConditionShrinks.{truth_shrinks, conj_shrinks}

-- ---- negations

pub neg_zero : (depth : ℕ) (tokens : Tokens) → depth ≡ 0 → neg_at depth tokens ≡ (Err stop.Deep, tokens)
unfolding neg_at
neg_zero zero tokens e = refl
neg_zero (suc depth) tokens e = absurd (omega arith)

abbrev behind_not : ℕ → ℕ → Parser Found
behind_not depth at = truth (neg_at depth) >>= λ x. pure (f.Truth (c.Not at x))

neg_over : (depth less : ℕ) (tokens : Tokens) → depth ≡ suc less → neg_at depth tokens ≡ branch (offset_of t.Not) (behind_not less) (one_test (cond_over (neg_at less)) (factor_at depth aggregates.Refused)) tokens
unfolding neg_at
neg_over depth less tokens e =
    ap (λ n. neg_at n tokens) e
    ∙ ap (λ n. branch (offset_of t.Not) (behind_not less) (one_test (cond_over (neg_at less)) (factor_at n aggregates.Refused)) tokens) (sym e)

pub neg_not : (depth : ℕ) (tokens : Tokens) (at : ℕ) → 0 < depth → found (offset_of t.Not) tokens ≡ Some at
    → neg_at depth tokens ≡ (truth (neg_at (depth - 1)) >>= λ x. pure (f.Truth (c.Not at x))) (passed tokens)
neg_not depth tokens at h e =
    neg_over depth (depth - 1) tokens (omega arith)
    ∙ ap (λ (seen : Option ℕ). branched seen (behind_not (depth - 1)) (one_test (cond_over (neg_at (depth - 1))) (factor_at depth aggregates.Refused)) tokens) e

pub neg_test : (depth : ℕ) (tokens : Tokens) → 0 < depth → found (offset_of t.Not) tokens ≡ None
    → neg_at depth tokens ≡ one_test (cond_over (neg_at (depth - 1))) (factor_at depth aggregates.Refused) tokens
neg_test depth tokens h e =
    neg_over depth (depth - 1) tokens (omega arith)
    ∙ ap (λ (seen : Option ℕ). branched seen (behind_not (depth - 1)) (one_test (cond_over (neg_at (depth - 1))) (factor_at depth aggregates.Refused)) tokens) e

go_stopped : (step : Step CondTree) (at : ℕ) (why : Stop) (rest : Tokens) → Reads step (Err why) rest → Reads {A = Found} (and_then step (λ x. pure (f.Truth (c.Not at x)))) (Err why) rest
go_stopped step at stop.NoMemory rest h = tt
go_stopped step at stop.Wrong rest h = ap (λ (s : Step CondTree). and_then s (λ x. pure (f.Truth (c.Not at x)))) h
go_stopped step at stop.Deep rest h = ap (λ (s : Step CondTree). and_then s (λ x. pure (f.Truth (c.Not at x)))) h

pub neg_stopped : (depth : ℕ) (tokens : Tokens) (at : ℕ) (why : Stop) (rest : Tokens) → 0 < depth → found (offset_of t.Not) tokens ≡ Some at
    → Reads (truth (neg_at (depth - 1)) (passed tokens)) (Err why) rest → Reads (neg_at depth tokens) (Err why) rest
neg_stopped depth tokens at why rest h e r =
    subst (λ (s : Step Found). Reads s (Err why) rest) (sym (neg_not depth tokens at h e)) (go_stopped (truth (neg_at (depth - 1)) (passed tokens)) at why rest r)

-- ---- conjunctions

module _ (depth : ℕ) (first : CondTree) (tokens : Tokens) where
  pub all_alone : found (offset_of t.And) tokens ≡ None → conjunction (neg_at depth) first tokens ≡ (Ok first, tokens)
  unfolding conjunction
  all_alone e = left_done (offset_of t.And) (λ _. truth (neg_at depth)) (truth_shrinks depth) (all_of first) [] tokens e

  pub all_begun : (s : ℕ) (x : CondTree) (rest : Tokens) → found (offset_of t.And) tokens ≡ Some s → truth (neg_at depth) (passed tokens) ≡ (Ok x, rest)
      → conjunction (neg_at depth) first tokens ≡ Left (offset_of t.And) (λ _. truth (neg_at depth)) (truth_shrinks depth) c.All (first ∷ x ∷ []) rest
  unfolding conjunction
  all_begun s x rest e h = left_more (offset_of t.And) (λ _. truth (neg_at depth)) (truth_shrinks depth) (all_of first) [] tokens s x rest e h

  pub all_stopped : (s : ℕ) (why : Stop) (rest : Tokens) → found (offset_of t.And) tokens ≡ Some s → Reads (truth (neg_at depth) (passed tokens)) (Err why) rest
      → Reads (conjunction (neg_at depth) first tokens) (Err why) rest
  unfolding conjunction
  all_stopped s why rest e h = left_err (offset_of t.And) (λ _. truth (neg_at depth)) (truth_shrinks depth) (all_of first) [] tokens s why rest e h

  -- ---- disjunctions

  pub any_alone : found (offset_of t.Or) tokens ≡ None → disjunction (neg_at depth) first tokens ≡ (Ok first, tokens)
  unfolding disjunction
  any_alone e = left_done (offset_of t.Or) (λ _. conj (neg_at depth)) (conj_shrinks depth) (any_of first) [] tokens e

  pub any_begun : (s : ℕ) (x : CondTree) (rest : Tokens) → found (offset_of t.Or) tokens ≡ Some s → conj (neg_at depth) (passed tokens) ≡ (Ok x, rest)
      → disjunction (neg_at depth) first tokens ≡ Left (offset_of t.Or) (λ _. conj (neg_at depth)) (conj_shrinks depth) c.Any (first ∷ x ∷ []) rest
  unfolding disjunction
  any_begun s x rest e h = left_more (offset_of t.Or) (λ _. conj (neg_at depth)) (conj_shrinks depth) (any_of first) [] tokens s x rest e h

  pub any_stopped : (s : ℕ) (why : Stop) (rest : Tokens) → found (offset_of t.Or) tokens ≡ Some s → Reads (conj (neg_at depth) (passed tokens)) (Err why) rest
      → Reads (disjunction (neg_at depth) first tokens) (Err why) rest
  unfolding disjunction
  any_stopped s why rest e h = left_err (offset_of t.Or) (λ _. conj (neg_at depth)) (conj_shrinks depth) (any_of first) [] tokens s why rest e h
