-- Parsers leave no more tokens than they were given.
use Rattle.std.proofs.Common.{ℕ}
use Rattle.om_grammar.specs.declared.expr_tree.Addend.{Addend}
use Rattle.om_grammar.specs.declared.expr_tree.Factor.{Factor}
use Rattle.om_grammar.specs.declared.expr_tree.Sign.{Sign}
use Rattle.om_grammar.specs.declared.expr_tree.Scale.{Scale}
use Rattle.om_grammar.specs.declared.aggregates.Aggregates.{Aggregates}
use Rattle.om_grammar.specs.Grammar.{addend, factor, IsExpr, IsTerm, IsFactor}
use Rattle.om_grammar.specs.Parsers.{Parser, ◌>>=◌, pure}
use Rattle.om_grammar.specs.Reading as r
use Rattle.om_grammar.proofs.ListLemmas.{Shrinks}
use Rattle.om_grammar.proofs.Runs.{map_run, shrinks_of}
use Rattle.om_grammar.specs.declared.aggregates.Aggregates.TheVariants as aggregates
use Rattle.om_grammar.specs.Grammar.{IsValue}
use Rattle.om_grammar.proofs.ReadsExpressions.{expr_over_runs, IsScaled, scaled, IsAdded, added, term_runs}
use Rattle.om_grammar.proofs.ReadsFactors.{factor_runs, expr_runs}

pub factor_shrinks : (depth : ℕ) (g : Aggregates) → Shrinks (r.factor_at depth g)
factor_shrinks depth g = shrinks_of depth (r.factor_at depth g) (IsFactor g) (factor_runs depth g)

pub expr_shrinks : (depth : ℕ) (g : Aggregates) → Shrinks (r.expr depth g)
expr_shrinks depth g = shrinks_of depth (r.expr depth g) (IsExpr g) (expr_runs depth g)

-- a factor of a product behind its operator
abbrev pub scaled_factor : ℕ → Aggregates → ℕ × Scale → Parser Factor
scaled_factor depth g s = r.factor_at depth g >>= λ x. pure (factor s.0 s.1 x)

pub scaled_shrinks : (depth : ℕ) (g : Aggregates) (s : ℕ × Scale) → Shrinks (scaled_factor depth g s)
scaled_shrinks depth g s =
    shrinks_of depth (scaled_factor depth g s) (IsScaled depth g (r.factor_at depth g) (factor_runs depth g) s)
    (map_run depth (r.factor_at depth g) (λ x. factor s.0 s.1 x) (IsFactor g) (IsScaled depth g (r.factor_at depth g) (factor_runs depth g) s) (λ u x h. scaled h) (factor_runs depth g))

-- a term of a sum behind its sign
abbrev pub added_term : ℕ → Aggregates → ℕ × Sign → Parser Addend
added_term depth g s = r.term (r.factor_at depth g) >>= λ x. pure (addend s.0 s.1 x)

pub added_shrinks : (depth : ℕ) (g : Aggregates) (s : ℕ × Sign) → Shrinks (added_term depth g s)
added_shrinks depth g s =
    shrinks_of depth (added_term depth g s) (IsAdded depth g (r.factor_at depth g) (factor_runs depth g) s)
    (map_run depth (r.term (r.factor_at depth g)) (λ x. addend s.0 s.1 x) (IsTerm g) (IsAdded depth g (r.factor_at depth g) (factor_runs depth g) s) (λ u x h. added h)
    (term_runs depth g (r.factor_at depth g) (factor_runs depth g)))

-- an expression without aggregates behind a comma
pub value_shrinks : (depth s : ℕ) → Shrinks (r.value depth)
value_shrinks depth s = shrinks_of depth (r.value depth) IsValue (expr_over_runs depth aggregates.Refused (r.factor_at depth aggregates.Refused) (factor_runs depth aggregates.Refused))
