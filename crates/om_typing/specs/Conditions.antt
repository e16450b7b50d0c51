-- What is wrong with a condition: SQL-92, sections 8.2 to 8.12.
use Rattle.std.specs.Prelude.{ℕ, Bool, true, false, ◌&&◌, List, [], ◌∷◌, ◌++◌, map, is_some, Option, Some, None, Result, Ok, Err}
use Rattle.std.specs.List.{flat_map, list_any, list_all}
use Rattle.om_grammar.specs.declared.cond_tree.CondTree.{CondTree}
use Rattle.om_grammar.specs.declared.cond_tree.CondTree.TheFolds.{fold-CondTree}
use Rattle.om_grammar.specs.declared.cond_tree.CondTree.TheOpen.{CondTree-F}
use Rattle.om_grammar.specs.declared.cond_tree.Predicate.{Predicate}
use Rattle.om_grammar.specs.declared.cond_tree.Predicate.TheVariants as p
use Rattle.om_grammar.specs.declared.expr_tree.ExprTree.{ExprTree}
use Rattle.om_value.specs.Kinds.{compare_kinds}
use Rattle.om_value.specs.declared.kind.Kind.{Kind}
use Rattle.om_value.specs.declared.kind.Wrong.{Wrong}
use Rattle.om_typing.specs.Judging.{Judgement, judged}
use Rattle.om_typing.specs.Mistakes.{mistake_if}
use Rattle.om_typing.specs.Names.{Scope}
use Rattle.om_typing.specs.declared.mistake.Mistake.{Mistake}
use Rattle.om_typing.specs.declared.mistake.Rule.TheVariants as rule

abbrev pub is_refused : Result (Unit {0}) Wrong → Bool
is_refused (Ok nothing) = false
is_refused (Err wrong) = true

-- two kinds are there, and can't be compared
abbrev pub clash : Option Kind → Option Kind → Bool
clash (Some one) (Some other) = is_refused (compare_kinds one other)
clash (Some one) None = false
clash None other = false

-- one kind and each of others are there, and it can't be compared with one of them
abbrev pub clashes : Option Kind → List (Option Kind) → Bool
clashes one others = (is_some one && list_all is_some others) && list_any (clash one) others

abbrev pub judged_freely : Scope → ExprTree → Judgement
judged_freely scope tree = judged scope tree false

abbrev pub kind_in : Scope → ExprTree → Option Kind
kind_in scope tree = (judged_freely scope tree).judged.kind

abbrev pub mistakes_in : Scope → ExprTree → List Mistake
mistakes_in scope tree = (judged_freely scope tree).mistakes

-- a predicate at a place compares one expression with others
abbrev pub compared_mistakes : Scope → ℕ → ExprTree → List ExprTree → List Mistake
compared_mistakes scope at one others =
    mistakes_in scope one ++ (flat_map (mistakes_in scope) others ++ mistake_if (clashes (kind_in scope one) (map (kind_in scope) others)) at rule.Clash)

unfoldable pub predicate_mistakes : Scope → Predicate → List Mistake
predicate_mistakes scope (p.Compare at op left right) = compared_mistakes scope at left (right ∷ [])
predicate_mistakes scope (p.Between at polarity what low high) = compared_mistakes scope at what (low ∷ high ∷ [])
predicate_mistakes scope (p.In at polarity what list) = compared_mistakes scope at what list
predicate_mistakes scope (p.IsNull at polarity what) = mistakes_in scope what

abbrev pub condition_step : Scope → CondTree-F (List Mistake) → List Mistake
condition_step scope (CondTree-F.Predicate predicate) = predicate_mistakes scope predicate
condition_step scope (CondTree-F.Not at cond) = cond
condition_step scope (CondTree-F.All conds) = flat_map (λ those. those) conds
condition_step scope (CondTree-F.Any conds) = flat_map (λ those. those) conds

-- the mistakes in a condition
unfoldable pub condition_mistakes : Scope → CondTree → List Mistake
condition_mistakes scope = fold-CondTree (List Mistake) (condition_step scope)
