-- Conditions with their names resolved, and their mistakes, by their members.
use Rattle.std.proofs.Common.{◌≡◌, ℕ, List, [], ◌∷◌, ◌++◌, map, refl, sym, ap, ◌∙◌}
use Rattle.std.specs.List.{flat_map}
use Rattle.om_grammar.specs.declared.cond_tree.CondTree.{CondTree}
use Rattle.om_grammar.specs.declared.cond_tree.CondTree.TheFolds.{fold-CondTree, fold-roll-CondTree}
use Rattle.om_grammar.specs.declared.cond_tree.CondTree.TheOpen.{CondTree-F}
use Rattle.om_grammar.specs.declared.cond_tree.CondTree.TheVariants as b
use Rattle.om_grammar.specs.declared.cond_tree.CondTree.TheVariants.{rolls-Predicate, rolls-Not, rolls-All, rolls-Any}
use Rattle.om_grammar.specs.declared.cond_tree.CondTree.TheViews as c
use Rattle.om_grammar.specs.declared.cond_tree.Predicate.{Predicate}
use Rattle.om_value.specs.declared.cond.Cond.{Cond}
use Rattle.om_value.specs.declared.cond.Cond.TheViews as conds
use Rattle.om_typing.specs.Conditions as judged
use Rattle.om_typing.specs.Conditions.{predicate_mistakes, condition_mistakes}
use Rattle.om_typing.specs.Names.{Scope}
use Rattle.om_typing.specs.Typing.{Resolved, condition_step, condition_in, predicate_in}
use Rattle.om_typing.specs.declared.mistake.Mistake.{Mistake}

-- ---- names resolved

-- a condition with its names resolved
abbrev pub whole_in : Scope → CondTree → Cond
whole_in scope tree = (condition_in scope tree).whole

-- the conditions that it joins by AND
abbrev pub conjuncts_of : Scope → CondTree → List Cond
conjuncts_of scope tree = (condition_in scope tree).conjuncts

whole_each : (scope : Scope) (trees : List CondTree) → map (λ member. member.whole) (map (fold-CondTree Resolved (condition_step scope)) trees) ≡ map (whole_in scope) trees
unfolding condition_in
whole_each scope [] = refl
whole_each scope (tree ∷ trees) = ap (λ rest. whole_in scope tree ∷ rest) (whole_each scope trees)

conjuncts_each : (scope : Scope) (trees : List CondTree) → flat_map (λ member. member.conjuncts) (map (fold-CondTree Resolved (condition_step scope)) trees) ≡ flat_map (conjuncts_of scope) trees
unfolding condition_in
conjuncts_each scope [] = refl
conjuncts_each scope (tree ∷ trees) = ap (λ rest. conjuncts_of scope tree ++ rest) (conjuncts_each scope trees)

pub whole_predicate : (scope : Scope) (predicate : Predicate) → (condition_in scope (b.Predicate predicate)).whole ≡ predicate_in scope predicate
unfolding condition_in
whole_predicate scope predicate = ap (λ tree. (condition_in scope tree).whole) (sym (rolls-Predicate predicate)) ∙ ap (λ (r : Resolved). r.whole) (fold-roll-CondTree Resolved (condition_step scope) (CondTree-F.Predicate predicate))

pub whole_not : (scope : Scope) (at : ℕ) (cond : CondTree) → (condition_in scope (c.Not at cond)).whole ≡ conds.Not (condition_in scope cond).whole
unfolding condition_in
whole_not scope at cond = ap (λ tree. (condition_in scope tree).whole) (sym (rolls-Not at cond)) ∙ ap (λ (r : Resolved). r.whole) (fold-roll-CondTree Resolved (condition_step scope) (CondTree-F.Not at cond))

pub whole_all : (scope : Scope) (members : List CondTree) → (condition_in scope (c.All members)).whole ≡ conds.All (map (whole_in scope) members)
unfolding condition_in
whole_all scope members = ap (λ tree. (condition_in scope tree).whole) (sym (rolls-All members)) ∙ ap (λ (r : Resolved). r.whole) (fold-roll-CondTree Resolved (condition_step scope) (CondTree-F.All members)) ∙ ap conds.All (whole_each scope members)

pub whole_any : (scope : Scope) (members : List CondTree) → (condition_in scope (c.Any members)).whole ≡ conds.Any (map (whole_in scope) members)
unfolding condition_in
whole_any scope members = ap (λ tree. (condition_in scope tree).whole) (sym (rolls-Any members)) ∙ ap (λ (r : Resolved). r.whole) (fold-roll-CondTree Resolved (condition_step scope) (CondTree-F.Any members)) ∙ ap conds.Any (whole_each scope members)

pub split_predicate : (scope : Scope) (predicate : Predicate) → (condition_in scope (b.Predicate predicate)).conjuncts ≡ (condition_in scope (b.Predicate predicate)).whole ∷ []
unfolding condition_in
split_predicate scope predicate =
    let is = ap (condition_in scope) (sym (rolls-Predicate predicate)) ∙ fold-roll-CondTree Resolved (condition_step scope) (CondTree-F.Predicate predicate) in
    ap (λ (r : Resolved). r.conjuncts) is ∙ sym (ap (λ (r : Resolved). r.whole ∷ []) is)

pub split_not : (scope : Scope) (at : ℕ) (cond : CondTree) → (condition_in scope (c.Not at cond)).conjuncts ≡ (condition_in scope (c.Not at cond)).whole ∷ []
unfolding condition_in
split_not scope at cond =
    let is = ap (condition_in scope) (sym (rolls-Not at cond)) ∙ fold-roll-CondTree Resolved (condition_step scope) (CondTree-F.Not at cond) in
    ap (λ (r : Resolved). r.conjuncts) is ∙ sym (ap (λ (r : Resolved). r.whole ∷ []) is)

pub split_any : (scope : Scope) (members : List CondTree) → (condition_in scope (c.Any members)).conjuncts ≡ (condition_in scope (c.Any members)).whole ∷ []
unfolding condition_in
split_any scope members =
    let is = ap (condition_in scope) (sym (rolls-Any members)) ∙ fold-roll-CondTree Resolved (condition_step scope) (CondTree-F.Any members) in
    ap (λ (r : Resolved). r.conjuncts) is ∙ sym (ap (λ (r : Resolved). r.whole ∷ []) is)

pub split_all : (scope : Scope) (members : List CondTree) → (condition_in scope (c.All members)).conjuncts ≡ flat_map (conjuncts_of scope) members
unfolding condition_in
split_all scope members = ap (λ tree. (condition_in scope tree).conjuncts) (sym (rolls-All members)) ∙ ap (λ (r : Resolved). r.conjuncts) (fold-roll-CondTree Resolved (condition_step scope) (CondTree-F.All members)) ∙ conjuncts_each scope members

-- ---- mistakes

mistakes_each : (scope : Scope) (trees : List CondTree) → flat_map (λ those. those) (map (fold-CondTree (List Mistake) (judged.condition_step scope)) trees) ≡ flat_map (condition_mistakes scope) trees
unfolding condition_mistakes
mistakes_each scope [] = refl
mistakes_each scope (tree ∷ trees) = ap (λ rest. condition_mistakes scope tree ++ rest) (mistakes_each scope trees)

pub mistakes_predicate : (scope : Scope) (predicate : Predicate) → condition_mistakes scope (b.Predicate predicate) ≡ predicate_mistakes scope predicate
unfolding condition_mistakes
mistakes_predicate scope predicate = ap (condition_mistakes scope) (sym (rolls-Predicate predicate)) ∙ fold-roll-CondTree (List Mistake) (judged.condition_step scope) (CondTree-F.Predicate predicate)

pub mistakes_not : (scope : Scope) (at : ℕ) (cond : CondTree) → condition_mistakes scope (c.Not at cond) ≡ condition_mistakes scope cond
unfolding condition_mistakes
mistakes_not scope at cond = ap (condition_mistakes scope) (sym (rolls-Not at cond)) ∙ fold-roll-CondTree (List Mistake) (judged.condition_step scope) (CondTree-F.Not at cond)

pub mistakes_all : (scope : Scope) (members : List CondTree) → condition_mistakes scope (c.All members) ≡ flat_map (condition_mistakes scope) members
unfolding condition_mistakes
mistakes_all scope members = ap (condition_mistakes scope) (sym (rolls-All members)) ∙ fold-roll-CondTree (List Mistake) (judged.condition_step scope) (CondTree-F.All members) ∙ mistakes_each scope members

pub mistakes_any : (scope : Scope) (members : List CondTree) → condition_mistakes scope (c.Any members) ≡ flat_map (condition_mistakes scope) members
unfolding condition_mistakes
mistakes_any scope members = ap (condition_mistakes scope) (sym (rolls-Any members)) ∙ fold-roll-CondTree (List Mistake) (judged.condition_step scope) (CondTree-F.Any members) ∙ mistakes_each scope members
