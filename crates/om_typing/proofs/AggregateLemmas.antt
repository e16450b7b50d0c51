-- Whether an aggregate stands in an expression, by its parts.
use Rattle.std.proofs.Common.{◌≡◌, ℕ, ◌+◌, ◌<◌, ◌≤◌, Bool, true, false, List, [], ◌∷◌, ◌++◌, length, map, take, get_or, Option, refl, sym, ap, ◌∙◌}
use Rattle.std.specs.Prelude.{◌||◌}
use Rattle.std.specs.List.{list_any}
use Rattle.std.proofs.lemmas.List.{take_all, take_more}
use Rattle.om_grammar.specs.declared.tree.Label.{Label}
use Rattle.om_grammar.specs.declared.tree.ColumnName.{ColumnName}
use Rattle.om_grammar.specs.declared.expr_tree.ExprTree.{ExprTree}
use Rattle.om_grammar.specs.declared.expr_tree.ExprTree.TheFolds.{fold-Addend, fold-Factor, fold-roll-ExprTree, fold_out-Addend, fold_out-Factor}
use Rattle.om_grammar.specs.declared.expr_tree.ExprTree.TheOpen.{ExprTree-F}
use Rattle.om_grammar.specs.declared.expr_tree.ExprTree.TheVariants as v
use Rattle.om_grammar.specs.declared.expr_tree.ExprTree.TheVariants.{rolls-Numeral, rolls-Text, rolls-Null, rolls-Column, rolls-Sum, rolls-Product, rolls-Sign, rolls-Signed, rolls-Bits, rolls-Memory, rolls-CountRows, rolls-Aggregate}
use Rattle.om_grammar.specs.declared.expr_tree.ExprTree.TheViews as e
use Rattle.om_grammar.specs.declared.expr_tree.Addend.{Addend}
use Rattle.om_grammar.specs.declared.expr_tree.Factor.{Factor}
use Rattle.om_grammar.specs.declared.expr_tree.Numeral.{Numeral}
use Rattle.om_grammar.specs.declared.expr_tree.Sign.{Sign}
use Rattle.om_grammar.specs.declared.expr_tree.Width.{Width}
use Rattle.om_grammar.specs.declared.expr_tree.Function.{Function}
use Rattle.om_grammar.specs.declared.cond_tree.CondTree.{CondTree}
use Rattle.om_grammar.specs.declared.cond_tree.CondTree.TheFolds.{fold-CondTree, fold-roll-CondTree}
use Rattle.om_grammar.specs.declared.cond_tree.CondTree.TheOpen.{CondTree-F}
use Rattle.om_grammar.specs.declared.cond_tree.CondTree.TheVariants as b
use Rattle.om_grammar.specs.declared.cond_tree.CondTree.TheVariants.{rolls-Predicate, rolls-Not, rolls-All, rolls-Any}
use Rattle.om_grammar.specs.declared.cond_tree.CondTree.TheViews as c
use Rattle.om_grammar.specs.declared.cond_tree.Predicate.{Predicate}
use Rattle.om_typing.specs.Queries.{aggregate_step, in_addend, in_factor, has_aggregate, predicate_has_aggregate, condition_aggregate_step, condition_has_aggregate}

any_is : {X : Type 0} (f g : X → Bool) → ((x : X) → f x ≡ g x) → (xs : List X) → list_any (λ one. one) (map f xs) ≡ list_any g xs
any_is f g same [] = refl
any_is f g same (x ∷ xs) = ap (λ b. b || list_any (λ one. one) (map f xs)) (same x) ∙ ap (λ b. g x || b) (any_is f g same xs)

addend_is : (addend : Addend) → fold-Addend Bool Bool Bool aggregate_step in_addend in_factor addend ≡ has_aggregate addend.term
unfolding has_aggregate
addend_is addend = fold_out-Addend Bool Bool Bool aggregate_step in_addend in_factor addend

factor_is : (factor : Factor) → fold-Factor Bool Bool Bool aggregate_step in_addend in_factor factor ≡ has_aggregate factor.factor
unfolding has_aggregate
factor_is factor = fold_out-Factor Bool Bool Bool aggregate_step in_addend in_factor factor

pub aggregate_numeral : (numeral : Numeral) → has_aggregate (v.Numeral numeral) ≡ false
unfolding has_aggregate
aggregate_numeral numeral = ap (has_aggregate) (sym (rolls-Numeral numeral)) ∙ fold-roll-ExprTree Bool Bool Bool aggregate_step in_addend in_factor (ExprTree-F.Numeral numeral)

pub aggregate_text : (at : ℕ) (said : List ℕ) → has_aggregate (v.Text at said) ≡ false
unfolding has_aggregate
aggregate_text at said = ap (has_aggregate) (sym (rolls-Text at said)) ∙ fold-roll-ExprTree Bool Bool Bool aggregate_step in_addend in_factor (ExprTree-F.Text at said)

pub aggregate_null : (at : ℕ) → has_aggregate (v.Null at) ≡ false
unfolding has_aggregate
aggregate_null at = ap (has_aggregate) (sym (rolls-Null at)) ∙ fold-roll-ExprTree Bool Bool Bool aggregate_step in_addend in_factor (ExprTree-F.Null at)

pub aggregate_column : (column : ColumnName) → has_aggregate (v.Column column) ≡ false
unfolding has_aggregate
aggregate_column column = ap (has_aggregate) (sym (rolls-Column column)) ∙ fold-roll-ExprTree Bool Bool Bool aggregate_step in_addend in_factor (ExprTree-F.Column column)

pub aggregate_sum : (first : ExprTree) (rest : List Addend) → has_aggregate (e.Sum first rest) ≡ has_aggregate first || list_any (λ addend. has_aggregate addend.term) rest
unfolding has_aggregate
aggregate_sum first rest = ap (has_aggregate) (sym (rolls-Sum first rest)) ∙ fold-roll-ExprTree Bool Bool Bool aggregate_step in_addend in_factor (ExprTree-F.Sum first rest)
    ∙ ap (λ b. has_aggregate first || b) (any_is (fold-Addend Bool Bool Bool aggregate_step in_addend in_factor) (λ addend. has_aggregate addend.term) addend_is rest)

pub aggregate_product : (first : ExprTree) (rest : List Factor) → has_aggregate (e.Product first rest) ≡ has_aggregate first || list_any (λ factor. has_aggregate factor.factor) rest
unfolding has_aggregate
aggregate_product first rest = ap (has_aggregate) (sym (rolls-Product first rest)) ∙ fold-roll-ExprTree Bool Bool Bool aggregate_step in_addend in_factor (ExprTree-F.Product first rest)
    ∙ ap (λ b. has_aggregate first || b) (any_is (fold-Factor Bool Bool Bool aggregate_step in_addend in_factor) (λ factor. has_aggregate factor.factor) factor_is rest)

pub aggregate_sign : (at : ℕ) (sign : Sign) (expr : ExprTree) → has_aggregate (e.Sign at sign expr) ≡ has_aggregate expr
unfolding has_aggregate
aggregate_sign at sign expr = ap (has_aggregate) (sym (rolls-Sign at sign expr)) ∙ fold-roll-ExprTree Bool Bool Bool aggregate_step in_addend in_factor (ExprTree-F.Sign at sign expr)

pub aggregate_signed : (at : ℕ) (expr : ExprTree) → has_aggregate (e.Signed at expr) ≡ has_aggregate expr
unfolding has_aggregate
aggregate_signed at expr = ap (has_aggregate) (sym (rolls-Signed at expr)) ∙ fold-roll-ExprTree Bool Bool Bool aggregate_step in_addend in_factor (ExprTree-F.Signed at expr)

pub aggregate_bits : (at : ℕ) (expr : ExprTree) (high low : Numeral) → has_aggregate (e.Bits at expr high low) ≡ has_aggregate expr
unfolding has_aggregate
aggregate_bits at expr high low = ap (has_aggregate) (sym (rolls-Bits at expr high low)) ∙ fold-roll-ExprTree Bool Bool Bool aggregate_step in_addend in_factor (ExprTree-F.Bits at expr high low)

pub aggregate_memory : (qualifier : Option Label) (at : ℕ) (width : Width) (address : ExprTree) → has_aggregate (e.Memory qualifier at width address) ≡ has_aggregate address
unfolding has_aggregate
aggregate_memory qualifier at width address = ap (has_aggregate) (sym (rolls-Memory qualifier at width address)) ∙ fold-roll-ExprTree Bool Bool Bool aggregate_step in_addend in_factor (ExprTree-F.Memory qualifier at width address)

pub aggregate_count_rows : (at : ℕ) → has_aggregate (v.CountRows at) ≡ true
unfolding has_aggregate
aggregate_count_rows at = ap (has_aggregate) (sym (rolls-CountRows at)) ∙ fold-roll-ExprTree Bool Bool Bool aggregate_step in_addend in_factor (ExprTree-F.CountRows at)

pub aggregate_aggregate : (at : ℕ) (function : Function) (expr : ExprTree) → has_aggregate (e.Aggregate at function expr) ≡ true
unfolding has_aggregate
aggregate_aggregate at function expr = ap (has_aggregate) (sym (rolls-Aggregate at function expr)) ∙ fold-roll-ExprTree Bool Bool Bool aggregate_step in_addend in_factor (ExprTree-F.Aggregate at function expr)

-- ---- lists that are searched one by one

any_append : {X : Type 0} (p : X → Bool) (xs ys : List X) → list_any p (xs ++ ys) ≡ (list_any p xs || list_any p ys)
any_append p [] ys = refl
any_append p (x ∷ xs) ys = ap (λ b. p x || b) (any_append p xs ys) ∙ or_assoc (p x) (list_any p xs) (list_any p ys)
  where
    or_assoc : (a b c : Bool) → (a || (b || c)) ≡ ((a || b) || c)
    or_assoc true b c = refl
    or_assoc false b c = refl

-- whether one of so many members was found, and one member more
pub any_more : {X : Type 0} (p : X → Bool) (start found : Bool) (xs : List X) (n : ℕ) (x d : X) → n < length xs → x ≡ get_or xs n d
    → found ≡ (start || list_any p (take n xs)) → (found || p x) ≡ (start || list_any p (take (n + 1) xs))
any_more p start found xs n x d within is so_far =
    let more : take (n + 1) xs ≡ take n xs ++ x ∷ [] = take_more xs n d within ∙ ap (λ y. take n xs ++ y ∷ []) (sym is) in
    let all : list_any p (take n xs ++ x ∷ []) ≡ (list_any p (take n xs) || p x) = any_append p (take n xs) (x ∷ []) ∙ ap (λ b. list_any p (take n xs) || b) (or_false (p x)) in
    ap (λ b. b || p x) so_far ∙ or_assoc start (list_any p (take n xs)) (p x) ∙ ap (λ b. start || b) (sym all) ∙ ap (λ l. start || list_any p l) (sym more)
  where
    or_assoc : (a b c : Bool) → ((a || b) || c) ≡ (a || (b || c))
    or_assoc true b c = refl
    or_assoc false b c = refl

    or_false : (a : Bool) → (a || false) ≡ a
    or_false true = refl
    or_false false = refl

pub or_then : (found px new : Bool) → found ≡ true → new ≡ found → (found || px) ≡ new
or_then found px new is told = ap (λ b. b || px) is ∙ sym (told ∙ is)

pub or_else : (found px new : Bool) → found ≡ false → new ≡ px → (found || px) ≡ new
or_else found px new is told = ap (λ b. b || px) is ∙ sym told

-- all members were searched
pub any_all : {X : Type 0} (p : X → Bool) (start found : Bool) (xs : List X) (n : ℕ) → length xs ≤ n → found ≡ (start || list_any p (take n xs)) → found ≡ (start || list_any p xs)
any_all p start found xs n whole so_far = so_far ∙ ap (λ l. start || list_any p l) (take_all n xs whole)

-- ---- conditions

members_are : (trees : List CondTree) → list_any (λ one. one) (map (fold-CondTree Bool condition_aggregate_step) trees) ≡ list_any condition_has_aggregate trees
unfolding condition_has_aggregate
members_are [] = refl
members_are (tree ∷ trees) = ap (λ b. condition_has_aggregate tree || b) (members_are trees)

pub in_predicate_is : (predicate : Predicate) → condition_has_aggregate (b.Predicate predicate) ≡ predicate_has_aggregate predicate
unfolding condition_has_aggregate
in_predicate_is predicate = ap condition_has_aggregate (sym (rolls-Predicate predicate)) ∙ fold-roll-CondTree Bool condition_aggregate_step (CondTree-F.Predicate predicate)

pub in_not_is : (at : ℕ) (cond : CondTree) → condition_has_aggregate (c.Not at cond) ≡ condition_has_aggregate cond
unfolding condition_has_aggregate
in_not_is at cond = ap condition_has_aggregate (sym (rolls-Not at cond)) ∙ fold-roll-CondTree Bool condition_aggregate_step (CondTree-F.Not at cond)

pub in_all_is : (members : List CondTree) → condition_has_aggregate (c.All members) ≡ list_any condition_has_aggregate members
unfolding condition_has_aggregate
in_all_is members = ap condition_has_aggregate (sym (rolls-All members)) ∙ fold-roll-CondTree Bool condition_aggregate_step (CondTree-F.All members) ∙ members_are members

pub in_any_is : (members : List CondTree) → condition_has_aggregate (c.Any members) ≡ list_any condition_has_aggregate members
unfolding condition_has_aggregate
in_any_is members = ap condition_has_aggregate (sym (rolls-Any members)) ∙ fold-roll-CondTree Bool condition_aggregate_step (CondTree-F.Any members) ∙ members_are members
