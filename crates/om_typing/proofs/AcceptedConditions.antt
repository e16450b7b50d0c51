-- The conditions and the outputs of a query without a mistake are accepted by the kinds of the columns.
use Rattle.std.proofs.Common.{◌≡◌, ℕ, Bool, true, false, ◌&&◌, List, [], ◌∷◌, ◌++◌, length, map, Option, Some, Result, Ok, Err, refl, sym, ap, subst, ◌∙◌}
use Rattle.std.specs.Prelude.{◌||◌, is_some}
use Rattle.std.specs.List.{fold, flat_map, list_all, list_any}
use Rattle.om_grammar.specs.declared.cond_tree.CondTree.{CondTree}
use Rattle.om_grammar.specs.declared.cond_tree.CondTree.TheFolds.{ind-CondTree, map-CondTree}
use Rattle.om_grammar.specs.declared.cond_tree.CondTree.TheOpen.{CondTree-F}
use Rattle.om_grammar.specs.declared.cond_tree.CondTree.TheVariants as b
use Rattle.om_grammar.specs.declared.cond_tree.CondTree.TheVariants.{rolls-Predicate, rolls-Not, rolls-All, rolls-Any}
use Rattle.om_grammar.specs.declared.cond_tree.CondTree.TheViews as c
use Rattle.om_grammar.specs.declared.cond_tree.Predicate.{Predicate}
use Rattle.om_grammar.specs.declared.cond_tree.Predicate.TheVariants as p
use Rattle.om_grammar.specs.declared.expr_tree.ExprTree.{ExprTree}
use Rattle.om_value.specs.Kinds as kinds
use Rattle.om_value.specs.Kinds.{after, kind, comparable, Accepts, both_accepted, all_accepted, accepts, compare_kinds}
use Rattle.om_value.specs.declared.kind.Kind.{Kind}
use Rattle.om_value.specs.declared.kind.Wrong.{Wrong}
use Rattle.om_value.proofs.Acceptance.{accepts-Compare, accepts-Between, accepts-In, accepts-IsNull, accepts-Not, accepts-All, accepts-Any}
use Rattle.om_typing.specs.Conditions.{is_refused, clash, clashes, kind_in, mistakes_in, compared_mistakes, predicate_mistakes, condition_mistakes}
use Rattle.om_typing.specs.Mistakes.{mistake_if}
use Rattle.om_typing.specs.Names.{Scope}
use Rattle.om_typing.specs.Queries.{has_aggregate, predicate_has_aggregate, condition_has_aggregate}
use Rattle.om_typing.specs.Typing.{compare_of, asked_of, expr_in, predicate_in}
use Rattle.om_typing.specs.declared.mistake.Rule.{Rule}
use Rattle.om_typing.proofs.Accepted.{front_none, back_none, or_front, or_back, columns, Fits, expr_fits}
use Rattle.om_typing.proofs.AggregateLemmas.{in_predicate_is, in_not_is, in_all_is, in_any_is}
use Rattle.om_typing.proofs.ConditionsIn.{whole_in, conjuncts_of, whole_predicate, whole_not, whole_all, whole_any, split_predicate, split_not, split_all, split_any, mistakes_predicate, mistakes_not, mistakes_all, mistakes_any}
use Rattle.om_typing.proofs.TreeInduction.{Each}

-- ---- expressions that are compared

not_refused : (found : Result (Unit {0}) Wrong) → is_refused found ≡ false → found ≡ Ok tt
not_refused (Ok tt) is = refl
not_refused (Err wrong) is = absurd cc

no_mistake_if : (is_there : Bool) (at : ℕ) (rule : Rule) → mistake_if is_there at rule ≡ [] → is_there ≡ false
no_mistake_if false at rule is = refl
no_mistake_if true at rule is = absurd cc

others_fit : (scope : Scope) → length scope.tables ≡ 1 → (others : List ExprTree) → list_any has_aggregate others ≡ false → flat_map (mistakes_in scope) others ≡ [] → Each (Fits scope) others
others_fit scope one [] plain none = tt
others_fit scope one (x ∷ xs) plain none = (
  expr_fits scope one x (or_front (has_aggregate x) (list_any has_aggregate xs) plain) (front_none (mistakes_in scope x) (flat_map (mistakes_in scope) xs) none),
  others_fit scope one xs (or_back (has_aggregate x) (list_any has_aggregate xs) plain) (back_none (mistakes_in scope x) (flat_map (mistakes_in scope) xs) none),
)

all_some : (scope : Scope) (others : List ExprTree) → Each (Fits scope) others → list_all is_some (map (kind_in scope) others) ≡ true
all_some scope [] fits = refl
all_some scope (x ∷ xs) fits = ap (λ (k : Option Kind). is_some k && list_all is_some (map (kind_in scope) xs)) fits.0.known ∙ all_some scope xs fits.1

abbrev IsComparable : Scope → ExprTree → ExprTree → Type 0
IsComparable scope one other = comparable (columns scope) (expr_in scope one) (expr_in scope other) ≡ Ok tt

none_clash : (scope : Scope) (one : ExprTree) (fits : Fits scope one) (others : List ExprTree) → Each (Fits scope) others → list_any (clash (Some fits.found)) (map (kind_in scope) others) ≡ false → Each (IsComparable scope one) others
none_clash scope one fits [] each none = tt
none_clash scope one fits (x ∷ xs) each none =
    let clear : is_refused (compare_kinds fits.found each.0.found) ≡ false = sym (ap (clash (Some fits.found)) each.0.known) ∙ or_front (clash (Some fits.found) (kind_in scope x)) (list_any (clash (Some fits.found)) (map (kind_in scope) xs)) none in
    let same : comparable (columns scope) (expr_in scope one) (expr_in scope x) ≡ compare_kinds fits.found each.0.found =
    ap (λ (r : Result Kind Wrong). after r (λ found. after (kind (columns scope) (expr_in scope x)) (compare_kinds found))) fits.kinded ∙ ap (λ (r : Result Kind Wrong). after r (compare_kinds fits.found)) each.0.kinded in
    (same ∙ not_refused (compare_kinds fits.found each.0.found) clear, none_clash scope one fits xs each.1 (or_back (clash (Some fits.found) (kind_in scope x)) (list_any (clash (Some fits.found)) (map (kind_in scope) xs)) none))

record Compared (scope : Scope) (one : ExprTree) (others : List ExprTree) : Type 0 where
  whole : Fits scope one
  each : Each (IsComparable scope one) others

compared_fits : (scope : Scope) → length scope.tables ≡ 1 → (at : ℕ) (x : ExprTree) (others : List ExprTree) → has_aggregate x ≡ false → list_any has_aggregate others ≡ false → compared_mistakes scope at x others ≡ [] → Compared scope x others
compared_fits scope one at x others plain plain_others none =
    let behind = back_none (mistakes_in scope x) (flat_map (mistakes_in scope) others ++ mistake_if (clashes (kind_in scope x) (map (kind_in scope) others)) at _) none in
    let whole = expr_fits scope one x plain (front_none (mistakes_in scope x) _ none) in
    let fits = others_fit scope one others plain_others (front_none (flat_map (mistakes_in scope) others) _ behind) in
    let clear = no_mistake_if (clashes (kind_in scope x) (map (kind_in scope) others)) at _ (back_none (flat_map (mistakes_in scope) others) _ behind) in
    let known : clashes (Some whole.found) (map (kind_in scope) others) ≡ false = ap (λ (k : Option Kind). clashes k (map (kind_in scope) others)) (sym whole.known) ∙ clear in
    let none_of = sym (ap (λ (b : Bool). b && list_any (clash (Some whole.found)) (map (kind_in scope) others)) (all_some scope others fits)) ∙ known in
    record { whole = whole; each = none_clash scope x whole others fits none_of }

-- ---- predicates

judged_fits : (scope : Scope) (x : ExprTree) → Fits scope x → kinds.judged (columns scope) (expr_in scope x) ≡ Ok tt
judged_fits scope x fits = ap (λ (r : Result Kind Wrong). after r (λ found. Ok tt)) fits.kinded

abbrev IsAccepted : Accepts → Type 0
IsAccepted found = found ≡ Ok tt

from_each : (before : Accepts) (members : List Accepts) → IsAccepted before → Each IsAccepted members → IsAccepted (fold both_accepted before members)
from_each before [] is each = is
from_each before (x ∷ xs) is each = from_each (both_accepted before x) xs (ap (λ (f : Accepts). both_accepted f x) is ∙ each.0) each.1

each_compared : (scope : Scope) (x : ExprTree) (others : List ExprTree) → Each (IsComparable scope x) others → Each IsAccepted (map (comparable (columns scope) (expr_in scope x)) (map (expr_in scope) others))
each_compared scope x [] each = tt
each_compared scope x (y ∷ ys) each = (each.0, each_compared scope x ys each.1)

predicate_accepted : (scope : Scope) → length scope.tables ≡ 1 → (predicate : Predicate) → predicate_has_aggregate predicate ≡ false → predicate_mistakes scope predicate ≡ [] → accepts (columns scope) (predicate_in scope predicate) ≡ Ok tt
unfolding predicate_mistakes predicate_in
predicate_accepted scope one (p.Compare at op left right) plain none =
    let found = compared_fits scope one at left (right ∷ []) (or_front (has_aggregate left) (has_aggregate right) plain) (ap (λ b. b || false) (or_back (has_aggregate left) (has_aggregate right) plain)) none in
    accepts-Compare (columns scope) (compare_of op) (expr_in scope left) (expr_in scope right) ∙ found.each.0
predicate_accepted scope one (p.Between at polarity what low high) plain none =
    let behind = or_back (has_aggregate what) (has_aggregate low || has_aggregate high) plain in
    let found = compared_fits scope one at what (low ∷ high ∷ []) (or_front (has_aggregate what) (has_aggregate low || has_aggregate high) plain)
    (ap (λ b. b || (has_aggregate high || false)) (or_front (has_aggregate low) (has_aggregate high) behind) ∙ ap (λ b. b || false) (or_back (has_aggregate low) (has_aggregate high) behind)) none in
    accepts-Between (columns scope) (asked_of polarity) (expr_in scope what) (expr_in scope low) (expr_in scope high)
    ∙ ap (λ (f : Accepts). both_accepted f (comparable (columns scope) (expr_in scope what) (expr_in scope high))) found.each.0 ∙ found.each.1.0
predicate_accepted scope one (p.In at polarity what list) plain none =
    let found = compared_fits scope one at what list (or_front (has_aggregate what) (list_any has_aggregate list) plain) (or_back (has_aggregate what) (list_any has_aggregate list) plain) none in
    accepts-In (columns scope) (asked_of polarity) (expr_in scope what) (map (expr_in scope) list)
    ∙ ap (λ (f : Accepts). both_accepted f (all_accepted (map (comparable (columns scope) (expr_in scope what)) (map (expr_in scope) list)))) (judged_fits scope what found.whole)
    ∙ from_each (Ok tt) _ refl (each_compared scope what list found.each)
predicate_accepted scope one (p.IsNull at polarity what) plain none =
    accepts-IsNull (columns scope) (asked_of polarity) (expr_in scope what) ∙ judged_fits scope what (expr_fits scope one what plain none)

-- ---- conditions

-- a condition is accepted, and so is each that it joins by AND
record IsFine (scope : Scope) (tree : CondTree) : Type 0 where
  whole : accepts (columns scope) (whole_in scope tree) ≡ Ok tt
  each : Each (λ one. accepts (columns scope) one ≡ Ok tt) (conjuncts_of scope tree)

abbrev Fine : Scope → CondTree → Type 0
Fine scope tree = condition_has_aggregate tree ≡ false → condition_mistakes scope tree ≡ [] → IsFine scope tree

alone : (scope : Scope) (tree : CondTree) → accepts (columns scope) (whole_in scope tree) ≡ Ok tt → conjuncts_of scope tree ≡ whole_in scope tree ∷ [] → IsFine scope tree
alone scope tree whole single = record { whole = whole; each = subst (Each (λ one. accepts (columns scope) one ≡ Ok tt)) (sym single) (whole, tt) }

all_fine : (scope : Scope) (members : List CondTree) → Each (Fine scope) members → list_any condition_has_aggregate members ≡ false → flat_map (condition_mistakes scope) members ≡ [] → Each (IsFine scope) members
all_fine scope [] each plain none = tt
all_fine scope (x ∷ xs) each plain none = (
  each.0 (or_front (condition_has_aggregate x) (list_any condition_has_aggregate xs) plain) (front_none (condition_mistakes scope x) (flat_map (condition_mistakes scope) xs) none),
  all_fine scope xs each.1 (or_back (condition_has_aggregate x) (list_any condition_has_aggregate xs) plain) (back_none (condition_mistakes scope x) (flat_map (condition_mistakes scope) xs) none),
)

wholes : (scope : Scope) (members : List CondTree) → Each (IsFine scope) members → Each IsAccepted (map (accepts (columns scope)) (map (whole_in scope) members))
wholes scope [] each = tt
wholes scope (x ∷ xs) each = (each.0.whole, wholes scope xs each.1)

each_append : {A : Type 0} (P : A → Type 0) (xs ys : List A) → Each P xs → Each P ys → Each P (xs ++ ys)
each_append P [] ys first second = second
each_append P (x ∷ xs) ys first second = (first.0, each_append P xs ys first.1 second)

all_conjuncts : (scope : Scope) (members : List CondTree) → Each (IsFine scope) members → Each (λ one. accepts (columns scope) one ≡ Ok tt) (flat_map (conjuncts_of scope) members)
all_conjuncts scope [] each = tt
all_conjuncts scope (x ∷ xs) each = each_append (λ one. accepts (columns scope) one ≡ Ok tt) (conjuncts_of scope x) (flat_map (conjuncts_of scope) xs) each.0.each (all_conjuncts scope xs each.1)

each_of : {A : Type 0} (P : A → Type 0) (xs : List ((x : A) × P x)) → Each P (map (λ x. x.0) xs)
each_of P [] = tt
each_of P (x ∷ xs) = (x.1, each_of P xs)

fine_predicate : (scope : Scope) → length scope.tables ≡ 1 → (predicate : Predicate) → Fine scope (b.Predicate predicate)
fine_predicate scope one predicate plain none =
    alone scope (b.Predicate predicate) (ap (accepts (columns scope)) (whole_predicate scope predicate) ∙ predicate_accepted scope one predicate (sym (in_predicate_is predicate) ∙ plain) (sym (mistakes_predicate scope predicate) ∙ none)) (split_predicate scope predicate)

fine_not : (scope : Scope) (at : ℕ) (member : CondTree) → Fine scope member → Fine scope (c.Not at member)
fine_not scope at member fine plain none =
    alone scope (c.Not at member) (ap (accepts (columns scope)) (whole_not scope at member) ∙ accepts-Not (columns scope) (whole_in scope member) ∙ (fine (sym (in_not_is at member) ∙ plain) (sym (mistakes_not scope at member) ∙ none)).whole) (split_not scope at member)

fine_all : (scope : Scope) (members : List CondTree) → Each (Fine scope) members → Fine scope (c.All members)
fine_all scope members each plain none =
    let fine = all_fine scope members each (sym (in_all_is members) ∙ plain) (sym (mistakes_all scope members) ∙ none) in
    record {
      whole = ap (accepts (columns scope)) (whole_all scope members) ∙ accepts-All (columns scope) (map (whole_in scope) members) ∙ from_each (Ok tt) _ refl (wholes scope members fine);
      each = subst (Each (λ one. accepts (columns scope) one ≡ Ok tt)) (sym (split_all scope members)) (all_conjuncts scope members fine);
    }

fine_any : (scope : Scope) (members : List CondTree) → Each (Fine scope) members → Fine scope (c.Any members)
fine_any scope members each plain none =
    let fine = all_fine scope members each (sym (in_any_is members) ∙ plain) (sym (mistakes_any scope members) ∙ none) in
    alone scope (c.Any members) (ap (accepts (columns scope)) (whole_any scope members) ∙ accepts-Any (columns scope) (map (whole_in scope) members) ∙ from_each (Ok tt) _ refl (wholes scope members fine)) (split_any scope members)

pub conjuncts_accepted : (scope : Scope) → length scope.tables ≡ 1 → (tree : CondTree) → condition_has_aggregate tree ≡ false → condition_mistakes scope tree ≡ [] → Each (λ one. accepts (columns scope) one ≡ Ok tt) (conjuncts_of scope tree)
conjuncts_accepted scope one tree plain none = (ind-CondTree (Fine scope) (λ x y is.
    let at : (z : CondTree-F CondTree) → Type 0 = λ z. Fine scope (c.roll-CondTree z) in
    subst at is (elim y as (λ y. at (map-CondTree _ CondTree (λ t. t.0) y)) [
      | CondTree-F.Predicate predicate ↦ rw rolls-Predicate (fine_predicate scope one predicate)
      | CondTree-F.Not place member ↦ rw rolls-Not (fine_not scope place member.0 member.1)
      | CondTree-F.All members ↦ rw rolls-All (fine_all scope (map (λ m. m.0) members) (each_of (Fine scope) members))
      | CondTree-F.Any members ↦ rw rolls-Any (fine_any scope (map (λ m. m.0) members) (each_of (Fine scope) members))
    ])) tree plain none).each
