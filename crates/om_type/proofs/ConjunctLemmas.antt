-- The conjuncts of a condition, found member by member.
use Rattle.std.proofs.Common.{◌≡◌, ℕ, suc, ◌+◌, ◌<◌, ◌≤◌, List, [], ◌∷◌, ◌++◌, length, map, drop, get_or, Option, Some, None, Err, refl, sym, ap, subst, ◌∙◌, arith}
use Rattle.std.specs.List.{flat_map}
use Rattle.std.proofs.Math.Seq.{drop-cons}
use Rattle.std.proofs.lemmas.List.{drop_all, map-append}
use Rattle.om_eval.specs.declared.cond.Cond.{Cond}
use Rattle.om_parse.specs.declared.tree.ExprTree.{ExprTree}
use Rattle.om_parse.specs.declared.tree.CompareOp.{CompareOp}
use Rattle.om_parse.specs.declared.tree.CondTree.{CondTree}
use Rattle.om_parse.specs.declared.tree.CondTree.TheFolds.{fold-roll-CondTree}
use Rattle.om_parse.specs.declared.tree.CondTree.TheOpen.{CondTree-F}
use Rattle.om_parse.specs.declared.tree.CondTree.TheVariants as c
use Rattle.om_parse.specs.declared.tree.CondTree.TheVariants.{rolls-All, rolls-Compare}
use Rattle.om_parse.specs.declared.tree.CondTree.TheViews as view
use Rattle.om_parse.specs.declared.tree.CondTree.TheViews.{out-CondTree, roll-CondTree, roll-out-CondTree}
use Rattle.om_type.specs.Typing.{Variables, conjuncts_in, conjuncts_step}
use Rattle.om_type.specs.Checking.{Gives, after, all_some, comparison_in, test_in, test_step, tests_in, tests_of}
use Rattle.om_type.specs.declared.fault.TypeFault.{TypeFault}
use Rattle.om_type.specs.declared.fault.TypeFault.TheVariants.{NoMemory, Unbuilt}
use Rattle.om_type.proofs.SomesLemmas.{all_found, all_some-append, joined, none_missing, some_found}

pub conjuncts-Compare : (at : ℕ) (op : CompareOp) (left right : ExprTree) → conjuncts_in (c.Compare at op left right) ≡ c.Compare at op left right ∷ []
unfolding conjuncts_in
conjuncts-Compare at op left right = ap conjuncts_in (sym (rolls-Compare at op left right)) ∙ fold-roll-CondTree (List CondTree) conjuncts_step (CondTree-F.Compare at op left right)

pub conjuncts-All : (members : List CondTree) → conjuncts_in (view.All members) ≡ flat_map (λ those. those) (map conjuncts_in members)
unfolding conjuncts_in
conjuncts-All members = ap conjuncts_in (sym (rolls-All members)) ∙ fold-roll-CondTree (List CondTree) conjuncts_step (CondTree-F.All members)

pub test_in-Compare : (catalog : Variables) (at : ℕ) (op : CompareOp) (left right : ExprTree) → test_in catalog (c.Compare at op left right) ≡ comparison_in catalog op left right
unfolding test_in
test_in-Compare catalog at op left right = ap (test_in catalog) (sym (rolls-Compare at op left right)) ∙ fold-roll-CondTree (Option Cond) (test_step catalog) (CondTree-F.Compare at op left right)

pub test_in-All : (catalog : Variables) (members : List CondTree) → test_in catalog (c.All members) ≡ None
unfolding test_in
test_in-All catalog members = ap (test_in catalog) (sym (rolls-All members)) ∙ fold-roll-CondTree (Option Cond) (test_step catalog) (CondTree-F.All members)

-- a condition is a comparison or an AND
pub data Shape : CondTree → Type 0 where
  compare : (at : ℕ) (op : CompareOp) (left right : ExprTree) → Shape (c.Compare at op left right)
  all : (members : List CondTree) → Shape (c.All members)

rolled : (layer : CondTree-F CondTree) → Shape (roll-CondTree layer)
rolled (CondTree-F.Compare at op left right) = subst Shape (sym (rolls-Compare at op left right)) (Shape.compare at op left right)
rolled (CondTree-F.All members) = subst Shape (sym (rolls-All members)) (Shape.all members)

pub shape_of : (tree : CondTree) → Shape tree
shape_of tree = subst Shape (roll-out-CondTree tree) (rolled (out-CondTree tree))

-- a comparison is one conjunct
pub tests_of-Compare : (catalog : Variables) (at : ℕ) (op : CompareOp) (left right : ExprTree) → tests_of catalog (c.Compare at op left right) ≡ all_some (comparison_in catalog op left right ∷ [])
unfolding tests_of tests_in
tests_of-Compare catalog at op left right = rw (conjuncts-Compare at op left right) (ap (λ (test : Option Cond). all_some (test ∷ [])) (test_in-Compare catalog at op left right))

-- the tests that the conjuncts of some conditions are
abbrev pub tests_of_all : Variables → List CondTree → Option (List Cond)
tests_of_all catalog members = tests_in catalog (flat_map (λ those. those) (map conjuncts_in members))

tests_in-append : (catalog : Variables) (first second : List CondTree) → tests_in catalog (first ++ second) ≡ joined (tests_in catalog first) (tests_in catalog second)
unfolding tests_in
tests_in-append catalog first second = rw (map-append (test_in catalog) first second) (all_some-append (map (test_in catalog) first) (map (test_in catalog) second))

pub tests_of-All : (catalog : Variables) (members : List CondTree) → tests_of catalog (view.All members) ≡ tests_of_all catalog members
unfolding tests_of
tests_of-All catalog members = ap (tests_in catalog) (conjuncts-All members)

tests_of_all-cons : (catalog : Variables) (member : CondTree) (members : List CondTree) → tests_of_all catalog (member ∷ members) ≡ joined (tests_of catalog member) (tests_of_all catalog members)
unfolding tests_of
tests_of_all-cons catalog member members = tests_in-append catalog (conjuncts_in member) (flat_map (λ those. those) (map conjuncts_in members))

tests_of_all-nil : (catalog : Variables) → tests_of_all catalog [] ≡ Some []
unfolding tests_in
tests_of_all-nil catalog = refl

-- the tests that were found, and those of the members from a place on
abbrev pub AreFoundSoFar : Variables → List Cond → List Cond → List CondTree → ℕ → Type 0
AreFoundSoFar catalog old now members place = after old (tests_of_all catalog members) ≡ after now (tests_of_all catalog (drop place members))

at_place : (catalog : Variables) (now : List Cond) (members : List CondTree) (place : ℕ) (member : CondTree) → place < length members → member ≡ get_or members place member
    → after now (tests_of_all catalog (drop place members)) ≡ after now (joined (tests_of catalog member) (tests_of_all catalog (drop (suc place) members)))
at_place catalog now members place member within is =
    let split : drop place members ≡ member ∷ drop (suc place) members = drop-cons members place member within ∙ ap (λ (x : CondTree). x ∷ drop (suc place) members) (sym is) in
    ap (λ (l : List CondTree). after now (tests_of_all catalog l)) split ∙ ap (after now) (tests_of_all-cons catalog member (drop (suc place) members))

pub one_more : (catalog : Variables) (old now new : List Cond) (members : List CondTree) (place : ℕ) (member : CondTree) → place < length members → member ≡ get_or members place member
    → AreFoundSoFar catalog old now members place → after now (tests_of catalog member) ≡ Some new → AreFoundSoFar catalog old new members (place + 1)
one_more catalog old now new members place member within is so_far found =
    let next : suc place ≡ place + 1 = omega arith in
    subst (AreFoundSoFar catalog old new members) next (so_far ∙ at_place catalog now members place member within is ∙ some_found now new (tests_of catalog member) (tests_of_all catalog (drop (suc place) members)) found)

none_there : (catalog : Variables) (old now : List Cond) (members : List CondTree) (place : ℕ) (member : CondTree) → place < length members → member ≡ get_or members place member
    → AreFoundSoFar catalog old now members place → after now (tests_of catalog member) ≡ None → after old (tests_of_all catalog members) ≡ None
none_there catalog old now members place member within is so_far missing =
    so_far ∙ at_place catalog now members place member within is ∙ none_missing now (tests_of catalog member) (tests_of_all catalog (drop (suc place) members)) missing

pub one_refused : (catalog : Variables) (old now : List Cond) (members : List CondTree) (place : ℕ) (member : CondTree) (fault : TypeFault) → place < length members → member ≡ get_or members place member
    → AreFoundSoFar catalog old now members place → Gives (after now (tests_of catalog member)) (Err fault) → Gives (after old (tests_of_all catalog members)) (Err fault)
one_refused catalog old now members place member NoMemory within is so_far refused = tt
one_refused catalog old now members place member Unbuilt within is so_far refused = none_there catalog old now members place member within is so_far refused

pub at_end : (catalog : Variables) (old now : List Cond) (members : List CondTree) (place : ℕ) → length members ≤ place → AreFoundSoFar catalog old now members place → after old (tests_of_all catalog members) ≡ Some now
at_end catalog old now members place whole so_far =
    so_far ∙ ap (λ (l : List CondTree). after now (tests_of_all catalog l)) (drop_all place members whole) ∙ ap (after now) (tests_of_all-nil catalog) ∙ all_found now
