-- The truth of a condition is that of its conjuncts joined by AND.
use Rattle.std.proofs.Common.{◌≡◌, Bool, true, false, List, [], ◌∷◌, ◌++◌, map, if◌then◌else◌, refl, sym, ap, subst, ◌∙◌}
use Rattle.std.specs.List.{flat_map, list_any}
use Rattle.std.proofs.lemmas.List.{map-append}
use Rattle.om_eval.specs.Row.{Tuple}
use Rattle.om_eval.specs.Meaning.{all_of, is_no, is_unknown, truth, truth_step}
use Rattle.om_eval.specs.declared.cond.Cond.{Cond}
use Rattle.om_eval.specs.declared.cond.Cond.TheFolds.{fold-roll-Cond}
use Rattle.om_eval.specs.declared.cond.Cond.TheOpen.{Cond-F}
use Rattle.om_eval.specs.declared.cond.Cond.TheVariants.{rolls-And}
use Rattle.om_eval.specs.declared.cond.Cond.TheViews as conds
use Rattle.om_eval.specs.declared.truth.Truth.{Truth}
use Rattle.om_eval.specs.declared.truth.Truth.TheVariants.{Yes, No, Unknown}
use Rattle.om_parse.specs.declared.tree.CondTree.{CondTree}
use Rattle.om_type.specs.Splitting.{IsWhole, AreWhole}
use Rattle.om_type.specs.Typing.{Variables, IsTest, AreTests, conjuncts_in}
use Rattle.om_type.proofs.ConjunctLemmas.{conjuncts-All, conjuncts-Compare}
use Rattle.om_type.proofs.SettlesLemmas.{one}
use Rattle.om_type.proofs.TypingLemmas.{test_settles}

-- ---- AND of two truths

abbrev meet : Truth → Truth → Truth
meet Yes other = other
meet No other = No
meet Unknown No = No
meet Unknown Yes = Unknown
meet Unknown Unknown = Unknown

meet-assoc : (a b c : Truth) → meet (meet a b) c ≡ meet a (meet b c)
meet-assoc Yes b c = refl
meet-assoc No b c = refl
meet-assoc Unknown Yes c = refl
meet-assoc Unknown No c = refl
meet-assoc Unknown Unknown Yes = refl
meet-assoc Unknown Unknown No = refl
meet-assoc Unknown Unknown Unknown = refl

by_tests : (no unknown : Bool) → (if no then No else Unknown) ≡ meet Unknown (if no then No else if unknown then Unknown else Yes)
by_tests true unknown = refl
by_tests false true = refl
by_tests false false = refl

all_of-cons : (x : Truth) (xs : List Truth) → all_of (x ∷ xs) ≡ meet x (all_of xs)
all_of-cons Yes xs = refl
all_of-cons No xs = refl
all_of-cons Unknown xs = by_tests (list_any is_no xs) (list_any is_unknown xs)

all_of-append : (xs ys : List Truth) → all_of (xs ++ ys) ≡ meet (all_of xs) (all_of ys)
all_of-append [] ys = refl
all_of-append (x ∷ xs) ys =
    all_of-cons x (xs ++ ys) ∙ ap (meet x) (all_of-append xs ys) ∙ sym (meet-assoc x (all_of xs) (all_of ys)) ∙ ap (λ (t : Truth). meet t (all_of ys)) (sym (all_of-cons x xs))

-- ---- conjuncts

-- tests of two lists of conditions
record Parted (catalog : Variables) (first second : List CondTree) (tests : List Cond) : Type 0 where
  of_first : List Cond
  of_second : List Cond
  parted : of_first ++ of_second ≡ tests
  are_first : AreTests catalog first of_first
  are_second : AreTests catalog second of_second

part : {catalog : Variables} (first second : List CondTree) {tests : List Cond} → AreTests catalog (first ++ second) tests → Parted catalog first second tests
part [] second {tests} are = record { of_first = []; of_second = tests; parted = refl; are_first = AreTests.none; are_second = are }
part (tree ∷ first) second (AreTests.more {test = test} is others) =
    let rest = part first second others in
    record {
      of_first = test ∷ rest.of_first;
      of_second = rest.of_second;
      parted = ap (λ (l : List Cond). test ∷ l) rest.parted;
      are_first = AreTests.more is rest.are_first;
      are_second = rest.are_second;
    }

truth-And : (tuple : Tuple) (members : List Cond) → truth tuple (conds.And members) ≡ all_of (map (truth tuple) members)
unfolding truth
truth-And tuple members = ap (truth tuple) (sym (rolls-And members)) ∙ fold-roll-Cond Truth (truth_step tuple) (Cond-F.And members)

all_of_one : (found : Truth) → all_of (found ∷ []) ≡ found
all_of_one Yes = refl
all_of_one No = refl
all_of_one Unknown = refl

only_test : {catalog : Variables} {tree : CondTree} {cond : Cond} {tests : List Cond} (tuple : Tuple) → IsTest catalog tree cond → AreTests catalog (tree ∷ []) tests → truth tuple cond ≡ all_of (map (truth tuple) tests)
only_test {catalog} {tree} {cond} tuple is (AreTests.more {test = test} other AreTests.none) =
    ap (truth tuple) (one (test_settles catalog tree) cond test is other) ∙ sym (all_of_one (truth tuple test))

of_test : {catalog : Variables} {tree : CondTree} {cond : Cond} {tests : List Cond} (tuple : Tuple) → IsTest catalog tree cond → AreTests catalog (conjuncts_in tree) tests → truth tuple cond ≡ all_of (map (truth tuple) tests)
of_test {catalog} {tests = tests} tuple (IsTest.compared {at = at} {op = op} {left_tree = left} {right_tree = right} is_left left_number is_right right_number) are =
    only_test tuple (IsTest.compared {at = at} {op = op} is_left left_number is_right right_number) (subst (λ (l : List CondTree). AreTests catalog l tests) (conjuncts-Compare at op left right) are)

joined_truths : (tuple : Tuple) (cond : Cond) (members first second tests : List Cond) → first ++ second ≡ tests
    → truth tuple cond ≡ all_of (map (truth tuple) first) → all_of (map (truth tuple) members) ≡ all_of (map (truth tuple) second)
    → all_of (map (truth tuple) (cond ∷ members)) ≡ all_of (map (truth tuple) tests)
joined_truths tuple cond members first second tests parted h g =
    all_of-cons (truth tuple cond) (map (truth tuple) members)
    ∙ ap (λ (t : Truth). meet t (all_of (map (truth tuple) members))) h
    ∙ ap (meet (all_of (map (truth tuple) first))) g
    ∙ sym (all_of-append (map (truth tuple) first) (map (truth tuple) second))
    ∙ ap all_of (sym (map-append (truth tuple) first second))
    ∙ ap (λ (l : List Cond). all_of (map (truth tuple) l)) parted

mutual
  whole_is : {catalog : Variables} {tree : CondTree} {cond : Cond} {tests : List Cond} (tuple : Tuple) → IsWhole catalog tree cond → AreTests catalog (conjuncts_in tree) tests → truth tuple cond ≡ all_of (map (truth tuple) tests)
  whole_is tuple (IsWhole.test is) are = of_test tuple is are
  whole_is {catalog} {tests = tests} tuple (IsWhole.all {trees = trees} {members = members} all) are =
      truth-And tuple members ∙ wholes_are tuple all (subst (λ (l : List CondTree). AreTests catalog l tests) (conjuncts-All trees) are)

  wholes_are : {catalog : Variables} {trees : List CondTree} {members tests : List Cond} (tuple : Tuple) → AreWhole catalog trees members → AreTests catalog (flat_map (λ those. those) (map conjuncts_in trees)) tests
      → all_of (map (truth tuple) members) ≡ all_of (map (truth tuple) tests)
  wholes_are tuple AreWhole.none AreTests.none = refl
  wholes_are {tests = tests} tuple (AreWhole.more {tree = tree} {trees = trees} {cond = cond} {members = members} first others) are =
      let parts = part (conjuncts_in tree) (flat_map (λ those. those) (map conjuncts_in trees)) are in
      joined_truths tuple cond members parts.of_first parts.of_second tests parts.parted (whole_is tuple first parts.are_first) (wholes_are tuple others parts.are_second)

pub splitting : (catalog : Variables) (tree : CondTree) (whole : Cond) (conjuncts : List Cond) (tuple : Tuple) → IsWhole catalog tree whole → AreTests catalog (conjuncts_in tree) conjuncts
    → truth tuple whole ≡ truth tuple (conds.And conjuncts)
splitting catalog tree whole conjuncts tuple is are = whole_is tuple is are ∙ sym (truth-And tuple conjuncts)
