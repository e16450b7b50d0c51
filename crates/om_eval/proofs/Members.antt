-- The truth of AND, found member by member.
use Rattle.std.proofs.Common.{◌≡◌, ℕ, ◌+◌, ◌<◌, ◌≤◌, false, List, [], ◌∷◌, length, map, take, get_or, if◌then◌else◌, refl, sym, ap, ◌∙◌, arith}
use Rattle.std.specs.List.{list_any}
use Rattle.std.proofs.Math.ListN.{get_or-map}
use Rattle.std.proofs.lemmas.List.{take_all, length-map}
use Rattle.std.proofs.lemmas.List.Folds.{list_any_more, list_any_at}
use Rattle.om_eval.specs.Row.{Tuple}
use Rattle.om_eval.specs.Meaning.{all_of, is_no, is_unknown, compared, value, truth, truth_step}
use Rattle.om_eval.specs.declared.comparison.Compare.{Compare}
use Rattle.om_eval.specs.declared.cond.Cond.{Cond}
use Rattle.om_eval.specs.declared.cond.Cond.TheFolds.{fold-roll-Cond}
use Rattle.om_eval.specs.declared.cond.Cond.TheOpen.{Cond-F}
use Rattle.om_eval.specs.declared.cond.Cond.TheVariants as cond
use Rattle.om_eval.specs.declared.cond.Cond.TheVariants.{rolls-And, rolls-Compare}
use Rattle.om_eval.specs.declared.cond.Cond.TheViews as view
use Rattle.om_eval.specs.declared.expr.Expr.{Expr}
use Rattle.om_eval.specs.declared.truth.Truth.{Truth}
use Rattle.om_eval.specs.declared.truth.Truth.TheVariants.{Yes, No, Unknown}

pub truth-Compare : (tuple : Tuple) (compare : Compare) (left right : Expr) → truth tuple (cond.Compare compare left right) ≡ compared compare (value tuple left) (value tuple right)
unfolding truth
truth-Compare tuple compare left right = ap (truth tuple) (sym (rolls-Compare compare left right)) ∙ fold-roll-Cond Truth (truth_step tuple) (Cond-F.Compare compare left right)

pub truth-And : (tuple : Tuple) (members : List Cond) → truth tuple (view.And members) ≡ all_of (map (truth tuple) members)
unfolding truth
truth-And tuple members = ap (truth tuple) (sym (rolls-And members)) ∙ fold-roll-Cond Truth (truth_step tuple) (Cond-F.And members)

all_of_one : (found : Truth) → all_of (found ∷ []) ≡ found
all_of_one Yes = refl
all_of_one No = refl
all_of_one Unknown = refl

-- of one member it is the truth of that
pub truth_one : (tuple : Tuple) (members : List Cond) (only : Cond) → length members ≡ 1 → only ≡ get_or members 0 only → truth tuple only ≡ truth tuple (view.And members)
truth_one tuple [] only one is = absurd (omega (arith, one))
truth_one tuple (member ∷ []) only one is = rw truth-And (ap (truth tuple) is ∙ sym (all_of_one (truth tuple member)))
truth_one tuple (member ∷ other ∷ members) only one is = absurd (omega (arith, one))

abbrev truths : Tuple → List Cond → List Truth
truths tuple members = map (truth tuple) members

-- of so many members none is No, and this is the truth of those
pub record IsTruthSoFar (tuple : Tuple) (members : List Cond) (count : ℕ) (found : Truth) : Type 0 where
  pub none : list_any is_no (take count (map (truth tuple) members)) ≡ false
  pub known : found ≡ (if list_any is_unknown (take count (map (truth tuple) members)) then Unknown else Yes)

-- this is the member at that place, and its truth
pub record IsNext (tuple : Tuple) (members : List Cond) (count : ℕ) (next : Cond) (truth_of_next : Truth) : Type 0 where
  pub within : count < length members
  pub is : next ≡ get_or members count next
  pub known : truth_of_next ≡ truth tuple next

within_truths : (tuple : Tuple) (members : List Cond) (count : ℕ) → count < length members → count < length (truths tuple members)
within_truths tuple members count within = rw (length-map members (truth tuple)) within

truth_there : (tuple : Tuple) (members : List Cond) (count : ℕ) (next : Cond) (found : Truth) → IsNext tuple members count next found → get_or (truths tuple members) count (truth tuple next) ≡ found
truth_there tuple members count next found next_is = get_or-map (truth tuple) members count next ∙ ap (truth tuple) (sym next_is.is) ∙ sym next_is.known

pub after_yes : (tuple : Tuple) (members : List Cond) (count : ℕ) (found : Truth) (next : Cond) → IsNext tuple members count next Yes → IsTruthSoFar tuple members count found → IsTruthSoFar tuple members (count + 1) found
after_yes tuple members count found next next_is so_far =
    let there = truth_there tuple members count next Yes next_is in
    let within = within_truths tuple members count next_is.within in
    record {
      none = grind (arith, there, list_any_more is_no (truths tuple members) count (truth tuple next) within, so_far.none);
      known = grind (arith, there, list_any_more is_unknown (truths tuple members) count (truth tuple next) within, so_far.known);
    }

pub after_unknown : (tuple : Tuple) (members : List Cond) (count : ℕ) (found : Truth) (next : Cond) → IsNext tuple members count next Unknown → IsTruthSoFar tuple members count found → IsTruthSoFar tuple members (count + 1) Unknown
after_unknown tuple members count found next next_is so_far =
    let there = truth_there tuple members count next Unknown next_is in
    let within = within_truths tuple members count next_is.within in
    record {
      none = grind (arith, there, list_any_more is_no (truths tuple members) count (truth tuple next) within, so_far.none);
      known = grind (arith, there, list_any_more is_unknown (truths tuple members) count (truth tuple next) within);
    }

-- a member that is No settles it
pub at_no : (tuple : Tuple) (members : List Cond) (count : ℕ) (next : Cond) → IsNext tuple members count next No → No ≡ truth tuple (view.And members)
at_no tuple members count next next_is =
    let there = truth_there tuple members count next No next_is in
    let within = within_truths tuple members count next_is.within in
    let some = list_any_at is_no (truths tuple members) count (truth tuple next) within (ap is_no there) in
    rw (truth-And tuple members, some) refl

-- all members were seen
pub at_end : (tuple : Tuple) (members : List Cond) (count : ℕ) (found : Truth) → length members ≤ count → IsTruthSoFar tuple members count found → found ≡ truth tuple (view.And members)
at_end tuple members count found whole so_far =
    let all = take_all count (truths tuple members) (rw (length-map members (truth tuple)) whole) in
    let none = rw all at so_far.none in
    let known = rw all at so_far.known in
    rw (truth-And tuple members, none) known
