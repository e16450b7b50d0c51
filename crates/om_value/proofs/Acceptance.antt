-- A condition that is accepted has the same truth in 128 bits as exactly.
use Rattle.std.proofs.Common.{◌≡◌, List, [], ◌∷◌, map, Ok, refl, sym, ap, ◌∙◌}
use Rattle.std.specs.List.{fold}
use Rattle.om_value.specs.Row.{Tuple}
use Rattle.om_value.specs.Meaning.{compared, between, is_null, negated, all_of, any_of, with_polarity, value, near_value, truth, near_truth}
use Rattle.om_value.specs.Kinds.{after, kind, Accepts, both_accepted, all_accepted, judged, comparable, accept_step, accepts, compare_kinds, HasKinds}
use Rattle.om_value.specs.declared.column.ColumnId.{ColumnId}
use Rattle.om_value.specs.declared.comparison.Compare.{Compare}
use Rattle.om_value.specs.declared.comparison.Compare.TheVariants as compare
use Rattle.om_value.specs.declared.cond.Cond.{Cond}
use Rattle.om_value.specs.declared.cond.Cond.TheFolds.{fold-roll-Cond}
use Rattle.om_value.specs.declared.cond.Cond.TheOpen.{Cond-F}
use Rattle.om_value.specs.declared.cond.Cond.TheVariants as cond
use Rattle.om_value.specs.declared.cond.Cond.TheVariants.{rolls-Compare, rolls-Between, rolls-In, rolls-IsNull, rolls-Not, rolls-All, rolls-Any}
use Rattle.om_value.specs.declared.cond.Polarity.{Polarity}
use Rattle.om_value.specs.declared.expr.Expr.{Expr}
use Rattle.om_value.specs.declared.kind.Kind.{Kind}
use Rattle.om_value.specs.declared.value.Owned.{Owned}
use Rattle.om_value.proofs.Induction.{Each, by_cond_cases}
use Rattle.om_value.proofs.Intervals.{came, expr_sound}
use Rattle.om_value.proofs.Truths.{truth-Compare, truth-Between, truth-In, truth-IsNull, truth-Not, truth-All, truth-Any}

pub accepts-Compare : (columns : ColumnId → Kind) (compare : Compare) (left right : Expr) → accepts columns (cond.Compare compare left right) ≡ comparable columns left right
unfolding accepts
accepts-Compare columns compare left right = ap (accepts columns) (sym (rolls-Compare compare left right)) ∙ fold-roll-Cond Accepts (accept_step columns) (Cond-F.Compare compare left right)

pub accepts-Between : (columns : ColumnId → Kind) (polarity : Polarity) (what low high : Expr) → accepts columns (cond.Between polarity what low high) ≡ both_accepted (comparable columns what low) (comparable columns what high)
unfolding accepts
accepts-Between columns polarity what low high = ap (accepts columns) (sym (rolls-Between polarity what low high)) ∙ fold-roll-Cond Accepts (accept_step columns) (Cond-F.Between polarity what low high)

pub accepts-In : (columns : ColumnId → Kind) (polarity : Polarity) (what : Expr) (list : List Expr) → accepts columns (cond.In polarity what list) ≡ both_accepted (judged columns what) (all_accepted (map (comparable columns what) list))
unfolding accepts
accepts-In columns polarity what list = ap (accepts columns) (sym (rolls-In polarity what list)) ∙ fold-roll-Cond Accepts (accept_step columns) (Cond-F.In polarity what list)

pub accepts-IsNull : (columns : ColumnId → Kind) (polarity : Polarity) (what : Expr) → accepts columns (cond.IsNull polarity what) ≡ judged columns what
unfolding accepts
accepts-IsNull columns polarity what = ap (accepts columns) (sym (rolls-IsNull polarity what)) ∙ fold-roll-Cond Accepts (accept_step columns) (Cond-F.IsNull polarity what)

pub accepts-Not : (columns : ColumnId → Kind) (member : Cond) → accepts columns (cond.Not member) ≡ accepts columns member
unfolding accepts
accepts-Not columns member = ap (accepts columns) (sym (rolls-Not member)) ∙ fold-roll-Cond Accepts (accept_step columns) (Cond-F.Not member)

pub accepts-All : (columns : ColumnId → Kind) (members : List Cond) → accepts columns (cond.All members) ≡ all_accepted (map (accepts columns) members)
unfolding accepts
accepts-All columns members = ap (accepts columns) (sym (rolls-All members)) ∙ fold-roll-Cond Accepts (accept_step columns) (Cond-F.All members)

pub accepts-Any : (columns : ColumnId → Kind) (members : List Cond) → accepts columns (cond.Any members) ≡ all_accepted (map (accepts columns) members)
unfolding accepts
accepts-Any columns members = ap (accepts columns) (sym (rolls-Any members)) ∙ fold-roll-Cond Accepts (accept_step columns) (Cond-F.Any members)

abbrev IsAccepted : Accepts → Type 0
IsAccepted found = found ≡ Ok tt

both_are : (first second : Accepts) → both_accepted first second ≡ Ok tt → IsAccepted first × IsAccepted second
both_are first second is = let found = came first (λ _. second) tt is in (found.1, found.2)

from_all : (before : Accepts) (members : List Accepts) → fold both_accepted before members ≡ Ok tt → IsAccepted before × Each IsAccepted members
from_all before [] is = (is, tt)
from_all before (member ∷ members) is =
    let later = from_all (both_accepted before member) members is in
    let here = both_are before member later.0 in
    (here.0, (here.1, later.1))

-- the values of an expression are one
abbrev Same : Tuple → Expr → Type 0
Same t e = near_value t e ≡ value t e

judged_same : (columns : ColumnId → Kind) (t : Tuple) → HasKinds columns t → (e : Expr) → judged columns e ≡ Ok tt → Same t e
judged_same columns t has e is =
    let found = came (kind columns e) (λ _. (let made : Accepts = Ok tt in made)) tt is in
    (expr_sound columns t has e found.0 found.1).0

comparable_same : (columns : ColumnId → Kind) (t : Tuple) → HasKinds columns t → (left right : Expr) → comparable columns left right ≡ Ok tt → Same t left × Same t right
comparable_same columns t has left right is =
    let first = came (kind columns left) (λ found. after (kind columns right) (compare_kinds found)) tt is in
    let second = came (kind columns right) (compare_kinds first.0) tt first.2 in
    ((expr_sound columns t has left first.0 first.1).0, (expr_sound columns t has right second.0 second.1).0)

same_compared : (op : Compare) (one other : Expr → Owned) (left right : Expr) → one left ≡ other left → one right ≡ other right → compared op (one left) (one right) ≡ compared op (other left) (other right)
same_compared op one other left right p q = ap (λ v. compared op v (one right)) p ∙ ap (compared op (other left)) q

same_list : (columns : ColumnId → Kind) (t : Tuple) → HasKinds columns t → (what : Expr) → Same t what → (list : List Expr) → Each IsAccepted (map (comparable columns what) list) → map (λ one. compared compare.Equal (near_value t what) (near_value t one)) list ≡ map (λ one. compared compare.Equal (value t what) (value t one)) list
same_list columns t has what same [] each = refl
same_list columns t has what same (one ∷ list) each =
    let here = comparable_same columns t has what one each.0 in
    ap (λ found. found ∷ map (λ one. compared compare.Equal (near_value t what) (near_value t one)) list) (same_compared compare.Equal (near_value t) (value t) what one same here.1) ∙ ap (λ later. compared compare.Equal (value t what) (value t one) ∷ later) (same_list columns t has what same list each.1)

abbrev Holds : (ColumnId → Kind) → Tuple → Cond → Type 0
Holds columns t c = accepts columns c ≡ Ok tt → near_truth t c ≡ truth t c

same_members : (columns : ColumnId → Kind) (t : Tuple) (members : List Cond) → Each (Holds columns t) members → Each IsAccepted (map (accepts columns) members) → map (near_truth t) members ≡ map (truth t) members
same_members columns t [] each accepted = refl
same_members columns t (member ∷ members) each accepted = ap (λ found. found ∷ map (near_truth t) members) (each.0 accepted.0) ∙ ap (λ later. truth t member ∷ later) (same_members columns t members each.1 accepted.1)

pub cond_sound : (columns : ColumnId → Kind) (t : Tuple) → HasKinds columns t → (c : Cond) → accepts columns c ≡ Ok tt → near_truth t c ≡ truth t c
cond_sound columns t has = by_cond_cases (Holds columns t) record {
  compare = λ op left right is.
      let same = comparable_same columns t has left right (sym (accepts-Compare columns op left right) ∙ is) in
      truth-Compare (near_value t) op left right ∙ same_compared op (near_value t) (value t) left right same.0 same.1 ∙ sym (truth-Compare (value t) op left right);
  between = λ polarity what low high is.
      let both = both_are _ _ (sym (accepts-Between columns polarity what low high) ∙ is) in
      let first = comparable_same columns t has what low both.0 in
      let second = comparable_same columns t has what high both.1 in
      truth-Between (near_value t) polarity what low high ∙ ap (λ v. with_polarity polarity (between v (near_value t low) (near_value t high))) first.0 ∙ ap (λ v. with_polarity polarity (between (value t what) v (near_value t high))) first.1 ∙ ap (λ v. with_polarity polarity (between (value t what) (value t low) v)) second.1 ∙ sym (truth-Between (value t) polarity what low high);
  among = λ polarity what list is.
      let both = both_are _ _ (sym (accepts-In columns polarity what list) ∙ is) in
      let same = judged_same columns t has what both.0 in
      let each = from_all (Ok tt) (map (comparable columns what) list) both.1 in
      truth-In (near_value t) polarity what list ∙ ap (λ found. with_polarity polarity (any_of found)) (same_list columns t has what same list each.1) ∙ sym (truth-In (value t) polarity what list);
  is_null = λ polarity what is.
      let same = judged_same columns t has what (sym (accepts-IsNull columns polarity what) ∙ is) in
      truth-IsNull (near_value t) polarity what ∙ ap (λ v. with_polarity polarity (is_null v)) same ∙ sym (truth-IsNull (value t) polarity what);
  negation = λ member holds is. truth-Not (near_value t) member ∙ ap negated (holds (sym (accepts-Not columns member) ∙ is)) ∙ sym (truth-Not (value t) member);
  all = λ members each is.
      let accepted = from_all (Ok tt) (map (accepts columns) members) (sym (accepts-All columns members) ∙ is) in
      truth-All (near_value t) members ∙ ap all_of (same_members columns t members each accepted.1) ∙ sym (truth-All (value t) members);
  any = λ members each is.
      let accepted = from_all (Ok tt) (map (accepts columns) members) (sym (accepts-Any columns members) ∙ is) in
      truth-Any (near_value t) members ∙ ap any_of (same_members columns t members each accepted.1) ∙ sym (truth-Any (value t) members);
}
