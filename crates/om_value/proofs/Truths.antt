-- The equations of truths.
use Rattle.std.proofs.Common.{◌≡◌, List, [], ◌∷◌, map, length, get_or, refl, sym, ap, ◌∙◌, arith}
use Rattle.om_value.specs.Meaning.{compared, between, is_among, is_null, negated, all_of, any_of, with_polarity, truth_with, truth_step}
use Rattle.om_value.specs.declared.comparison.Compare.{Compare}
use Rattle.om_value.specs.declared.cond.Cond.{Cond}
use Rattle.om_value.specs.declared.cond.Cond.TheFolds.{fold-roll-Cond}
use Rattle.om_value.specs.declared.cond.Cond.TheOpen.{Cond-F}
use Rattle.om_value.specs.declared.cond.Cond.TheVariants as cond
use Rattle.om_value.specs.declared.cond.Cond.TheVariants.{rolls-Compare, rolls-Between, rolls-In, rolls-IsNull, rolls-Not, rolls-All, rolls-Any}
use Rattle.om_value.specs.declared.cond.Polarity.{Polarity}
use Rattle.om_value.specs.declared.expr.Expr.{Expr}
use Rattle.om_value.specs.declared.truth.Truth.{Truth}
use Rattle.om_value.specs.declared.truth.Truth.TheVariants.{Yes, No, Unknown}
use Rattle.om_value.specs.declared.value.Owned.{Owned}

pub truth-Compare : (worth : Expr → Owned) (compare : Compare) (left right : Expr) → truth_with worth (cond.Compare compare left right) ≡ compared compare (worth left) (worth right)
unfolding truth_with
truth-Compare worth compare left right = ap (truth_with worth) (sym (rolls-Compare compare left right)) ∙ fold-roll-Cond Truth (truth_step worth) (Cond-F.Compare compare left right)

pub truth-Between : (worth : Expr → Owned) (polarity : Polarity) (what low high : Expr) → truth_with worth (cond.Between polarity what low high) ≡ with_polarity polarity (between (worth what) (worth low) (worth high))
unfolding truth_with
truth-Between worth polarity what low high = ap (truth_with worth) (sym (rolls-Between polarity what low high)) ∙ fold-roll-Cond Truth (truth_step worth) (Cond-F.Between polarity what low high)

pub truth-In : (worth : Expr → Owned) (polarity : Polarity) (what : Expr) (list : List Expr) → truth_with worth (cond.In polarity what list) ≡ with_polarity polarity (is_among worth what list)
unfolding truth_with
truth-In worth polarity what list = ap (truth_with worth) (sym (rolls-In polarity what list)) ∙ fold-roll-Cond Truth (truth_step worth) (Cond-F.In polarity what list)

pub truth-IsNull : (worth : Expr → Owned) (polarity : Polarity) (what : Expr) → truth_with worth (cond.IsNull polarity what) ≡ with_polarity polarity (is_null (worth what))
unfolding truth_with
truth-IsNull worth polarity what = ap (truth_with worth) (sym (rolls-IsNull polarity what)) ∙ fold-roll-Cond Truth (truth_step worth) (Cond-F.IsNull polarity what)

pub truth-Not : (worth : Expr → Owned) (member : Cond) → truth_with worth (cond.Not member) ≡ negated (truth_with worth member)
unfolding truth_with
truth-Not worth member = ap (truth_with worth) (sym (rolls-Not member)) ∙ fold-roll-Cond Truth (truth_step worth) (Cond-F.Not member)

pub truth-All : (worth : Expr → Owned) (members : List Cond) → truth_with worth (cond.All members) ≡ all_of (map (truth_with worth) members)
unfolding truth_with
truth-All worth members = ap (truth_with worth) (sym (rolls-All members)) ∙ fold-roll-Cond Truth (truth_step worth) (Cond-F.All members)

pub truth-Any : (worth : Expr → Owned) (members : List Cond) → truth_with worth (cond.Any members) ≡ any_of (map (truth_with worth) members)
unfolding truth_with
truth-Any worth members = ap (truth_with worth) (sym (rolls-Any members)) ∙ fold-roll-Cond Truth (truth_step worth) (Cond-F.Any members)

all_of_one : (found : Truth) → all_of (found ∷ []) ≡ found
all_of_one Yes = refl
all_of_one No = refl
all_of_one Unknown = refl

-- of one member AND is the truth of that
pub truth_one : (worth : Expr → Owned) (members : List Cond) (only : Cond) → length members ≡ 1 → only ≡ get_or members 0 only → truth_with worth only ≡ truth_with worth (cond.All members)
truth_one worth [] only one is = absurd (omega (arith, one))
truth_one worth (member ∷ []) only one is = rw truth-All (ap (truth_with worth) is ∙ sym (all_of_one (truth_with worth member)))
truth_one worth (member ∷ other ∷ members) only one is = absurd (omega (arith, one))
