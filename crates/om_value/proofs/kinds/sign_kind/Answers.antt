use Rattle.std.proofs.Common.{neg_ℤ, SFits, rules, ◌∙◌}
use Rattle.std.proofs.lemmas.Int.{to_z-of_z}
use Rattle.std.specs.Int.{w128}
use Rattle.om_value.proofs.Ranges.{near_range, zero_less}
use Rattle.om_value.specs.Kinds.{sign_kind}
use Rattle.om_value.proofs.kinds.sign_kind.Goals as goal

pub returns-in-Minus : goal.returns-in-Minus
unfolding sign_kind
returns-in-Minus c =
    let l : SFits w128 c.in-Int.found.lo = search rules in
    let h : SFits w128 c.in-Int.found.hi = search rules in
    let x : SFits w128 c.saturating_sub.result = search rules in
    let y : SFits w128 c.saturating_sub-in-Minus.result = search rules in
    let low = simp to_z-of_z at c.saturating_sub.ensures in
    let high = simp to_z-of_z at c.saturating_sub-in-Minus.ensures in
    let range = simp to_z-of_z at c.in_range-in-Minus.ensures in
    rw (c.in-Int.is, c.in-Minus.is) (range ∙ rw (low, high, zero_less, zero_less c.in-Int.found.lo) (near_range (neg_ℤ c.in-Int.found.hi) (neg_ℤ c.in-Int.found.lo)))
