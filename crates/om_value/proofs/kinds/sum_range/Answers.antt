use Rattle.std.proofs.Common.{◌+ℤ◌, ◌-ℤ◌, SFits, rules, ◌∙◌}
use Rattle.std.proofs.lemmas.Int.{to_z-of_z}
use Rattle.std.specs.Int.{w128}
use Rattle.om_value.proofs.Ranges.{near_range}
use Rattle.om_value.proofs.kinds.sum_range.Goals as goal

pub returns-in-Plus : goal.returns-in-Plus
returns-in-Plus c =
    let ll : SFits w128 c.args.left.lo = search rules in
    let lh : SFits w128 c.args.left.hi = search rules in
    let rl : SFits w128 c.args.right.lo = search rules in
    let rh : SFits w128 c.args.right.hi = search rules in
    let x : SFits w128 c.saturating_add.result = search rules in
    let y : SFits w128 c.saturating_add-in-Plus.result = search rules in
    let low = simp to_z-of_z at c.saturating_add.ensures in
    let high = simp to_z-of_z at c.saturating_add-in-Plus.ensures in
    let range = simp to_z-of_z at c.in_range.ensures in
    rw c.in-Plus.is (range ∙ rw (low, high) (near_range (c.args.left.lo +ℤ c.args.right.lo) (c.args.left.hi +ℤ c.args.right.hi)))

pub returns-in-Minus : goal.returns-in-Minus
returns-in-Minus c =
    let ll : SFits w128 c.args.left.lo = search rules in
    let lh : SFits w128 c.args.left.hi = search rules in
    let rl : SFits w128 c.args.right.lo = search rules in
    let rh : SFits w128 c.args.right.hi = search rules in
    let x : SFits w128 c.saturating_sub.result = search rules in
    let y : SFits w128 c.saturating_sub-in-Minus.result = search rules in
    let low = simp to_z-of_z at c.saturating_sub.ensures in
    let high = simp to_z-of_z at c.saturating_sub-in-Minus.ensures in
    let range = simp to_z-of_z at c.in_range-in-Minus.ensures in
    rw c.in-Minus.is (range ∙ rw (low, high) (near_range (c.args.left.lo -ℤ c.args.right.hi) (c.args.left.hi -ℤ c.args.right.lo)))
