use Rattle.std.proofs.Common.{◌*ℤ◌, SFits, rules, ◌∙◌}
use Rattle.std.proofs.lemmas.Int.{to_z-of_z}
use Rattle.std.specs.Int.{w128}
use Rattle.om_value.specs.Kinds.{least_of, greatest_of}
use Rattle.om_value.proofs.Ranges.{near_range, near_least, near_greatest}
use Rattle.om_value.proofs.kinds.product_range.Goals as goal

pub returns : goal.returns
returns c =
    let ll : SFits w128 c.args.left.lo = search rules in
    let lh : SFits w128 c.args.left.hi = search rules in
    let rl : SFits w128 c.args.right.lo = search rules in
    let rh : SFits w128 c.args.right.hi = search rules in
    let fa : SFits w128 c.saturating_mul-a.result = search rules in
    let fb : SFits w128 c.saturating_mul-b.result = search rules in
    let fc : SFits w128 c.saturating_mul-c.result = search rules in
    let fd : SFits w128 c.saturating_mul-d.result = search rules in
    let fl : SFits w128 c.least_of.result = search rules in
    let fg : SFits w128 c.greatest_of.result = search rules in
    let a = simp to_z-of_z at c.saturating_mul-a.ensures in
    let b = simp to_z-of_z at c.saturating_mul-b.ensures in
    let d = simp to_z-of_z at c.saturating_mul-c.ensures in
    let e = simp to_z-of_z at c.saturating_mul-d.ensures in
    let least = simp to_z-of_z at c.least_of.ensures in
    let greatest = simp to_z-of_z at c.greatest_of.ensures in
    let range = simp to_z-of_z at c.in_range.ensures in
    range ∙ rw (least, greatest, a, b, d, e, ← (near_least (c.args.left.lo *ℤ c.args.right.lo) (c.args.left.lo *ℤ c.args.right.hi) (c.args.left.hi *ℤ c.args.right.lo) (c.args.left.hi *ℤ c.args.right.hi)), ← (near_greatest (c.args.left.lo *ℤ c.args.right.lo) (c.args.left.lo *ℤ c.args.right.hi) (c.args.left.hi *ℤ c.args.right.lo) (c.args.left.hi *ℤ c.args.right.hi))) (near_range (least_of (c.args.left.lo *ℤ c.args.right.lo) (c.args.left.lo *ℤ c.args.right.hi) (c.args.left.hi *ℤ c.args.right.lo) (c.args.left.hi *ℤ c.args.right.hi)) (greatest_of (c.args.left.lo *ℤ c.args.right.lo) (c.args.left.lo *ℤ c.args.right.hi) (c.args.left.hi *ℤ c.args.right.lo) (c.args.left.hi *ℤ c.args.right.hi)))
