use Rattle.std.proofs.Common.{◌≡◌, SFits, rules, arith}
use Rattle.std.proofs.lemmas.Int.{to_z-of_z}
use Rattle.std.specs.Int.{w128}
use Rattle.om_value.specs.Kinds.{quotient_kind, quotient_range}
use Rattle.om_value.proofs.kinds.quotient_kind.Goals as goal

pub returns-in-Int : goal.returns-in-Int
unfolding quotient_kind
returns-in-Int c =
    let l : SFits w128 c.in-Int.found.lo = search rules in
    let h : SFits w128 c.in-Int.found.hi = search rules in
    let x : SFits w128 c.quotient_of.result = search rules in
    let y : SFits w128 c.quotient_of-in-Int.result = search rules in
    let low = simp to_z-of_z at c.quotient_of.ensures in
    let high = simp to_z-of_z at c.quotient_of-in-Int.ensures in
    let range = simp to_z-of_z at c.in_range.ensures in
    let same : c.in_range.result ≡ quotient_range c.args.divisor c.in-Int.found = rw (range, low, high) (search rules) in
    rw c.in-Int.is (grind (arith, same, c.if-divisor-eq0.false))
