use Rattle.std.proofs.Common.{◌≡◌, ◌+◌, ◌≤◌, length, arith}
use Rattle.om_base.specs.Numbers.{le}
use Rattle.om_mem.proofs.SpotLemmas.{taken, two_taken, four_taken}
use Rattle.om_mem.proofs.reading.number_from.Goals as goal

pub returns-then-count-eq4 : goal.returns-then-count-eq4
unfolding le
returns-then-count-eq4 c =
    let fits : c.args.at + 4 ≤ length c.args.bytes.now = omega arith in
    rw (c.if-count-eq4.true, four_taken c.args.bytes.now c.args.at fits) (omega arith)

pub returns-then-count-eq2 : goal.returns-then-count-eq2
unfolding le
returns-then-count-eq2 c =
    let fits : c.args.at + 2 ≤ length c.args.bytes.now = omega arith in
    rw (c.if-count-eq2.true, two_taken c.args.bytes.now c.args.at fits) (omega arith)

pub returns-else-count-eq2 : goal.returns-else-count-eq2
unfolding le
returns-else-count-eq2 c =
    let one : c.args.count ≡ 1 = omega arith in
    rw (one, taken c.args.bytes.now c.args.at 0 (omega arith)) (omega arith)
