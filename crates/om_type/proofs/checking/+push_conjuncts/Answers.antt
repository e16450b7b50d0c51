use Rattle.std.proofs.Common.{rules}
use Rattle.om_type.proofs.ConjunctLemmas.{at_end, one_more, one_refused, tests_of-All, tests_of-Compare}
use Rattle.om_type.proofs.checking.+push_conjuncts.Goals as goal

pub returns-in_err-push_conjuncts-in-All : goal.returns-in_err-push_conjuncts-in-All
returns-in_err-push_conjuncts-in-All t c =
    let refused = one_refused _ _ _ _ _ _ c.in_err-push_conjuncts-in-All.field-0.0 c.loop-member-test.true c.member-item.is c.loop-member.invariant c.in_err-push_conjuncts-in-All.ensures in
    rw (c.in-All.is, tests_of-All, ← c.as_slice-member-items.ensures) (search (rules, refused))

pub loop-member-preserved : goal.loop-member-preserved
loop-member-preserved t c =
    one_more _ _ _ _ _ _ c.member-item.result c.loop-member-test.true c.member-item.is c.loop-member.invariant c.in_ok-push_conjuncts-in-All.ensures

pub returns-in-Compare : goal.returns-in-Compare
returns-in-Compare t c = rw (c.in-Compare.is, tests_of-Compare) c.push_comparison.ensures

pub returns-after-loop-member : goal.returns-after-loop-member
returns-after-loop-member t c =
    rw (c.in-All.is, tests_of-All, ← c.as_slice-member-items.ensures) (at_end _ _ _ _ _ c.loop-member-test.false c.loop-member.invariant)
