use Rattle.std.proofs.Common.{◌≡◌, false, refl, sym, ◌∙◌}
use Rattle.om_mem.specs.Contents.{may_at}
use Rattle.om_mem.proofs.AcrossLemmas.{refusing-first, refusing-spot}
use Rattle.om_mem.proofs.SpotLemmas.{differ, may_at-place, may_at-spot_at}
use Rattle.om_mem.proofs.reading.first_without.Goals as goal

pub returns-in_default : goal.returns-in_default
returns-in_default c =
    let refused : may_at c.args.regions.now c.loop-left.at c.args.rights ≡ false = rw (may_at-place _ c.loop-left.at c.args.rights, c.in_default.ensures.spot) refl in
    sym (refusing-first _ c.loop-left.at c.loop-left.left c.args.rights c.loop-left-test.true refused) ∙ c.loop-left.invariant

pub returns-then-spot-rights : goal.returns-then-spot-rights
returns-then-spot-rights c =
    let refused = may_at-spot_at _ _ c.in-Some.ensures.spot c.loop-left.at c.args.rights c.in-Some.ensures.low c.in-Some.ensures.high ∙ differ _ c.args.rights c.if-spot-rights.true in
    sym (refusing-first _ c.loop-left.at c.loop-left.left c.args.rights c.loop-left-test.true refused) ∙ c.loop-left.invariant

pub loop-left-preserved : goal.loop-left-preserved
loop-left-preserved c =
    let behind = refusing-spot _ _ c.in-Some.ensures.spot c.loop-left.at c.loop-left.left c.args.rights c.in-Some.ensures.low c.in-Some.ensures.high c.if-spot-rights.false in
    rw c.count_from-piece.ensures (sym behind ∙ c.loop-left.invariant)
