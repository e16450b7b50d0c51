use Rattle.std.proofs.Common.{sym, ap, ◌∙◌}
use Rattle.std.proofs.lemmas.Bool.{eqb-true}
use Rattle.std.proofs.lemmas.Result.{err_from_is_err_and}
use Rattle.om_cfi.proofs.CutLemmas.{all_left, cut_or, goes_on, none_left, smaller, some_left}
use Rattle.om_cfi.proofs.entries.cut.Goals as goal

pub loop-left-init : goal.loop-left-init
loop-left-init c = all_left c.args.section.now c.new-entries.result c.new-entries.ensures

pub returns-in_err-keep-clause-fault : goal.returns-in_err-keep-clause-fault
returns-in_err-keep-clause-fault c =
    let p = err_from_is_err_and c.from_residual.result c.from_residual.ensures.1 in
    let some = some_left c.loop-left.left.now c.is_empty.result c.is_empty.ensures c.loop-left-test.true in
    rw (p.1, p.2) (cut_or c.args.section.now c.loop-left.entries c.loop-left.left.now c.loop-left.invariant some c.slot_in-slot.result.0 c.slot_in-slot.result.1
    (record { slot_is = ap (λ r. r.0) c.slot_in-slot.ensures; size_is = ap (λ r. r.1) c.slot_in-slot.ensures }) c.in_err-keep.field-0.0 c.in_err-keep.ensures.fault)

pub loop-left-smaller : goal.loop-left-smaller
loop-left-smaller c =
    let some = some_left c.loop-left.left.now c.is_empty.result c.is_empty.ensures c.loop-left-test.true in
    rw c.behind-left.ensures (smaller c.args.section.now c.loop-left.entries c.loop-left.left.now c.loop-left.invariant some c.slot_in-slot.result.0 c.slot_in-slot.result.1
    (record { slot_is = ap (λ r. r.0) c.slot_in-slot.ensures; size_is = ap (λ r. r.1) c.slot_in-slot.ensures }))

pub loop-left-preserved : goal.loop-left-preserved
loop-left-preserved c =
    let some = some_left c.loop-left.left.now c.is_empty.result c.is_empty.ensures c.loop-left-test.true in
    rw c.behind-left.ensures (goes_on c.args.section.now c.loop-left.entries c.loop-left.left.now c.loop-left.invariant some c.slot_in-slot.result.0 c.slot_in-slot.result.1
    (record { slot_is = ap (λ r. r.0) c.slot_in-slot.ensures; size_is = ap (λ r. r.1) c.slot_in-slot.ensures }) c.keep.new.entries c.in_ok-keep.ensures.whole c.in_ok-keep.ensures.kept)

pub returns-clause-entries : goal.returns-clause-entries
returns-clause-entries c = none_left c.args.section.now c.loop-left.left.now c.loop-left.entries c.loop-left.invariant (eqb-true _ _ (sym c.is_empty.ensures ∙ c.loop-left-test.false))
