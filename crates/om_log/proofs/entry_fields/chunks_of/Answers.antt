use Rattle.std.proofs.Common.{arith, refl}
use Rattle.om_log.specs.EntryFields.{chunks_field}
use Rattle.om_log.proofs.FieldLaws.{IsBytes}
use Rattle.om_log.proofs.EntryLaws.{SkipsTo, skipped, IsBytes-number}
use Rattle.om_log.proofs.entry_fields.chunks_of.Goals as goal
use Rattle.om_log.proofs.entry_fields.chunks_of.Goals.{In_ok-rest}

-- what behind_chunks left out is spelled in front of what it left
skips : (c : In_ok-rest) → SkipsTo c.in_ok-count.count c.in_ok-count.spelled.now c.in_ok-rest.rest.now
skips c =
    let fits : IsBytes c.args.bytes.now = λ i. omega (arith, c.type_inv.bytes i) in
    let behind = IsBytes-number 4 c.args.bytes.now (c.in_ok-count.count, c.in_ok-count.spelled.now) fits c.in_ok-count.ensures in
    skipped c.in_ok-count.count c.in_ok-count.spelled.now c.in_ok-rest.rest.now behind c.in_ok-rest.ensures

pub overflow_sub-spelled : goal.overflow_sub-spelled
overflow_sub-spelled c = (skips (goal.at.overflow_sub-spelled c).In_ok-rest).within

pub returns : goal.returns
unfolding chunks_field
returns c =
    let skip = skips (goal.at.returns c).In_ok-rest in
    rw (c.in_ok-count.ensures, skip.read, c.spelled.ensures, c.split_at.ensures.front, c.split_at.ensures.back) refl
