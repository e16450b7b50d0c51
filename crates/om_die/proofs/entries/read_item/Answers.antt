use Rattle.std.proofs.Common.{inl, inr, sym, refl}
use Rattle.om_die.specs.AbbreviationIndex.{find_in}
use Rattle.om_die.proofs.DieLaws.{close_first, entry_first, refused_lack, refused_many, refused_shape}
use Rattle.om_die.proofs.entries.read_item.Goals as goal

pub returns-in_default-clause-fault : goal.returns-in_default-clause-fault
returns-in_default-clause-fault c = inr (inl (c.in_default.ensures, refl))

pub returns-then-code-eq0-clause-item : goal.returns-then-code-eq0-clause-item
returns-then-code-eq0-clause-item c = close_first c.args.context.now (find_in c.args.table.now) c.args.left c.args.bytes.now c.in-Some.rest.now c.in-Some.code c.in-Some.ensures c.if-code-eq0.true

pub returns-then-left-eq0-clause-fault : goal.returns-then-left-eq0-clause-fault
returns-then-left-eq0-clause-fault c =
    inr (refused_many c.args.context.now (find_in c.args.table.now) c.args.left c.args.at c.args.bytes.now c.in-Some.rest.now c.in-Some.code c.in-Some.ensures c.if-code-eq0.false c.if-left-eq0.true)

pub returns-in_default-find-clause-fault : goal.returns-in_default-find-clause-fault
returns-in_default-find-clause-fault c =
    inr (refused_shape c.args.context.now (find_in c.args.table.now) c.args.left c.args.at c.args.bytes.now c.in-Some.rest.now c.in-Some.code c.in-Some.ensures c.if-code-eq0.false c.if-left-eq0.false
    (sym c.in_default-find.ensures))

pub returns-in-Ok-clause-item : goal.returns-in-Ok-clause-item
returns-in-Ok-clause-item c =
    let read = rw c.as_slice.ensures at c.in-Ok.ensures.read in
    entry_first c.args.context.now (find_in c.args.table.now) c.args.left c.args.bytes.now c.in-Some.rest.now c.in-Ok.rest.now c.in-Some.code c.in-Some-find.abbreviation.now c.in-Ok.attrs
    c.in-Some.ensures c.if-code-eq0.false c.if-left-eq0.false (sym c.in-Some-find.ensures) read

pub returns-in-Err-clause-fault : goal.returns-in-Err-clause-fault
returns-in-Err-clause-fault c =
    rw c.lack_fault_at.ensures (refused_lack c.args.context.now (find_in c.args.table.now) c.args.left c.args.at c.args.bytes.now c.in-Some.rest.now c.in-Some.code c.in-Some-find.abbreviation.now c.in-Err.lack
    c.in-Some.ensures c.if-code-eq0.false c.if-left-eq0.false (sym c.in-Some-find.ensures) (rw c.as_slice.ensures at c.in-Err.ensures.lack))
