use Rattle.om_log.proofs.EntryLaws.{first_of_zero, first_of_none, first_of_some}
use Rattle.om_log.proofs.writes.Writes.split_spelled.Goals as goal

pub returns-then-count-eq0 : goal.returns-then-count-eq0
returns-then-count-eq0 c = first_of_zero c.args.count c.args.bytes.now c.if-count-eq0.true

pub returns-in_err-write : goal.returns-in_err-write
returns-in_err-write c =
    rw c.from_residual.ensures (first_of_none c.args.count c.args.bytes.now c.if-count-eq0.false c.in_err-write.ensures)

pub returns : goal.returns
returns c =
    rw c.spelled.ensures (first_of_some c.args.count c.args.bytes.now (c.in_ok-write.write, c.in_ok-write.rest.now) c.if-count-eq0.false c.in_ok-write.ensures)
