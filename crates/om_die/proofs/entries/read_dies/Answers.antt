use Rattle.std.proofs.Common.{refl}
use Rattle.std.proofs.lemmas.Result.{err_from_is_err_and}
use Rattle.om_die.specs.AbbreviationIndex.{find_in}
use Rattle.om_die.specs.Steps.{item_of}
use Rattle.om_die.proofs.DieLaws.{starts, goes_on, shorter, some_left, stops_or}
use Rattle.om_die.proofs.entries.read_dies.Goals as goal

pub loop-rest-init : goal.loop-rest-init
loop-rest-init c = rw c.new-dies.ensures (starts c.args.context.now (find_in c.args.table.now) c.args.left c.args.at c.args.bytes.now)

pub returns-in_err-entry-clause-fault : goal.returns-in_err-entry-clause-fault
returns-in_err-entry-clause-fault c =
    let p = err_from_is_err_and c.from_residual.result c.from_residual.ensures.1 in
    let some = some_left c.loop-rest.rest.now c.is_empty.result c.is_empty.ensures c.loop-rest-test.true in
    let fault = rw c.len.ensures at c.in_err-entry.ensures.fault in
    rw (p.1, p.2) (stops_or c.args.context.now (find_in c.args.table.now) c.args.left c.args.at c.args.bytes.now c.loop-rest.dies c.loop-rest.depth c.loop-rest.rest.now _ c.in_err-entry.field-0.0
    c.loop-rest.invariant refl some fault)

pub loop-rest-smaller : goal.loop-rest-smaller
loop-rest-smaller c =
    shorter c.args.context.now (find_in c.args.table.now) _ c.loop-rest.rest.now (item_of c.in_ok-entry.entry) c.in_ok-entry.tail.now c.in_ok-entry.ensures.item

pub loop-rest-preserved : goal.loop-rest-preserved
loop-rest-preserved c =
    let first = rw c.len.ensures at c.in_ok-entry.ensures.item in
    rw (c.in_ok-depth.ensures.0, c.in_ok-depth.ensures.1) (goes_on c.args.context.now (find_in c.args.table.now) c.args.left c.args.at c.args.bytes.now c.loop-rest.dies c.loop-rest.depth c.loop-rest.rest.now _ (item_of c.in_ok-entry.entry) c.in_ok-entry.tail.now
    c.loop-rest.invariant refl first)
