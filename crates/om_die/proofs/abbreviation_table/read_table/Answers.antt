use Rattle.om_die.proofs.IndexLemmas.{goes_on, starts}
use Rattle.om_die.proofs.abbreviation_table.read_table.Goals as goal

pub loop-table-init : goal.loop-table-init
loop-table-init c = starts c.args.bytes.now c.new.result c.new.ensures.empty

pub loop-table-preserved : goal.loop-table-preserved
loop-table-preserved c =
    goes_on c.args.bytes.now c.loop-table.rest.now c.in-Some.behind.now c.loop-table.table.by_code c.add.new.self.by_code
    (record { code = c.in-Some.code; abbreviation = c.in-Some.abbreviation }) c.loop-table.invariant (rw c.in-Some.is at c.in_ok-code.ensures) c.in_ok-add.ensures
