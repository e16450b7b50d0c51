use Rattle.std.proofs.Common.{sym}
use Rattle.om_names.specs.KeptVariables.{loop_by}
use Rattle.om_names.proofs.EntryByEntryLemmas.{first_found, first_more, first_none}
use Rattle.om_names.proofs.variables.loop_in.Goals as goal

pub returns-in-Some : goal.returns-in-Some
returns-in-Some c =
    first_found (loop_by c.args.names.now) c.args.dies.now c.loop-die.die-index c.die-item.result c.die-item.result c.in-Some.at c.loop-die-test.true c.die-item.is c.loop-die.invariant (sym c.in-Some.ensures)

pub loop-die-preserved : goal.loop-die-preserved
loop-die-preserved c =
    first_more (loop_by c.args.names.now) c.args.dies.now c.loop-die.die-index c.die-item.result c.die-item.result c.loop-die-test.true c.die-item.is c.loop-die.invariant (sym c.in_default.ensures)

pub returns : goal.returns
returns c = first_none (loop_by c.args.names.now) c.args.dies.now c.loop-die.die-index c.loop-die-test.false c.loop-die.invariant
