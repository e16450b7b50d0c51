use Rattle.std.proofs.Common.{codes}
use Rattle.om_io.proofs.PutsLemmas.{puts_then, puts_stops}
use Rattle.om_command.proofs.lines.put_limit.Goals as goal

pub returns-in-Ok : goal.returns-in-Ok
returns-in-Ok g c = puts_then c.in-Ok.ensures c.put_all.ensures

pub returns-in-Err : goal.returns-in-Err
returns-in-Err g c = puts_stops (codes " steps, allowed 4000000") c.in-Err.ensures
