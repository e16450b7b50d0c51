use Rattle.std.proofs.Common.{[], ◌∷◌}
use Rattle.om_io.proofs.PutsLemmas.{puts_then, puts_stops}
use Rattle.om_command.proofs.lines.put_refusal.Goals as goal

pub returns-in-Ok : goal.returns-in-Ok
returns-in-Ok g c = puts_then c.in-Ok.ensures c.put_all.ensures

pub returns-in-Err : goal.returns-in-Err
returns-in-Err g c = puts_stops (10 ∷ []) c.in-Err.ensures
