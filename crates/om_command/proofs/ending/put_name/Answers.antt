use Rattle.om_io.proofs.PutsLemmas.{puts_then, puts_stops}
use Rattle.std.proofs.Common.{◌++◌}
use Rattle.om_table.specs.Escape.{escaped}
use Rattle.om_command.proofs.ending.put_name.Goals as goal

pub returns-in-Err : goal.returns-in-Err
returns-in-Err g c = puts_stops (escaped c.args.name.now ++ c.args.after.now) c.in-Err.ensures

pub returns-in-Err-put_escaped : goal.returns-in-Err-put_escaped
returns-in-Err-put_escaped g c = puts_then c.in-Ok.ensures (puts_stops c.args.after.now (rw c.as_bytes.ensures.value at c.in-Err-put_escaped.ensures))

pub returns : goal.returns
returns g c = puts_then c.in-Ok.ensures (puts_then (rw c.as_bytes.ensures.value at c.in-Ok-put_escaped.ensures) c.put_all-2.ensures)
