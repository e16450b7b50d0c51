use Rattle.std.proofs.Common.{◌++◌}
use Rattle.om_io.proofs.PutsLemmas.{puts_then, puts_stops}
use Rattle.om_command.specs.Told.{number_text, told_text}
use Rattle.om_command.proofs.told.put_told.Goals as goal

pub returns-in-Err : goal.returns-in-Err
returns-in-Err g c = puts_stops (told_text c.args.told.now) c.in-Err.ensures

pub returns-in-Err-put_all : goal.returns-in-Err-put_all
returns-in-Err-put_all g c =
    puts_then c.in-Ok.ensures (puts_stops (number_text c.args.told.now.first ++ number_text c.args.told.now.second) c.in-Err-put_all.ensures)

pub returns-in-Err-put_number : goal.returns-in-Err-put_number
returns-in-Err-put_number g c =
    puts_then c.in-Ok.ensures (puts_then c.in-Ok-put_all.ensures (puts_stops (number_text c.args.told.now.second) c.in-Err-put_number.ensures))

pub returns-in-Ok-put_number : goal.returns-in-Ok-put_number
returns-in-Ok-put_number g c =
    puts_then c.in-Ok.ensures (puts_then c.in-Ok-put_all.ensures (puts_then c.in-Ok-put_number.ensures c.put_number-in-Ok-put_number.ensures))
