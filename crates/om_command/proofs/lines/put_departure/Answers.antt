use Rattle.om_io.proofs.PutsLemmas.{puts_then, puts_stops}
use Rattle.om_command.specs.Lines.{number_words, reason_words}
use Rattle.om_command.proofs.lines.put_departure.Goals as goal

pub returns-in-Err : goal.returns-in-Err
returns-in-Err g c =
    puts_stops (number_words c.args.departure.now.told c.args.departure.now.found)
    (puts_stops (reason_words c.args.departure.now.reason) c.in-Err.ensures)

pub returns-in-Err-put_told : goal.returns-in-Err-put_told
returns-in-Err-put_told g c =
    puts_stops (number_words c.args.departure.now.told c.args.departure.now.found)
    (puts_then c.in-Ok.ensures (rw c.reason_told.ensures at c.in-Err-put_told.ensures))

pub returns : goal.returns
returns g c = puts_then (puts_then c.in-Ok.ensures (rw c.reason_told.ensures at c.in-Ok-put_told.ensures)) c.put_numbers.ensures
