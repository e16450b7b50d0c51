use Rattle.std.proofs.Common.{codes, ◌++◌, subst}
use Rattle.om_io.specs.Writing.{Puts}
use Rattle.om_command.specs.Lines.{refusal_line}
use Rattle.om_command.proofs.lines.put_words.Goals as goal

pub returns-in-NoRoom : goal.returns-in-NoRoom
unfolding refusal_line
returns-in-NoRoom g c =
    rw c.in-NoRoom.is
    (subst (λ words. Puts (g.P.Sink.told c.args.sink.now) (g.P.Sink.told c.put_told-in-NoRoom.new.sink) (codes "omni: executable: " ++ words) c.put_told-in-NoRoom.result)
    c.places.ensures c.put_told-in-NoRoom.ensures)

pub returns-in-LogTooLong : goal.returns-in-LogTooLong
unfolding refusal_line
returns-in-LogTooLong g c =
    rw c.in-LogTooLong.is
    (subst (λ words. Puts (g.P.Sink.told c.args.sink.now) (g.P.Sink.told c.put_told-in-LogTooLong.new.sink) (codes "omni: limit: " ++ words) c.put_told-in-LogTooLong.result)
    c.number.ensures c.put_told-in-LogTooLong.ensures)

pub returns-in-TooManyBytes : goal.returns-in-TooManyBytes
unfolding refusal_line
returns-in-TooManyBytes g c = rw c.in-TooManyBytes.is c.put_all.ensures
