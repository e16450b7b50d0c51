use Rattle.std.proofs.Common.{take, Ok}
use Rattle.om_io.specs.Writing.{Puts}
use Rattle.om_table.specs.Escape.{escaped}
use Rattle.om_command.proofs.escaping.put_escaped.Given as goal

-- the bytes so far are written
abbrev pub invariant-loop-byte : goal.invariant-loop-byte
invariant-loop-byte g l = Puts (g.P.Sink.told l.fn.sink) (g.P.Sink.told l.sink) (escaped (take l.byte-index l.name)) (Ok tt)
