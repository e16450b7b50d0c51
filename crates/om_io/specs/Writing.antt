-- What writing all of some bytes to a sink does.
use Rattle.std.specs.Prelude.{ℕ, ◌<◌, ◌⊎◌, List, length, take, Result, OnOk, OnErr}
use Rattle.std.specs.Io.KnownBytes.{Appends}
use Rattle.om_io.specs.Counts.{Rose}
use Rattle.om_io.specs.Sink.{AppendsPrefix, SinkFailsByCount, SinkTold}
use Rattle.om_io.specs.declared.sink.SinkFail.{SinkFail}

-- between two moments of a sink all of the bytes were put behind what was written, or the first of them, and then a count rose
pub record Puts (before now : SinkTold) (bytes : List ℕ) (result : Result (Unit {0}) SinkFail) : Type 0 where
  pub ok : OnOk result (Appends before.written now.written bytes)
  pub err : OnErr result (AppendsPrefix before.written now.written bytes)
  pub cause : SinkFailsByCount before now result

-- between two moments of a sink the first bytes of a line were written, and not all only where one of the counts rose
pub record Tells (before now : SinkTold) (line : List ℕ) : Type 0 where
  pub count : ℕ
  pub appended : Appends before.written now.written (take count line)
  pub whole : count < length line → Rose before.faults now.faults ⊎ Rose before.refused_growths now.refused_growths
