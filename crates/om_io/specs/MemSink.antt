-- A sink in memory, and what a write leaves of it.
use Rattle.std.specs.Prelude.{ℕ, Bool, true, false, List, [], ◌∷◌, ◌++◌, take, Some, Result, Ok, Err}
use Rattle.om_io.specs.Counts.{one_more}
use Rattle.om_io.specs.Sink.{SinkTold}
use Rattle.om_io.specs.declared.sink.SinkFail.{SinkFail}
use Rattle.om_io.specs.declared.sink.SinkFail.TheVariants.{NoMemory, Failed}

-- what was written, the greatest piece that one write takes, the numbers of the calls that fail, how many
-- calls there were, how many of them failed, and for how many memory was wanting
pub record SinkState : Type 0 where
  pub written : List ℕ
  pub most : ℕ
  pub failing : List ℕ
  pub calls : ℕ
  pub faults : ℕ
  pub refused_growths : ℕ

-- no call is to fail
abbrev pub none_fails : List ℕ → Bool
none_fails [] = true
none_fails (call ∷ calls) = false

-- what the sink tells: all of it
abbrev pub told_by : SinkState → SinkTold
told_by state = record {
  written = Some state.written;
  faults = state.faults;
  refused_growths = state.refused_growths;
  is_faultless = none_fails state.failing;
}

-- the state after one more call
abbrev pub called : SinkState → SinkState
called state = record state { calls = one_more state.calls }

-- the state after a write of some bytes with that result
abbrev pub after_write : SinkState → List ℕ → Result ℕ SinkFail → SinkState
after_write state bytes (Ok count) = record (called state) { written = state.written ++ take count bytes }
after_write state bytes (Err NoMemory) = record (called state) { refused_growths = one_more state.refused_growths }
after_write state bytes (Err Failed) = record (called state) { faults = one_more state.faults }
