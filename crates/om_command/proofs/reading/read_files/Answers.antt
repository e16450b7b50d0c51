use Rattle.std.specs.Prelude.{string_bytes}
use Rattle.om_command.proofs.ReadLemmas.{met_more, stops_at, takes_more, takes_stop}
use Rattle.om_command.proofs.reading.read_files.Goals as goal

pub returns-in-Err-clause-read : goal.returns-in-Err-clause-read
returns-in-Err-clause-read g c =
    stops_at string_bytes _ _ _ _ _ _ _ _ c.loop-name-test.true c.name-item.is c.loop-name.invariant.met c.loop-name.invariant.takes
    (rw c.as_str.ensures.value at c.in-Err.ensures.read)

pub returns-in-Err-clause-takes : goal.returns-in-Err-clause-takes
returns-in-Err-clause-takes g c =
    takes_stop string_bytes _ _ _ _ _ _ c.loop-name-test.true c.name-item.is c.loop-name.invariant.takes (rw c.as_str.ensures.value at c.in-Err.ensures.takes)

pub returns-in_err-push-in-Ok-clause-takes : goal.returns-in_err-push-in-Ok-clause-takes
returns-in_err-push-in-Ok-clause-takes g c =
    takes_stop string_bytes _ _ _ _ _ _ c.loop-name-test.true c.name-item.is c.loop-name.invariant.takes (rw c.as_str.ensures.value at c.in-Ok.ensures.takes)

pub loop-name-preserved : goal.loop-name-preserved
loop-name-preserved g c = record {
  met =
      rw c.in_ok-push-in-Ok.ensures.ok
      (met_more string_bytes _ _ _ _ _ _ _ c.loop-name-test.true c.name-item.is c.loop-name.invariant.met c.loop-name.invariant.takes (rw c.as_str.ensures.value at c.in-Ok.ensures.read));
  takes = takes_more string_bytes _ _ _ _ _ _ c.loop-name-test.true c.name-item.is c.loop-name.invariant.takes (rw c.as_str.ensures.value at c.in-Ok.ensures.takes);
}
