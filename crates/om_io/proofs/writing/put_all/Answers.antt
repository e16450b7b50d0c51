use Rattle.std.proofs.Common.{[], refl}
use Rattle.om_io.proofs.PutsLemmas.{puts_nothing, puts_more, puts_fails}
use Rattle.om_io.proofs.writing.put_all.Goals as goal

pub loop-rest-init : goal.loop-rest-init
loop-rest-init g c = ([], refl, puts_nothing _)

pub loop-rest-preserved : goal.loop-rest-preserved
loop-rest-preserved g c = puts_more _ _ _ _ _ _ c.loop-rest.invariant c.in-Ok.ensures.bytes c.in-Ok.ensures.cause

pub returns-in-Err : goal.returns-in-Err
returns-in-Err g c = puts_fails _ _ _ _ _ _ c.loop-rest.invariant c.in-Err.ensures.bytes c.in-Err.ensures.cause
