use Rattle.om_command.proofs.EscapedLemmas.{escaped_fail}
use Rattle.om_command.proofs.escaping.put_escaped.Goals as goal

pub returns-in-Err : goal.returns-in-Err
returns-in-Err g c = escaped_fail _ _ _ _ _ _ _ c.loop-byte-test.true c.loop-byte.invariant c.in-Err.ensures
