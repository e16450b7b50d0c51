use Rattle.om_io.proofs.PutsLemmas.{pieces_fail}
use Rattle.om_io.proofs.writing.put_pieces.Goals as goal

pub returns-in-Err : goal.returns-in-Err
returns-in-Err g c = pieces_fail _ _ _ _ _ _ _ c.loop-piece-test.true c.loop-piece.invariant c.in-Err.ensures
