use Rattle.std.proofs.Common.{take, Ok}
use Rattle.std.specs.Prelude.{flat_map}
use Rattle.om_io.specs.Writing.{Puts}
use Rattle.om_io.proofs.writing.put_pieces.Given as goal

-- the pieces so far are written
abbrev pub invariant-loop-piece : goal.invariant-loop-piece
invariant-loop-piece g l =
    Puts (g.S.Sink.told l.fn.sink) (g.S.Sink.told l.sink) (flat_map (λ piece. piece.now) (take l.piece-index l.pieces)) (Ok tt)
