use Rattle.std.proofs.Common.{◌≡◌, List, ℕ, ◌++◌, length, Ok}
use Rattle.om_io.specs.Writing.{Puts}
use Rattle.om_io.proofs.writing.put_all.Given as goal

-- what is written so far, and what is left
abbrev pub invariant-loop-rest : goal.invariant-loop-rest
invariant-loop-rest g l = (done : List ℕ) × (l.bytes ≡ done ++ l.rest)
    × Puts (g.S.Sink.told l.fn.sink) (g.S.Sink.told l.sink) done (Ok tt)

abbrev pub decreases-loop-rest : goal.decreases-loop-rest
decreases-loop-rest g l = length l.rest
