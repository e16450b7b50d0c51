use Rattle.std.proofs.Common.{Result, Ok, Err, refl}
use Rattle.std.specs.Prelude.{OnOk, ⊤}
use Rattle.om_io.proofs.dir_shelf.DirShelfShelf.TheImpl.Goals as goal

-- where nothing is told, nothing is to be held
nothing_told : {T E : Type 0} (result : Result T E) → OnOk result ⊤
nothing_told (Ok value) = tt
nothing_told (Err error) = tt

pub take-tells : goal.take-tells
take-tells g c =
    record { fits = c.ensures.fits; taken = tt; same = refl; cause = c.ensures.cause; puts = c.ensures.puts; faultless = λ known. absurd (cc) }

pub put-tells : goal.put-tells
put-tells g c =
    record { put = nothing_told _; failed = λ _. refl; no_memory = tt; cause = c.ensures.cause; takes = c.ensures.takes; faultless = λ known. absurd (cc) }
