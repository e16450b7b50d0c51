use Rattle.std.proofs.Common.{refl}
use Rattle.om_command.proofs.laws.nothing_fails_in_memory.Goals as goal

pub returns : goal.returns
returns c =
    λ files most names held.
    (record { shelf = refl; out = refl; held = held }, record { takes = λ name. refl; puts = λ name. refl; faults = refl })
