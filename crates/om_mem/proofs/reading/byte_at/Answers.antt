use Rattle.om_mem.proofs.LaidLemmas.{get-laid}
use Rattle.std.proofs.Common.{refl}
use Rattle.om_mem.proofs.SpotLemmas.{get-spot_at}
use Rattle.om_mem.proofs.reading.byte_at.Goals as goal

pub returns-in_default : goal.returns-in_default
returns-in_default c = rw (get-laid _ _ c.args.address c.requires.whole, c.in_default.ensures.spot) refl

pub returns : goal.returns
returns c =
    rw (get-spot_at _ _ c.in-Some.ensures.spot _ c.requires.whole c.args.address c.in-Some.ensures.low c.in-Some.ensures.high) refl
