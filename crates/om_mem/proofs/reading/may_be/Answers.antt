use Rattle.std.proofs.Common.{refl}
use Rattle.om_mem.proofs.SpotLemmas.{may_at-place, may_at-spot_at}
use Rattle.om_mem.proofs.reading.may_be.Goals as goal

pub returns-in_default : goal.returns-in_default
returns-in_default c = rw (may_at-place _ c.args.address c.args.rights, c.in_default.ensures.spot) refl

pub returns : goal.returns
returns c = rw (may_at-spot_at _ _ c.in-Some.ensures.spot c.args.address c.args.rights c.in-Some.ensures.low c.in-Some.ensures.high) refl
