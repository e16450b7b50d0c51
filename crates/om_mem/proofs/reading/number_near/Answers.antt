use Rattle.std.proofs.Common.{ap, sym, ◌∙◌}
use Rattle.std.specs.Prelude.{Some}
use Rattle.om_mem.proofs.SpotLemmas.{loaded-spot}
use Rattle.om_mem.proofs.reading.number_near.Goals as goal

pub returns : goal.returns
returns c =
    ap (λ v. Some v) c.number_from.ensures
    ∙ sym (loaded-spot _ _ c.requires.near _ c.requires.whole c.args.address c.args.count c.requires.low c.requires.high)
