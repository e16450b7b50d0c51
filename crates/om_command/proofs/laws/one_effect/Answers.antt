use Rattle.om_command.proofs.EffectLemmas.{one_effect_of}
use Rattle.om_command.proofs.laws.one_effect.Goals as goal

pub returns : goal.returns
returns c =
    one_effect_of (record { debug = c.one_meaning.ensures.one_debug; log = c.one_meaning.ensures.one_log; query = c.one_meaning.ensures.one_query })
