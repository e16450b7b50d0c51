use Rattle.std.proofs.lemmas.Bool.Decides.{Decides-eqb}
use Rattle.std.proofs.lemmas.Slice.Eq.{strip_prefix_is}
use Rattle.om_parse.proofs.PrefixLemmas.{behind_is}
use Rattle.om_parse.proofs.identifier.behind.Goals as goal

pub returns : goal.returns
returns c = behind_is c.args.whole.now c.args.bytes.now c.strip_prefix.result (strip_prefix_is Decides-eqb c.args.whole.now c.args.bytes.now c.strip_prefix.result c.strip_prefix.ensures.cases)
