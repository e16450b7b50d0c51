use Rattle.std.proofs.lemmas.Bool.Decides.{Decides-eqb}
use Rattle.std.proofs.lemmas.Slice.Eq.{strip_prefix_is}
use Rattle.om_typing.proofs.Prefixes.{behind_is}
use Rattle.om_typing.proofs.scope.behind.Goals as goal

pub returns : goal.returns
returns c = behind_is c.args.whole.now c.args.bytes.now c.strip_prefix.result (strip_prefix_is Decides-eqb c.args.whole.now c.args.bytes.now c.strip_prefix.result c.strip_prefix.ensures.cases)
