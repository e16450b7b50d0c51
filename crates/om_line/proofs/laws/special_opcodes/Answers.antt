use Rattle.om_line.proofs.LawLemmas.{special_is}
use Rattle.om_line.proofs.laws.special_opcodes.Goals as goal

pub returns : goal.returns
returns c = special_is
