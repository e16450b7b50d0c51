use Rattle.om_line.proofs.LawLemmas.{all_fill}
use Rattle.om_line.proofs.laws.instructions_in_turn.Goals as goal

pub returns : goal.returns
returns c = all_fill
