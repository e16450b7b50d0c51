use Rattle.om_line.proofs.ShiftLemmas.{rows_lower_each}
use Rattle.om_line.proofs.laws.lower_rows.Goals as goal

pub returns : goal.returns
returns c = rows_lower_each
