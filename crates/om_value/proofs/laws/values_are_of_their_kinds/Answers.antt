use Rattle.om_value.proofs.Intervals.{expr_sound}
use Rattle.om_value.proofs.laws.values_are_of_their_kinds.Goals as goal

pub returns : goal.returns
returns c = λ columns tuple expr found has is. (expr_sound columns tuple has expr found is).1
