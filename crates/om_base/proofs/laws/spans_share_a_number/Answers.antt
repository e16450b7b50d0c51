use Rattle.om_base.proofs.SpanLemmas.{share_where}
use Rattle.om_base.proofs.laws.spans_share_a_number.Goals as goal

pub returns : goal.returns
returns c = share_where
