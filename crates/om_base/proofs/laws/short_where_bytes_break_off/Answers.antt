use Rattle.om_base.proofs.LebLaws.{sleb_short, uleb_short}
use Rattle.om_base.proofs.laws.short_where_bytes_break_off.Goals as goal

pub returns-clause-unsigned : goal.returns-clause-unsigned
returns-clause-unsigned c = uleb_short

pub returns-clause-signed : goal.returns-clause-signed
returns-clause-signed c = sleb_short
