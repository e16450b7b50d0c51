use Rattle.om_typing.proofs.TableList.{next_left}
use Rattle.om_typing.proofs.queries.judge_tables.Goals as goal

pub loop-rest-preserved : goal.loop-rest-preserved
loop-rest-preserved c = next_left _ _ _ _ c.table-item.result _ _ c.in-len1-up.len_at_least c.table-item.is c.loop-rest.invariant c.judge_table.ensures
