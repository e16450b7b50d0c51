use Rattle.std.proofs.Common.{length}
use Rattle.om_typing.proofs.TableList.{AreLeft}
use Rattle.om_typing.proofs.queries.judge_tables.Given as goal

abbrev pub invariant-loop-rest : goal.invariant-loop-rest
invariant-loop-rest l = AreLeft l.initial.foremost l.tables l.before l.rest l.foremost

abbrev pub decreases-loop-rest : goal.decreases-loop-rest
decreases-loop-rest l = length l.rest
