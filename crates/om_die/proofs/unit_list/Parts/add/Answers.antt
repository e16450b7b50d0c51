use Rattle.std.proofs.Common.{arith}
use Rattle.om_die.proofs.UnitLaws.{count_read}
use Rattle.om_die.proofs.unit_list.Parts.add.Goals as goal

pub overflow_add-self : goal.overflow_add-self
overflow_add-self c = omega (arith, c.requires, c.len.ensures, count_read c.args.part c.in-Read.unit c.in-Read.is)
