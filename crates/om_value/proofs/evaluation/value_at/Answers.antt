use Rattle.std.proofs.Common.{rules}
use Rattle.om_value.proofs.Values.{by-Numeral, by-Column}
use Rattle.om_value.proofs.evaluation.value_at.Goals as goal

pub returns-in-Column : goal.returns-in-Column
returns-in-Column g c = rw (c.in-Column.is, by-Column) c.cell.ensures

pub returns-in-Numeral : goal.returns-in-Numeral
returns-in-Numeral g c = rw (c.in-Numeral.is, by-Numeral) (search rules)
