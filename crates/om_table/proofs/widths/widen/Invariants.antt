use Rattle.std.proofs.Common.{map}
use Rattle.om_table.proofs.WidthLemmas.{IsWidened}
use Rattle.om_table.proofs.widths.widen.Given as goal

abbrev pub invariant-loop-column : goal.invariant-loop-column
invariant-loop-column g l = IsWidened l.fn.widths (map g.P.Printed.shown l.cells) l.column l.widths
