use Rattle.std.proofs.Common.{◌≡◌, ◌++◌, take}
use Rattle.om_grammar.specs.Words.{more_text, table_text}
use Rattle.om_grammar.proofs.printing.put_tables.Given as goal

abbrev pub invariant-loop-table : goal.invariant-loop-table
invariant-loop-table l = l.text ≡ l.initial.text ++ more_text table_text (take l.table-index l.rest)
