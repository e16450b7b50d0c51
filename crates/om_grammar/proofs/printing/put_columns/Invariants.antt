use Rattle.std.proofs.Common.{◌≡◌, ◌++◌, take}
use Rattle.om_grammar.specs.Words.{more_text, column_text}
use Rattle.om_grammar.proofs.printing.put_columns.Given as goal

abbrev pub invariant-loop-column : goal.invariant-loop-column
invariant-loop-column l = l.text ≡ l.initial.text ++ more_text column_text (take l.column-index l.rest)
