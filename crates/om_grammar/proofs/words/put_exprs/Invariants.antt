use Rattle.std.proofs.Common.{◌≡◌, ◌++◌, take}
use Rattle.om_grammar.specs.Words.{more_text, expr_text}
use Rattle.om_grammar.proofs.words.put_exprs.Given as goal

abbrev pub invariant-loop-expr : goal.invariant-loop-expr
invariant-loop-expr l = l.text ≡ l.initial.text ++ more_text expr_text (take l.expr-index l.rest)
