use Rattle.std.proofs.Common.{◌≡◌, ◌++◌, take}
use Rattle.std.specs.List.{flat_map}
use Rattle.om_grammar.specs.Words.{addend_text, factor_text}
use Rattle.om_grammar.proofs.words.+expr_text.Given as goal

abbrev pub invariant-put_expr-loop-addend : goal.invariant-put_expr-loop-addend
invariant-put_expr-loop-addend l = l.text ≡ l.initial.text ++ flat_map addend_text (take l.addend-index l.addend-items)

abbrev pub invariant-put_expr-loop-factor : goal.invariant-put_expr-loop-factor
invariant-put_expr-loop-factor l = l.text ≡ l.initial.text ++ flat_map factor_text (take l.factor-index l.factor-items)
