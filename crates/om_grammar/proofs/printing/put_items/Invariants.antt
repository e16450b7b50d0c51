use Rattle.std.proofs.Common.{◌≡◌, ◌++◌, take}
use Rattle.om_grammar.specs.Words.{more_text, item_text}
use Rattle.om_grammar.proofs.printing.put_items.Given as goal

abbrev pub invariant-loop-item : goal.invariant-loop-item
invariant-loop-item l = l.text ≡ l.initial.text ++ more_text item_text (take l.item-index l.rest)
