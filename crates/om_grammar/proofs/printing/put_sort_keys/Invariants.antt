use Rattle.std.proofs.Common.{◌≡◌, ◌++◌, take}
use Rattle.om_grammar.specs.Words.{more_text, sort_key_text}
use Rattle.om_grammar.proofs.printing.put_sort_keys.Given as goal

abbrev pub invariant-loop-key : goal.invariant-loop-key
invariant-loop-key l = l.text ≡ l.initial.text ++ more_text sort_key_text (take l.key-index l.rest)
