use Rattle.std.proofs.Common.{◌≡◌, ◌++◌, take}
use Rattle.std.specs.List.{flat_map}
use Rattle.om_grammar.proofs.WordLemmas.{and_text, or_text}
use Rattle.om_grammar.proofs.words.+cond_text.Given as goal

abbrev pub invariant-put_cond-loop-neg : goal.invariant-put_cond-loop-neg
invariant-put_cond-loop-neg l = l.text ≡ l.initial.text ++ flat_map and_text (take l.neg-index l.rest)

abbrev pub invariant-put_cond-loop-conj : goal.invariant-put_cond-loop-conj
invariant-put_cond-loop-conj l = l.text ≡ l.initial.text ++ flat_map or_text (take l.conj-index l.rest)
