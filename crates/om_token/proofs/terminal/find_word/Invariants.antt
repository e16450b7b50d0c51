use Rattle.std.proofs.Common.{◌≡◌, map, length}
use Rattle.om_token.specs.Terminals.{word_in}
use Rattle.om_token.proofs.terminal.find_word.Given as goal

abbrev pub invariant-loop-table : goal.invariant-loop-table
invariant-loop-table l = word_in (map (λ entry. (entry.0.now, entry.1)) l.table) l.word ≡ word_in (map (λ entry. (entry.0.now, entry.1)) l.initial.table) l.word

abbrev pub decreases-loop-table : goal.decreases-loop-table
decreases-loop-table l = length l.table
