use Rattle.std.proofs.Common.{◌≡◌, ◌+◌, ◌%◌, ◌^◌, drop, sum_by}
use Rattle.om_step.proofs.machine.sum_of_words.Given as goal

abbrev pub invariant-loop-word : goal.invariant-loop-word
invariant-loop-word l = (l.sum + sum_by (λ x. x) (drop l.word-index l.words)) % 2 ^ 32 ≡ sum_by (λ x. x) l.words % 2 ^ 32
