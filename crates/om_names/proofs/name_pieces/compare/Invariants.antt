use Rattle.std.proofs.Common.{◌≡◌, ◌+◌}
use Rattle.std.specs.Ordering.{nat_cmp}
use Rattle.std.specs.Cmp.Lexicographic.{slice_cmp}
use Rattle.om_names.specs.NamePieces.{joined, pieces_left}
use Rattle.om_names.proofs.name_pieces.compare.Given as goal

-- what is left decides
abbrev pub invariant-loop-right : goal.invariant-loop-right
invariant-loop-right l = slice_cmp nat_cmp (joined l.left) (joined l.right) ≡ slice_cmp nat_cmp (joined l.initial.left) (joined l.initial.right)

abbrev pub decreases-loop-right : goal.decreases-loop-right
decreases-loop-right l = pieces_left l.left + pieces_left l.right
