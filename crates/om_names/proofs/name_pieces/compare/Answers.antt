use Rattle.std.proofs.Common.{◌≡◌, ◌⊎◌, ◌++◌, length, sym, ◌∙◌, inl, inr, arith}
use Rattle.om_names.specs.NamePieces.{joined}
use Rattle.om_names.proofs.PieceLemmas.{front_apart, front_same, lengths_decide}
use Rattle.om_names.proofs.name_pieces.compare.Goals as goal
use Rattle.om_names.proofs.name_pieces.compare.Goals.{then-loop-right-test+else-not-is_empty, else-loop-right-test}

pub returns-in_default : goal.returns-in_default
returns-in_default c =
    front_apart c.min-count.result c.loop-right.left.first.now c.loop-right.right.first.now (c.loop-right.left.second.now ++ c.loop-right.left.third.now) (c.loop-right.right.second.now ++ c.loop-right.right.third.now) c.cmp.result
    (omega arith) (omega arith) c.cmp.ensures c.in_default.not-Equal
    ∙ c.loop-right.invariant

pub loop-right-preserved : goal.loop-right-preserved
loop-right-preserved c =
    rw (c.behind-left.ensures.value, c.behind-right.ensures.value)
    (front_same c.min-count.result c.loop-right.left.first.now c.loop-right.right.first.now (c.loop-right.left.second.now ++ c.loop-right.left.third.now) (c.loop-right.right.second.now ++ c.loop-right.right.third.now)
    (omega arith) (omega arith) (sym c.in-Equal.is ∙ c.cmp.ensures)
    ∙ c.loop-right.invariant)

pub returns : goal.returns
returns c =
    c.cmp-2.ensures
    ∙ rw (c.len.ensures, c.len-2.ensures) (lengths_decide (joined c.loop-right.left) (joined c.loop-right.right) ended)
    ∙ c.loop-right.invariant
  where
    ended : (length (joined c.loop-right.left) ≡ 0) ⊎ (length (joined c.loop-right.right) ≡ 0)
    ended = elim c.loop-right-test.branch [
      | then-loop-right-test+else-not-is_empty w ↦ inr (w.is_empty-in-loop-right.ensures.0 w.if-not-is_empty.false)
      | else-loop-right-test w ↦ inl (c.is_empty.ensures.0 w.loop-right-test.false)
    ]
