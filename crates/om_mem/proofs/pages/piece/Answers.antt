use Rattle.std.proofs.Common.{◌≡◌, ℕ, ◌+◌, ◌*◌, ◌-◌, List, min, take, drop, length, arith, length-drop}
use Rattle.std.proofs.lemmas.List.{take_min}
use Rattle.om_mem.specs.Laid.{piece_of}
use Rattle.om_mem.proofs.pages.piece.Goals as goal

-- to take so many as there are, at most
cut : (n at : ℕ) (xs : List ℕ) → take (min (at + n) (length xs) - at) (drop at xs) ≡ take n (drop at xs)
cut n at xs =
    let less : min (at + n) (length xs) - at ≡ min n (length (drop at xs)) = rw (length-drop at xs) (omega arith) in
    rw less (take_min n (drop at xs))

pub returns : goal.returns
unfolding piece_of
returns c = rw c.min-end.ensures (cut 4096 (c.args.page * 4096) c.args.bytes.now)
