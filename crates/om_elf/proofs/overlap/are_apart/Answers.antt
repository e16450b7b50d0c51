use Rattle.om_elf.proofs.DisjointLemmas.{apart_sorted}
use Rattle.om_elf.proofs.overlap.are_apart.Goals as goal

pub returns : goal.returns
returns c = λ apart. apart_sorted _ _ _ _ c.in_ok-sorted.ensures.items c.sort_unstable_by_key.ensures.permutation c.as_slice.ensures.value (c.follow_each_other.ensures apart)
