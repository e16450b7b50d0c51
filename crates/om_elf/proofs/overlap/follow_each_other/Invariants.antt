use Rattle.std.proofs.Common.{◌≡◌, ℕ, ◌≤◌, count_by, take}
use Rattle.om_elf.specs.Disjoint.{AreDisjoint, has}
use Rattle.om_elf.proofs.overlap.follow_each_other.Given as goal

abbrev pub invariant-loop-span : goal.invariant-loop-span
invariant-loop-span l = record {
  disjoint : AreDisjoint (take l.span-index l.spans);
  past : (n : ℕ) → l.end ≤ n → count_by (has n) (take l.span-index l.spans) ≡ 0;
}
