use Rattle.std.proofs.Common.{◌≡◌, take}
use Rattle.om_value.proofs.cond.+copies.Given as goal

abbrev pub invariant-copy_members-loop-member : goal.invariant-copy_members-loop-member
invariant-copy_members-loop-member l = l.copies ≡ take l.member-index l.members
