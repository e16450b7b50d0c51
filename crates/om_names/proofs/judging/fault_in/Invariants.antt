use Rattle.std.proofs.Common.{◌≡◌, ℕ, List, None, map, take}
use Rattle.om_base.specs.Firsts.{first_of}
use Rattle.om_names.specs.ListEnds.{AreEnds}
use Rattle.om_names.specs.Ranges.{range_fault}
use Rattle.om_names.specs.EntryByEntry.{entry_in}
use Rattle.om_names.proofs.judging.fault_in.Given as goal

abbrev pub invariant-loop-die : goal.invariant-loop-die
invariant-loop-die l = (section : List ℕ) → AreEnds section l.ends → first_of (map (λ die. range_fault section (entry_in l.unit die)) (take l.die-index l.die-items)) ≡ None
