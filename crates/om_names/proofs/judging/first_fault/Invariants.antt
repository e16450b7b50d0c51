use Rattle.std.proofs.Common.{◌≡◌, ℕ, List, None, map, take}
use Rattle.om_base.specs.Firsts.{first_of}
use Rattle.om_names.specs.ListEnds.{AreEnds}
use Rattle.om_names.specs.EntryByEntry.{fault_in}
use Rattle.om_names.proofs.judging.first_fault.Given as goal

abbrev pub invariant-loop-unit : goal.invariant-loop-unit
invariant-loop-unit l = (section : List ℕ) → AreEnds section l.ends → first_of (map (fault_in section) (take l.unit-index l.unit-items)) ≡ None
