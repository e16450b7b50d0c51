-- What making memory answers.
use Rattle.std.specs.Prelude.{◌≡◌, ℕ, Option, Some, None, Result, Ok, Err}
use Rattle.om_mem.specs.declared.map_fault.MapFault.{MapFault}
use Rattle.om_mem.specs.declared.map_fault.MapFault.TheVariants.{NoMemory, Overlap}

-- the answer is the wanted value where nothing overlaps, the least overlapping pair where one does, or want of memory
abbrev pub Gives : {T : Type 0} → Option (ℕ × ℕ) → T → Result T MapFault → Type 0
Gives overlap wanted (Ok made) = (overlap ≡ None) × (made ≡ wanted)
Gives overlap wanted (Err NoMemory) = Unit {0}
Gives overlap wanted (Err (Overlap a b)) = overlap ≡ Some (a, b)
