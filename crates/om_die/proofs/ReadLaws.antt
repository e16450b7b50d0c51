-- What a reader answers, by the laws that sections are some units or have one refusal.
use Rattle.std.proofs.Common.{◌≡◌, Result, Ok, Err, ap, inl, inr, ◌⊎◌}
use Rattle.std.specs.Prelude.{IfOk, IfErr}
use Rattle.om_die.specs.Refusals.{IsRefusal}
use Rattle.om_die.specs.Units.{AreUnits, Sections}
use Rattle.om_die.specs.declared.fault.DieFault.{DieFault}
use Rattle.om_die.specs.declared.fault.DieFault.TheVariants.{NoMemory}
use Rattle.om_die.specs.declared.unit.Units.{Units}
use Rattle.om_die.proofs.UnitOnce.{not_refused, one_refusal, one_units}

-- an answer of a reader is the units of the sections, want of memory, or their refusal
pub reads : (sections : Sections) (result : Result Units DieFault) → IfOk result (λ units. AreUnits sections units) → IfErr result (λ f. (f ≡ NoMemory) ⊎ IsRefusal sections f)
    → (units : Units) → AreUnits sections units → (result ≡ Ok units) ⊎ (result ≡ Err NoMemory)
reads sections (Ok other) ok err units are = inl (ap Ok (one_units sections other units ok are))
reads sections (Err f) ok (inl none) units are = inr (ap Err none)
reads sections (Err f) ok (inr fault) units are = absurd (not_refused sections units f are fault)

pub refuses : (sections : Sections) (result : Result Units DieFault) → IfOk result (λ units. AreUnits sections units) → IfErr result (λ f. (f ≡ NoMemory) ⊎ IsRefusal sections f)
    → (fault : DieFault) → IsRefusal sections fault → (result ≡ Err fault) ⊎ (result ≡ Err NoMemory)
refuses sections (Ok units) ok err fault is = absurd (not_refused sections units fault ok is)
refuses sections (Err f) ok (inl none) fault is = inr (ap Err none)
refuses sections (Err f) ok (inr other) fault is = inl (ap Err (one_refusal sections f fault other is))
