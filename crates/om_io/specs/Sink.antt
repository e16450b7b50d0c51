-- What a sink tells of itself, what a write appends, and when it may fail.
use Rattle.std.specs.Prelude.{◌≡◌, ℕ, ◌<◌, ◌≤◌, Bool, IsTrue, List, length, take, Option, Result, IsErrOf}
use Rattle.std.specs.Io.KnownBytes.{Appends}
use Rattle.om_io.specs.Counts.{Rose}
use Rattle.om_io.specs.declared.sink.SinkFail.{SinkFail}
use Rattle.om_io.specs.declared.sink.SinkFail.TheVariants.{NoMemory, Failed}

-- what a sink tells: all that was written, where it tells that; how often a write failed, and how often memory was
-- wanting for one; and whether it is known that no write fails
pub record SinkTold : Type 0 where
  pub written : Option (List ℕ)
  pub faults : ℕ
  pub refused_growths : ℕ
  pub is_faultless : Bool

-- of these bytes so many are a piece, which is empty only where they are
abbrev pub IsCountOf : List ℕ → ℕ → Type 0
IsCountOf bytes count = (count ≤ length bytes) × (0 < length bytes → 0 < count)

-- from old to new the first of some bytes were appended
abbrev pub AppendsPrefix : Option (List ℕ) → Option (List ℕ) → List ℕ → Type 0
AppendsPrefix old new bytes = (count : ℕ) × Appends old new (take count bytes)

-- neither count falls, and each failure comes only where its own count rose; a sink that is known to be faultless still is, and counted no fault
pub record SinkFailsByCount {T : Type 0} (before now : SinkTold) (result : Result T SinkFail) : Type 0 where
  pub faults_later : before.faults ≤ now.faults
  pub growths_later : before.refused_growths ≤ now.refused_growths
  pub failed : IsErrOf result Failed → Rose before.faults now.faults
  pub no_memory : IsErrOf result NoMemory → Rose before.refused_growths now.refused_growths
  pub faultless : IsTrue before.is_faultless → IsTrue now.is_faultless × (now.faults ≡ before.faults)
