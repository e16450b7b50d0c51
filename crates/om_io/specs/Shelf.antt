-- What a shelf tells of itself, and what a file that was taken says of it.
use Rattle.std.specs.Prelude.{ℕ, ◌≡◌, ◌≢◌, ◌<◌, ◌≤◌, Bool, IsTrue, List, length, Option, Some, Result, IsErrOf}
use Rattle.om_io.specs.Counts.{Rose}
use Rattle.om_io.specs.declared.shelf.Taken.{Taken}
use Rattle.om_io.specs.declared.shelf.Taken.TheVariants.{Whole, Longer}
use Rattle.om_io.specs.declared.shelf.ShelfFail.{ShelfFail}
use Rattle.om_io.specs.declared.shelf.ShelfFail.TheVariants.{Failed}

-- the bytes of each name that is held
abbrev pub FilesByName : Type 0
FilesByName = List ℕ → Option (List ℕ)

-- what a shelf tells: the files that it holds, where it tells these; of each name how often a take
-- and how often a put failed; and whether it is known that no call fails but a take of what isn't held
pub record ShelfTold : Type 0 where
  pub files : Option FilesByName
  pub failed_takes : List ℕ → ℕ
  pub failed_puts : List ℕ → ℕ
  pub is_faultless : Bool

-- so many bytes at most were taken
abbrev pub FitsIn : ℕ → Taken → Type 0
FitsIn most (Whole bytes) = length bytes ≤ most
FitsIn most Longer = Unit {0}

-- of this file, if it is held, that was taken: its bytes, or that they are more than so many
abbrev pub IsTakenOf : Option (List ℕ) → ℕ → Taken → Type 0
IsTakenOf file most (Whole bytes) = file ≡ Some bytes
IsTakenOf file most Longer = (bytes : List ℕ) × (file ≡ Some bytes) × (most < length bytes)

-- a shelf holds a file of this name
abbrev pub IsHeld : Option FilesByName → List ℕ → Type 0
IsHeld told name = (files : FilesByName) × (told ≡ Some files) × ((bytes : List ℕ) × (files name ≡ Some bytes))

-- the count of no name falls
abbrev pub NoneFalls : (List ℕ → ℕ) → (List ℕ → ℕ) → Type 0
NoneFalls before now = (name : List ℕ) → before name ≤ now name

-- the count of each name is what it was
abbrev pub AreSame : (List ℕ → ℕ) → (List ℕ → ℕ) → Type 0
AreSame before now = (name : List ℕ) → now name ≡ before name

-- no count falls, and a call on a name fails only where the count of that name rose
pub record FailsByCount {T : Type 0} (before now : List ℕ → ℕ) (name : List ℕ) (result : Result T ShelfFail) : Type 0 where
  pub later : NoneFalls before now
  pub failed : IsErrOf result Failed → Rose (before name) (now name)

-- a shelf is known to be faultless still, and no count moved
pub record StaysFaultless (before now : ShelfTold) : Type 0 where
  pub still : IsTrue now.is_faultless
  pub takes : AreSame before.failed_takes now.failed_takes
  pub puts : AreSame before.failed_puts now.failed_puts

-- what is told now is what was held before, but that this name holds these bytes
pub record Holds (before : FilesByName) (told : Option FilesByName) (name bytes : List ℕ) : Type 0 where
  pub now : FilesByName
  pub told_now : told ≡ Some now
  pub held : now name ≡ Some bytes
  pub others : (other : List ℕ) → other ≢ name → now other ≡ before other
