-- What a call on a real folder does with a file, and what it answers by what the system did.
use Rattle.std.specs.Prelude.{◌≡◌, ℕ, List, Option, Some, IfSome, Result, Ok, Err}
use Rattle.std.specs.Io.KnownBytes.{Appends}
use Rattle.om_io.specs.Counts.{one_more}
use Rattle.om_io.specs.Shelf.{IsTakenOf}
use Rattle.om_io.specs.declared.shelf.Taken.{Taken}
use Rattle.om_io.specs.declared.shelf.ShelfFail.{ShelfFail}
use Rattle.om_io.specs.declared.shelf.ShelfFail.TheVariants.{NoMemory, Failed}

-- where the system gave this, the answer is its value, want of memory at an error that tells it, and else a failure
abbrev pub Answers : {T E : Type 0} → (E → Type 0) → Result T E → Result T ShelfFail → Type 0
Answers tells_want (Ok value) answer = answer ≡ Ok value
Answers tells_want (Err error) answer = (tells_want error → answer ≡ Err NoMemory) × ((tells_want error → ⊥) → answer ≡ Err Failed)

-- a count of failures after a call with that answer
abbrev pub count_after : {T : Type 0} → ℕ → Result T ShelfFail → ℕ
count_after before (Ok value) = before
count_after before (Err NoMemory) = before
count_after before (Err Failed) = one_more before

-- this is all that some file had left, where it tells that, unless it is more than so many bytes
abbrev pub WasRead : {F : Type 0} → (F → Option (List ℕ)) → ℕ → Taken → Type 0
WasRead {F} remaining most taken = (file : F) × IfSome (remaining file) (λ bytes. IsTakenOf (Some bytes) most taken)

-- some file came to hold these bytes behind what it held, where it tells what it holds
abbrev pub WasWritten : {F : Type 0} → (F → Option (List ℕ)) → List ℕ → Type 0
WasWritten {F} contents bytes = (before : F) × (after : F) × Appends (contents before) (contents after) bytes
