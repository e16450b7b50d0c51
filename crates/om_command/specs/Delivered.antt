-- What putting a file and printing a text answer.
use Rattle.std.specs.Prelude.{◌≡◌, ℕ, ◌⊎◌, IsTrue, List, Option, Some, Result, Ok, Err}
use Rattle.om_io.specs.Counts.{Rose}
use Rattle.om_io.specs.Shelf.{AreSame, ShelfTold}
use Rattle.om_io.specs.Sink.{SinkTold}
use Rattle.om_command.specs.Effect.{PutFile}
use Rattle.om_command.specs.Result.{HasPut, World}
use Rattle.om_command.specs.declared.ending.Ending.{Ending}
use Rattle.om_command.specs.declared.ending.Ending.TheVariants.{Done, Refused, Exceeded, Unread, Unput, Unwritten, NoMemory}

-- a moment
abbrev pub world : ShelfTold → SinkTold → World
world shelf out = record { shelf = shelf; out = out }

-- the file of this name is the one that is put, and its count of failed puts rose
pub record IsUnput (put : Option PutFile) (before after : ShelfTold) (name : List ℕ) : Type 0 where
  pub bytes : List ℕ
  pub is : put ≡ Some (record { name = name; bytes = bytes })
  pub rose : Rose (before.failed_puts name) (after.failed_puts name)
  pub held : after.files ≡ before.files

-- putting the file of a command, if it has one, ended so
abbrev pub IsHalfDone : Option PutFile → (before after : ShelfTold) → Ending → Type 0
IsHalfDone put before after (Unput name) = IsUnput put before after name.now
IsHalfDone put before after NoMemory = (after.files ≡ before.files) ⊎ HasPut put before.files after.files
IsHalfDone put before after Done = ⊥
IsHalfDone put before after (Refused refusal) = ⊥
IsHalfDone put before after (Exceeded name) = ⊥
IsHalfDone put before after (Unread name) = ⊥
IsHalfDone put before after Unwritten = ⊥

-- the file of a command, if it has one, was put, or why it wasn't
abbrev pub PutsFile : Option PutFile → (before after : ShelfTold) → Result (Unit {0}) Ending → Type 0
PutsFile put before after (Ok done) = HasPut put before.files after.files
PutsFile put before after (Err ending) = IsHalfDone put before after ending

-- between two moments no count of a fault of the outside moved
pub record NoneMoved (before after : World) : Type 0 where
  pub takes : AreSame before.shelf.failed_takes after.shelf.failed_takes
  pub puts : AreSame before.shelf.failed_puts after.shelf.failed_puts
  pub faults : after.out.faults ≡ before.out.faults

-- where both are known to be faultless no count moved
abbrev pub StaysFaultless : (before after : World) → Type 0
StaysFaultless before after = IsTrue before.shelf.is_faultless → IsTrue before.out.is_faultless → NoneMoved before after
