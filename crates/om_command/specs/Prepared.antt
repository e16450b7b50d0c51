-- What a request comes to before anything is put or printed.
use Rattle.std.specs.Prelude.{◌≡◌, ℕ, List, Result, Ok, Err}
use Rattle.om_io.specs.Counts.{Rose}
use Rattle.om_io.specs.Shelf.{ShelfTold}
use Rattle.om_command.specs.Command.{ComesTo}
use Rattle.om_command.specs.Effect.{Effect, exceeds, refuses}
use Rattle.om_command.specs.Files.{AreSeen, File, Reaches, Seen}
use Rattle.om_command.specs.Reads.{effect_by}
use Rattle.om_command.specs.Requests.{Request}
use Rattle.om_command.specs.declared.ending.Ending.{Ending}
use Rattle.om_command.specs.declared.ending.Ending.TheVariants.{Done, Refused, Exceeded, Unread, Unput, Unwritten, NoMemory}
use Rattle.om_command.specs.declared.outcome.Outcome.{Outcome}

-- a file was reached whose count of failed takes rose
pub record IsLacking (files : List File) (before after : ShelfTold) (name : List ℕ) : Type 0 where
  pub seen : Seen
  pub reached : Reaches files (record { name = name; seen = seen })
  pub rose : Rose (before.failed_takes name) (after.failed_takes name)

-- the end is what an effect comes to before anything is put or printed
abbrev pub EndsEarly : Effect → List File → (before after : ShelfTold) → Ending → Type 0
EndsEarly effect files before after (Refused refusal) = effect ≡ refuses refusal
EndsEarly effect files before after (Exceeded name) = effect ≡ exceeds name.now
EndsEarly effect files before after (Unread name) = IsLacking files before after name.now
EndsEarly effect files before after NoMemory = Unit {0}
EndsEarly effect files before after Done = ⊥
EndsEarly effect files before after (Unput name) = ⊥
EndsEarly effect files before after Unwritten = ⊥

-- the answer is the outcome of an effect, or an end before it
abbrev pub IsPrepared : Effect → List File → (before after : ShelfTold) → Result Outcome Ending → Type 0
IsPrepared effect files before after (Ok outcome) = effect ≡ effect_by outcome
IsPrepared effect files before after (Err ending) = EndsEarly effect files before after ending

-- what a request comes to over the files as they are seen, and the answer
pub record Prepares (request : Request) (before after : ShelfTold) (result : Result Outcome Ending) : Type 0 where
  pub files : List File
  pub opened : AreSeen before.files request.files files
  pub effect : Effect
  pub comes : ComesTo request.command files effect
  pub prepared : IsPrepared effect files before after result
