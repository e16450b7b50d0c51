-- What the parts of the program answer.
use Rattle.std.specs.Prelude.{◌≡◌, ℕ, IsTrue, List, [], ◌∷◌, ◌++◌, Option, IfSome, Result, Ok, Err}
use Rattle.std.specs.Option.{option_map}
use Rattle.om_io.specs.Counts.{Rose}
use Rattle.om_io.specs.Shelf.{AreSame, FilesByName, NoneFalls, ShelfTold}
use Rattle.om_elf.specs.declared.fault.ElfFault.{ElfFault}
use Rattle.om_elf.specs.declared.fault.ElfFault.TheVariants as elf
use Rattle.om_info.specs.declared.fault.InfoFault.{InfoFault}
use Rattle.om_info.specs.declared.fault.InfoFault.TheVariants as info
use Rattle.om_log.specs.declared.fault.LogFault.{LogFault}
use Rattle.om_log.specs.declared.fault.LogFault.TheVariants as log
use Rattle.om_names.specs.declared.fault.NamesFault.{NamesFault}
use Rattle.om_names.specs.declared.fault.NamesFault.TheVariants as names
use Rattle.om_record.specs.declared.recorded.Recorded.{Recorded}
use Rattle.om_record.specs.declared.recorded.RecordFault.{RecordFault}
use Rattle.om_record.specs.declared.recorded.RecordFault.TheVariants as recorder
use Rattle.om_command.specs.Command.{summary}
use Rattle.om_command.specs.Effect.{Effect, PutFile, prints, puts, refuses}
use Rattle.om_command.specs.Files.{found, longer, seen_of}
use Rattle.om_command.specs.Result.{AreHeld}
use Rattle.om_command.specs.declared.ending.Ending.{Ending}
use Rattle.om_command.specs.declared.ending.Ending.TheVariants.{Done, Refused, Exceeded, Unread, Unput, Unwritten, NoMemory}
use Rattle.om_command.specs.declared.outcome.Outcome.{Outcome}
use Rattle.om_command.specs.declared.outcome.Put.{Put}
use Rattle.om_command.specs.declared.refusal.Refusal.TheVariants as refusal

-- ---- over bytes

-- the end is the refusal of an effect, or want of memory
abbrev pub IsRefusal : Effect → Ending → Type 0
IsRefusal effect (Refused refusal) = effect ≡ refuses refusal
IsRefusal effect NoMemory = Unit {0}
IsRefusal effect Done = ⊥
IsRefusal effect (Exceeded name) = ⊥
IsRefusal effect (Unread name) = ⊥
IsRefusal effect (Unput name) = ⊥
IsRefusal effect Unwritten = ⊥

-- the answer is the text that an effect prints, its refusal, or want of memory
abbrev pub GivesText : Effect → Result (List ℕ) Ending → Type 0
GivesText effect (Ok text) = effect ≡ prints text
GivesText effect (Err ending) = IsRefusal effect ending

-- the answer is the log that an effect puts under a name, its refusal, or want of memory
abbrev pub GivesLog : Effect → List ℕ → Result Recorded Ending → Type 0
GivesLog effect name (Ok recorded) = effect ≡ puts name recorded.bytes (summary recorded)
GivesLog effect name (Err ending) = IsRefusal effect ending

-- the effect of an outcome
abbrev pub put_file : Put → PutFile
put_file put = record { name = put.name.now; bytes = put.bytes }

abbrev pub effect_by : Outcome → Effect
effect_by outcome = record { status = 0; text = outcome.text; line = []; put = option_map put_file outcome.put }

-- the answer is the outcome of an effect, its refusal, or want of memory
abbrev pub Gives : Effect → Result Outcome Ending → Type 0
Gives effect (Ok outcome) = effect ≡ effect_by outcome
Gives effect (Err ending) = IsRefusal effect ending

-- what a fault comes to: want of memory, or a refusal
abbrev pub end_by_elf : ElfFault → Ending
end_by_elf elf.NoMemory = NoMemory
end_by_elf fault = Refused (refusal.Executable fault)

abbrev pub end_by_debug : NamesFault → Ending
end_by_debug names.NoMemory = NoMemory
end_by_debug fault = Refused (refusal.Debug fault)

abbrev pub end_by_info : InfoFault → Ending
end_by_info info.NoMemory = NoMemory
end_by_info info.TooManyBytes = Refused refusal.TooManyBytes

abbrev pub end_by_log : LogFault → Ending
end_by_log log.NoMemory = NoMemory
end_by_log fault = Refused (refusal.Log fault)

abbrev pub end_by_recorder : RecordFault → Ending
end_by_recorder recorder.NoMemory = NoMemory
end_by_recorder (recorder.TooLong step) = Refused (refusal.LogTooLong step)
end_by_recorder (recorder.NoRoom a b) = Refused (refusal.NoRoom a b)

-- ---- files

-- what the shelf tells of a name is these bytes
abbrev pub IsMet : Option FilesByName → (name bytes : List ℕ) → Type 0
IsMet told name bytes = IfSome told (λ files. seen_of (files name) ≡ found bytes)

-- what the shelf tells of each name is these contents
abbrev pub AreMet : Option FilesByName → (names contents : List (List ℕ)) → Type 0
AreMet told [] [] = Unit {0}
AreMet told (name ∷ names) (bytes ∷ contents) = IsMet told name bytes × AreMet told names contents
AreMet told [] (bytes ∷ contents) = ⊥
AreMet told (name ∷ names) [] = ⊥

-- what the shelf tells of a name is that its file is longer
abbrev pub IsLonger : Option FilesByName → (name : List ℕ) → Type 0
IsLonger told name = IfSome told (λ files. seen_of (files name) ≡ longer)

-- reading the file of a name ended so
abbrev pub IsUnread : (before after : ShelfTold) → (name : List ℕ) → Ending → Type 0
IsUnread before after name (Unread file) = (file.now ≡ name) × Rose (before.failed_takes name) (after.failed_takes name)
IsUnread before after name (Exceeded file) = (file.now ≡ name) × IsLonger before.files name
IsUnread before after name NoMemory = Unit {0}
IsUnread before after name Done = ⊥
IsUnread before after name (Refused refusal) = ⊥
IsUnread before after name (Unput file) = ⊥
IsUnread before after name Unwritten = ⊥

-- the bytes of the file of a name, or why it isn't read
abbrev pub ReadsFile : (before after : ShelfTold) → (name : List ℕ) → Result (List ℕ) Ending → Type 0
ReadsFile before after name (Ok bytes) = IsMet before.files name bytes
ReadsFile before after name (Err ending) = IsUnread before after name ending

-- reading files in their order ended at one of them, after all before it were read
pub record StopsAt (before after : ShelfTold) (names : List (List ℕ)) (ending : Ending) : Type 0 where
  pub earlier : List (List ℕ)
  pub name : List ℕ
  pub later : List (List ℕ)
  pub all : names ≡ earlier ++ name ∷ later
  pub contents : List (List ℕ)
  pub met : AreMet before.files earlier contents
  pub unread : IsUnread before after name ending

-- the contents of the files of these names, or why they aren't all read
abbrev pub ReadsFiles : (before after : ShelfTold) → (names : List (List ℕ)) → Result (List (List ℕ)) Ending → Type 0
ReadsFiles before after names (Ok contents) = AreMet before.files names contents
ReadsFiles before after names (Err ending) = StopsAt before after names ending

-- from one moment of a shelf to the next it holds the same, no count falls, and where it is known to be faultless and these names are held no count moves
pub record OnlyTakes (before after : ShelfTold) (names : List (List ℕ)) : Type 0 where
  pub held : after.files ≡ before.files
  pub takes : NoneFalls before.failed_takes after.failed_takes
  pub puts : NoneFalls before.failed_puts after.failed_puts
  pub faultless : IsTrue before.is_faultless → AreHeld before.files names
      → IsTrue after.is_faultless × AreSame before.failed_takes after.failed_takes × AreSame before.failed_puts after.failed_puts
