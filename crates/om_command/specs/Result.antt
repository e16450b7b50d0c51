-- What the program leaves at its end.
use Rattle.std.specs.Prelude.{◌≡◌, ℕ, ◌⊎◌, IsTrue, List, [], ◌∷◌, Option, Some, None, IfSome}
use Rattle.std.specs.Io.KnownBytes.{Appends, Keeps}
use Rattle.om_io.specs.Counts.{Rose}
use Rattle.om_io.specs.Shelf.{FilesByName, Holds, IsHeld, ShelfTold}
use Rattle.om_io.specs.Sink.{AppendsPrefix, SinkTold}
use Rattle.om_command.specs.Command.{WordsComeTo}
use Rattle.om_command.specs.Effect.{Effect, PutFile}
use Rattle.om_command.specs.Files.{AreSeen, File, Reaches, Seen}
use Rattle.om_command.specs.Lines.{line_of, status_of}
use Rattle.om_command.specs.Requests.{Request, names_of}
use Rattle.om_command.specs.declared.ending.Ending.{Ending}
use Rattle.om_command.specs.declared.ending.Ending.TheVariants.{Done, Refused, Exceeded, Unread, Unput, Unwritten, NoMemory}

-- what the shelf and the output tell at one moment
pub record World : Type 0 where
  pub shelf : ShelfTold
  pub out : SinkTold

-- ---- what an end leaves

-- between two moments the file that is put, if one is, came to be held, and nothing else changed
abbrev pub HasPut : Option PutFile → (before now : Option FilesByName) → Type 0
HasPut None before now = now ≡ before
HasPut (Some file) before now = IfSome before (λ files. Holds files now file.name file.bytes)

-- all is as an effect has it: the status, the line, what was printed and what the shelf holds
pub record Meets (effect : Effect) (before after : World) (ending : Ending) : Type 0 where
  pub status : status_of ending ≡ effect.status
  pub line : line_of ending ≡ effect.line
  pub printed : Appends before.out.written after.out.written effect.text
  pub held : HasPut effect.put before.shelf.files after.shelf.files

-- nothing was printed, and the shelf holds what it held
pub record IsUntouched (before after : World) : Type 0 where
  pub printed : Keeps before.out.written after.out.written
  pub held : after.shelf.files ≡ before.shelf.files

-- the order of reads came to the file of this name, and its count of failed takes rose
pub record LacksFile (files : List File) (before after : World) (name : List ℕ) : Type 0 where
  pub seen : Seen
  pub reached : Reaches files (record { name = name; seen = seen })
  pub rose : Rose (before.shelf.failed_takes name) (after.shelf.failed_takes name)
  pub untouched : IsUntouched before after

-- the file of this name is to be put, and its count of failed puts rose
pub record LacksPut (effect : Effect) (before after : World) (name : List ℕ) : Type 0 where
  pub bytes : List ℕ
  pub put : effect.put ≡ Some (record { name = name; bytes = bytes })
  pub rose : Rose (before.shelf.failed_puts name) (after.shelf.failed_puts name)
  pub untouched : IsUntouched before after

-- a text is to be printed, and after the file was put the output's count of faults rose: some of the text, from the first byte on, was printed
pub record LacksOutput (effect : Effect) (before after : World) : Type 0 where
  pub status : effect.status ≡ 0
  pub rose : Rose before.out.faults after.out.faults
  pub printed : AppendsPrefix before.out.written after.out.written effect.text
  pub held : HasPut effect.put before.shelf.files after.shelf.files

-- where memory was wanting, some of the text was printed, and the file was put or not; it was where anything was printed
pub record LacksMemory (effect : Effect) (before after : World) : Type 0 where
  pub printed : AppendsPrefix before.out.written after.out.written effect.text
  pub held : (after.shelf.files ≡ before.shelf.files) ⊎ HasPut effect.put before.shelf.files after.shelf.files
  pub put_first : Keeps before.out.written after.out.written ⊎ HasPut effect.put before.shelf.files after.shelf.files

-- what is left at an end of a command that comes to an effect
abbrev pub Leaves : Effect → List File → (before after : World) → Ending → Type 0
Leaves effect files before after Done = Meets effect before after Done
Leaves effect files before after (Refused refusal) = Meets effect before after (Refused refusal)
Leaves effect files before after (Exceeded name) = Meets effect before after (Exceeded name)
Leaves effect files before after (Unread name) = LacksFile files before after name.now
Leaves effect files before after (Unput name) = LacksPut effect before after name.now
Leaves effect files before after Unwritten = LacksOutput effect before after
Leaves effect files before after NoMemory = LacksMemory effect before after

-- ---- the whole

-- between two moments no count of a fault of the outside rose
pub record NoneRose (before after : World) : Type 0 where
  pub takes : (name : List ℕ) → Rose (before.shelf.failed_takes name) (after.shelf.failed_takes name) → ⊥
  pub puts : (name : List ℕ) → Rose (before.shelf.failed_puts name) (after.shelf.failed_puts name) → ⊥
  pub faults : Rose before.out.faults after.out.faults → ⊥

-- an end of what the words ask for: of the files as they are seen an effect is what the words come to, the end leaves what it may, and where nothing outside failed all is as the effect has it, unless memory was wanting
pub record Ends (asked : Option Request) (before after : World) (ending : Ending) : Type 0 where
  pub files : List File
  pub opened : AreSeen before.shelf.files (names_of asked) files
  pub effect : Effect
  pub comes : WordsComeTo asked files effect
  pub leaves : Leaves effect files before after ending
  pub complete : NoneRose before after → (ending ≡ NoMemory) ⊎ Meets effect before after ending

-- the end is one at which nothing was printed or tried to be
abbrev pub IsSilent : Ending → Type 0
IsSilent Done = ⊥
IsSilent Unwritten = ⊥
IsSilent NoMemory = ⊥
IsSilent (Refused refusal) = Unit {0}
IsSilent (Exceeded name) = Unit {0}
IsSilent (Unread name) = Unit {0}
IsSilent (Unput name) = Unit {0}

-- ---- a world that is known to be faultless

-- a shelf holds a file of each of these names
abbrev pub AreHeld : Option FilesByName → (names : List (List ℕ)) → Type 0
AreHeld told [] = Unit {0}
AreHeld told (name ∷ names) = IsHeld told name × AreHeld told names

-- the shelf and the output are known to be faultless, and the shelf holds each of these files
pub record IsFaultless (names : List (List ℕ)) (world : World) : Type 0 where
  pub shelf : IsTrue world.shelf.is_faultless
  pub out : IsTrue world.out.is_faultless
  pub held : AreHeld world.shelf.files names

-- nothing has failed yet
pub record IsFresh (world : World) : Type 0 where
  pub takes : (name : List ℕ) → world.shelf.failed_takes name ≡ 0
  pub puts : (name : List ℕ) → world.shelf.failed_puts name ≡ 0
  pub faults : world.out.faults ≡ 0
