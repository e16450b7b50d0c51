-- What an executable's debugging information, a log's file and a query's text say: each is read in one way, or has one fault, or
-- asks for what isn't built.
use Rattle.std.specs.Prelude.{◌≡◌, ◌⊎◌, ℕ, ◌<◌, slice_index, List, [], get_or, Option, Some, None, IfSome, Result, Ok, Err}
use Rattle.om_elf.specs.Executable.{elf_fault, elf_in}
use Rattle.om_elf.specs.declared.elf.Elf.{Elf}
use Rattle.om_log.specs.Grammar.{IsLog}
use Rattle.om_log.specs.Faults.{IsFault}
use Rattle.om_log.specs.declared.fault.LogFault.{LogFault}
use Rattle.om_log.specs.declared.log.Log.{Log}
use Rattle.om_names.specs.Facts.{facts_of}
use Rattle.om_names.specs.Information.{Information}
use Rattle.om_names.specs.Stages.{IsLawful, IsRefused}
use Rattle.om_names.specs.declared.fault.NamesFault.{NamesFault}
use Rattle.om_parse.specs.Refusals.{HasTree, IsRefusal}
use Rattle.om_parse.specs.declared.fault.ParseFault.{ParseFault}
use Rattle.om_parse.specs.declared.tree.Query.{Query}
use Rattle.om_type.specs.Typing.{IsTyped, Variables}
use Rattle.om_type.specs.Unbuilt.{IsUnbuilt}
use Rattle.om_type.specs.declared.typed.Typed.{Typed}
use Rattle.om_command.specs.Requests.{Command, informs, queries, records}

-- what is read of a command's files and words
pub record Readings : Type 0 where
  pub debug : Result Information NamesFault
  pub log : Result Log LogFault
  pub query : Option Typed

-- what is read is a thing that there is, or a fault that there is
abbrev pub IsReadAs : {A F : Type 0} → (A → Type 0) → (F → Type 0) → Result A F → Type 0
IsReadAs Is Has (Ok it) = Is it
IsReadAs Is Has (Err fault) = Has fault

-- an executable's sections spell this debugging information, or have this fault
abbrev pub IsDebugReading : Elf → Result Information NamesFault → Type 0
IsDebugReading elf read = IsReadAs (IsLawful elf) (IsRefused elf) read

-- a file is the spelling of this log, or has this fault
abbrev pub IsLogReading : List ℕ → Result Log LogFault → Type 0
IsLogReading file read = IsReadAs (IsLog file) (IsFault file) read

-- a text with a tree asks this, of which the names are those of the relation and of some variables
abbrev pub Asks : Variables → List ℕ → Typed → Type 0
Asks catalog text typed = (query : Query) × HasTree text query × IsTyped catalog query typed

-- a text has no tree, or asks for what isn't built
abbrev pub AsksNothing : Variables → List ℕ → Type 0
AsksNothing catalog text = ((query : Query) × HasTree text query × IsUnbuilt catalog query) ⊎ ((fault : ParseFault) × IsRefusal text fault)

-- a text asks this, or nothing that is built
abbrev pub IsQueryReading : Variables → List ℕ → Option Typed → Type 0
IsQueryReading catalog text (Some typed) = Asks catalog text typed
IsQueryReading catalog text None = AsksNothing catalog text

-- the variables that a query may name: those of the debugging information
abbrev pub variables_of : Result Information NamesFault → Variables
variables_of (Ok info) = (facts_of info).variables.catalog
variables_of (Err fault) = []

-- ---- of a command

-- which readings a command needs: of the file at which place the debugging information, of which one the log, and of which text the query
pub record Needs : Type 0 where
  pub debug : Option ℕ
  pub log : Option ℕ
  pub query : Option (List ℕ)

abbrev pub needs_of : Command → Needs
needs_of (queries sql) = record { debug = Some 0; log = Some 1; query = Some sql }
needs_of (records log) = record { debug = None; log = None; query = None }
needs_of informs = record { debug = Some 0; log = None; query = None }

-- the contents of the file at a place
abbrev pub content_at : (contents : List (List ℕ)) → (place : ℕ) → List ℕ
content_at contents place = get_or contents place []

-- a file of bytes is read so, where it is an executable
abbrev pub IsExecutableRead : Result Information NamesFault → List ℕ → Type 0
IsExecutableRead read file = ((i : ℕ) → slice_index file i < 256) → elf_fault file ≡ None → IsDebugReading (elf_in file) read

-- a file of bytes is read so
abbrev pub IsLogRead : Result Log LogFault → List ℕ → Type 0
IsLogRead read file = ((i : ℕ) → slice_index file i < 256) → IsLogReading file read

-- all that a command needs is read so, where its files have these contents
pub record AreReadings (needs : Needs) (contents : List (List ℕ)) (read : Readings) : Type 0 where
  pub debug : IfSome needs.debug (λ place. IsExecutableRead read.debug (content_at contents place))
  pub log : IfSome needs.log (λ place. IsLogRead read.log (content_at contents place))
  pub query : IfSome needs.query (λ text. IsQueryReading (variables_of read.debug) text read.query)
