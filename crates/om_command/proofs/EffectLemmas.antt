-- A command means one effect.
use Rattle.std.proofs.Common.{◌≡◌, ◌∙◌, ℕ, ◌<◌, List, refl, sym, subst, Option, Some, None, Result}
use Rattle.std.specs.Prelude.{slice_index}
use Rattle.om_elf.specs.Executable.{elf_fault, elf_in}
use Rattle.om_elf.specs.declared.elf.Elf.{Elf}
use Rattle.om_elf.specs.declared.fault.ElfFault.{ElfFault}
use Rattle.om_log.specs.declared.fault.LogFault.{LogFault}
use Rattle.om_log.specs.declared.log.Log.{Log}
use Rattle.om_names.specs.Information.{Information}
use Rattle.om_names.specs.declared.fault.NamesFault.{NamesFault}
use Rattle.om_type.specs.Typing.{Variables}
use Rattle.om_type.specs.declared.typed.Typed.{Typed}
use Rattle.om_command.specs.Command.{Means, effect_with, informed, informed_elf, judged, judged_elf, recorded_run}
use Rattle.om_command.specs.Effect.{Effect}
use Rattle.om_command.specs.Readings.{AreReadings, IsDebugReading, IsLogReading, IsQueryReading, Readings, content_at, needs_of, variables_of}
use Rattle.om_command.specs.Reads.{IsRefusal}
use Rattle.om_command.specs.Requests.{Command, informs, queries, records}
use Rattle.om_command.specs.declared.ending.Ending.{Ending}

-- what is read is read in one way
pub record OneWay : Type 0 where
  pub debug : (elf : Elf) (a b : Result Information NamesFault) → IsDebugReading elf a → IsDebugReading elf b → a ≡ b
  pub log : (file : List ℕ) (a b : Result Log LogFault) → IsLogReading file a → IsLogReading file b → a ≡ b
  pub query : (variables : Variables) (text : List ℕ) (a b : Option Typed) → IsQueryReading variables text a → IsQueryReading variables text b → a ≡ b

-- readings that are the same, where the executable has no fault, come to the same
same_elf : (fault : Option ElfFault) (elf : Elf) (a b : Readings) → (fault ≡ None → a.debug ≡ b.debug) → a.log ≡ b.log → (fault ≡ None → a.query ≡ b.query)
    → judged_elf fault elf a ≡ judged_elf fault elf b
same_elf (Some fault) elf a b debug log query = refl
same_elf None elf a b debug log query = rw (debug refl, log, query refl) refl

same_judged : (exe : List ℕ) (a b : Readings) → (elf_fault exe ≡ None → a.debug ≡ b.debug) → a.log ≡ b.log → (elf_fault exe ≡ None → a.query ≡ b.query) → judged exe a ≡ judged exe b
unfolding judged
same_judged exe a b debug log query = same_elf (elf_fault exe) (elf_in exe) a b debug log query

same_informed_elf : (fault : Option ElfFault) (elf : Elf) (a b : Result Information NamesFault) → (fault ≡ None → a ≡ b) → informed_elf fault elf a ≡ informed_elf fault elf b
same_informed_elf (Some fault) elf a b debug = refl
same_informed_elf None elf a b debug = rw (debug refl) refl

same_informed : (exe : List ℕ) (a b : Result Information NamesFault) → (elf_fault exe ≡ None → a ≡ b) → informed exe a ≡ informed exe b
unfolding informed
same_informed exe a b debug = same_informed_elf (elf_fault exe) (elf_in exe) a b debug

-- readings of one command come to the same
same_with : OneWay → (command : Command) (contents : List (List ℕ)) (a b : Readings) → ((place i : ℕ) → slice_index (content_at contents place) i < 256)
    → AreReadings (needs_of command) contents a → AreReadings (needs_of command) contents b → effect_with command contents a ≡ effect_with command contents b
same_with one (queries sql) contents a b bytes is too =
    let debug : elf_fault (content_at contents 0) ≡ None → a.debug ≡ b.debug =
    λ none. one.debug (elf_in (content_at contents 0)) a.debug b.debug (is.debug (bytes 0) none) (too.debug (bytes 0) none) in
    same_judged (content_at contents 0) a b debug
    (one.log (content_at contents 1) a.log b.log (is.log (bytes 1)) (too.log (bytes 1)))
    (λ none. one.query (variables_of a.debug) sql a.query b.query is.query
    (subst (λ (read : Result Information NamesFault). IsQueryReading (variables_of read) sql b.query) (sym (debug none)) too.query))
same_with one (records log) contents a b bytes is too = refl
same_with one informs contents a b bytes is too =
    same_informed (content_at contents 0) a.debug b.debug (λ none. one.debug (elf_in (content_at contents 0)) a.debug b.debug (is.debug (bytes 0) none) (too.debug (bytes 0) none))

pub one_effect_of : OneWay → (command : Command) (contents : List (List ℕ)) (a b : Effect) → ((place i : ℕ) → slice_index (content_at contents place) i < 256)
    → Means command contents a → Means command contents b → a ≡ b
one_effect_of one command contents a b bytes is too =
    is.is ∙ same_with one command contents is.read too.read bytes is.readings too.readings ∙ sym too.is

-- ---- over the contents of files

-- a query that is refused over the bytes of its files
pub query_refuses : (contents : List (List ℕ)) (sql exe log : List ℕ) (read : Readings) (ending : Ending)
    → exe ≡ content_at contents 0 → log ≡ content_at contents 1
    → ((i : ℕ) → slice_index exe i < 256) → ((i : ℕ) → slice_index log i < 256)
    → ((r : Readings) → (elf_fault exe ≡ None → IsDebugReading (elf_in exe) r.debug) → IsLogReading log r.log → IsQueryReading (variables_of r.debug) sql r.query → IsRefusal (judged exe r) ending)
    → AreReadings (needs_of (queries sql)) contents read → IsRefusal (effect_with (queries sql) contents read) ending
query_refuses contents sql exe log read ending first second exe_bytes log_bytes gives is =
    subst (λ it. IsRefusal (judged it read) ending) first
    (gives read
    (λ none. subst (λ it. ((i : ℕ) → slice_index it i < 256) → elf_fault it ≡ None → IsDebugReading (elf_in it) read.debug) (sym first) is.debug exe_bytes none)
    (subst (λ it. ((i : ℕ) → slice_index it i < 256) → IsLogReading it read.log) (sym second) is.log log_bytes)
    is.query)

-- a recording that is refused over the bytes of its files
pub record_refuses : (contents : List (List ℕ)) (log exe input : List ℕ) (read : Readings) (ending : Ending)
    → exe ≡ content_at contents 0 → input ≡ content_at contents 1
    → IsRefusal (recorded_run exe input log) ending → IsRefusal (effect_with (records log) contents read) ending
record_refuses contents log exe input read ending first second is =
    subst (λ it. IsRefusal (recorded_run it (content_at contents 1) log) ending) first
    (subst (λ it. IsRefusal (recorded_run exe it log) ending) second is)

-- what is told of an executable is refused over the bytes of its file
pub info_refuses : (contents : List (List ℕ)) (exe : List ℕ) (read : Readings) (ending : Ending)
    → exe ≡ content_at contents 0 → ((i : ℕ) → slice_index exe i < 256)
    → ((r : Result Information NamesFault) → (elf_fault exe ≡ None → IsDebugReading (elf_in exe) r) → IsRefusal (informed exe r) ending)
    → AreReadings (needs_of informs) contents read → IsRefusal (effect_with informs contents read) ending
info_refuses contents exe read ending first exe_bytes gives is =
    subst (λ it. IsRefusal (informed it read.debug) ending) first
    (gives read.debug
    (λ none. subst (λ it. ((i : ℕ) → slice_index it i < 256) → elf_fault it ≡ None → IsDebugReading (elf_in it) read.debug) (sym first) is.debug exe_bytes none))
