-- What is answered, by the one way in which a log and a query are read.
use Rattle.std.proofs.Common.{◌≡◌, ℕ, ◌<◌, ◌≤◌, nat_lt, true, false, List, length, refl, sym, ap, subst, inl, inr, Ok, Err, None}
use Rattle.std.specs.Prelude.{Option, Result, ◌⊎◌}
use Rattle.std.proofs.lemmas.Bool.{le-ltb, lt-ltb}
use Rattle.om_base.specs.Limits.{most_bytes}
use Rattle.om_elf.specs.Executable.{elf_fault, elf_in}
use Rattle.om_elf.specs.Gives.{Gives}
use Rattle.om_elf.specs.declared.elf.Elf.{Elf}
use Rattle.om_elf.specs.declared.fault.ElfFault.{ElfFault}
use Rattle.om_elf.specs.declared.fault.ElfFault.TheVariants as elf
use Rattle.om_log.specs.Faults.{IsFault}
use Rattle.om_log.specs.Grammar.{IsLog}
use Rattle.om_log.specs.declared.fault.LogFault.{LogFault}
use Rattle.om_log.specs.declared.fault.LogFault.TheVariants as log
use Rattle.om_log.specs.declared.log.Log.{Log}
use Rattle.om_info.specs.Text.{info_of}
use Rattle.om_info.specs.declared.fault.InfoFault.{InfoFault}
use Rattle.om_info.specs.declared.fault.InfoFault.TheVariants as info
use Rattle.om_names.specs.Facts.{Facts}
use Rattle.om_names.specs.Information.{Information}
use Rattle.om_names.specs.Known.{Known, Knows, told_by}
use Rattle.om_names.specs.Stages.{IsLawful, IsRefused as HasDebugFault}
use Rattle.om_names.specs.declared.fault.NamesFault.{NamesFault}
use Rattle.om_names.specs.declared.fault.NamesFault.TheVariants as names
use Rattle.om_command.specs.Command.{informed, judged, judged_log, printed_within, recorded_run}
use Rattle.om_command.specs.Readings.{Readings, IsDebugReading, IsLogReading, IsQueryReading, variables_of}
use Rattle.om_command.specs.Reads.{GivesLog, GivesText, end_by_debug, end_by_elf, end_by_info, end_by_log}
use Rattle.om_type.specs.declared.typed.Typed.{Typed}
use Rattle.om_command.specs.declared.ending.Ending.{Ending}

-- where debugging information is refused, there is nothing to read but its fault
pub known_fault : (elf : Elf) (fault : NamesFault) (read : Result Information NamesFault)
    → ((info : Information) → IsLawful elf info → Unit {0} × (fault ≡ names.NoMemory))
    → ((f : NamesFault) → HasDebugFault elf f → (◌≡◌ {A = Result Known NamesFault} (Err fault) (Err f)) ⊎ (◌≡◌ {A = Result Known NamesFault} (Err fault) (Err names.NoMemory)))
    → IsDebugReading elf read → (fault ≡ names.NoMemory) ⊎ (read ≡ Err fault)
known_fault elf fault (Ok info) reads faults is = inl ((reads info is).1)
known_fault elf fault (Err f) reads faults is =
    elim (faults f is) as (λ _. (fault ≡ names.NoMemory) ⊎ (◌≡◌ {A = Result Information NamesFault} (Err f) (Err fault))) [
      | inl e ↦ let same : fault ≡ f = cc in inr (ap (λ g. Err g) (sym same))
      | inr e ↦ inl (cc)
    ]

-- where debugging information is kept, it is that which there is to read
pub known_reading : (elf : Elf) (known : Known) (read : Result Information NamesFault)
    → ((info : Information) → IsLawful elf info → Knows info known × Unit {0})
    → ((f : NamesFault) → HasDebugFault elf f → (◌≡◌ {A = Result Known NamesFault} (Ok known) (Err f)) ⊎ (◌≡◌ {A = Result Known NamesFault} (Ok known) (Err names.NoMemory)))
    → IsDebugReading elf read → (info : Information) × (read ≡ Ok info) × Knows info known
known_reading elf known (Ok info) reads faults is = (info, refl, (reads info is).0)
known_reading elf known (Err fault) reads faults is =
    elim (faults fault is) as (λ _. (info : Information) × (◌≡◌ {A = Result Information NamesFault} (Err fault) (Ok info)) × Knows info known) [
      | inl e ↦ cc
      | inr e ↦ cc
    ]

-- the answer where an executable has a fault
pub elf_refused : (exe : List ℕ) (fault : ElfFault) (read : Readings)
    → Gives (elf_fault exe) (elf_in exe) (Err fault) → GivesText (judged exe read) (Err (end_by_elf fault))
unfolding judged
elf_refused exe elf.NoMemory read is = tt
elf_refused exe fault read is = rw is refl

-- the recording where an executable has a fault
pub elf_unrecorded : (exe : List ℕ) (fault : ElfFault) (input name : List ℕ)
    → Gives (elf_fault exe) (elf_in exe) (Err fault) → GivesLog (recorded_run exe input name) name (Err (end_by_elf fault))
unfolding recorded_run
elf_unrecorded exe elf.NoMemory input name is = tt
elf_unrecorded exe fault input name is = rw is refl

-- the answer where debugging information has a fault
pub debug_refused : (exe : List ℕ) (fault : NamesFault) (read : Readings)
    → elf_fault exe ≡ None → (fault ≡ names.NoMemory) ⊎ (read.debug ≡ Err fault) → GivesText (judged exe read) (Err (end_by_debug fault))
unfolding judged
debug_refused exe names.NoMemory read has way = tt
debug_refused exe fault read has (inl e) = absurd (cc)
debug_refused exe fault read has (inr e) = rw (has, e) refl

-- the answer where there is debugging information
pub debug_given : (exe : List ℕ) (known : Known) (read : Readings) (result : Result (List ℕ) Ending)
    → elf_fault exe ≡ None → (info : Information) × (read.debug ≡ Ok info) × Knows info known
    → GivesText (judged_log (elf_in exe) (told_by known) read.log read.query) result → GivesText (judged exe read) result
unfolding judged
debug_given exe known read result has is gives =
    rw (has, is.1) (subst (λ (facts : Facts). GivesText (judged_log (elf_in exe) facts read.log read.query) result) is.2 gives)

-- a text asks the same of what is kept and of what is read
pub asked_of : (text : List ℕ) (known : Known) (read : Readings) → (info : Information) × (read.debug ≡ Ok info) × Knows info known
    → IsQueryReading (variables_of read.debug) text read.query → IsQueryReading (told_by known).variables.catalog text read.query
asked_of text known read is asks =
    subst (λ (facts : Facts). IsQueryReading facts.variables.catalog text read.query) (sym is.2)
    (subst (λ (debug : Result Information NamesFault). IsQueryReading (variables_of debug) text read.query) is.1 asks)

-- ---- what is told of an executable

-- where it has a fault
pub elf_untold : (exe : List ℕ) (fault : ElfFault) (read : Result Information NamesFault)
    → Gives (elf_fault exe) (elf_in exe) (Err fault) → GivesText (informed exe read) (Err (end_by_elf fault))
unfolding informed
elf_untold exe elf.NoMemory read is = tt
elf_untold exe fault read is = rw is refl

-- where its debugging information has one
pub debug_untold : (exe : List ℕ) (fault : NamesFault) (read : Result Information NamesFault)
    → elf_fault exe ≡ None → (fault ≡ names.NoMemory) ⊎ (read ≡ Err fault) → GivesText (informed exe read) (Err (end_by_debug fault))
unfolding informed
debug_untold exe names.NoMemory read has way = tt
debug_untold exe fault read has (inl e) = absurd (cc)
debug_untold exe fault read has (inr e) = rw (has, e) refl

-- where there is debugging information
pub debug_told : (exe : List ℕ) (known : Known) (read : Result Information NamesFault) (result : Result (List ℕ) Ending)
    → elf_fault exe ≡ None → (info : Information) × (read ≡ Ok info) × Knows info known
    → GivesText (printed_within (info_of (elf_in exe) (told_by known))) result → GivesText (informed exe read) result
unfolding informed
debug_told exe known read result has is gives =
    rw (has, is.1) (subst (λ (facts : Facts). GivesText (printed_within (info_of (elf_in exe) facts)) result) is.2 gives)

-- a text within the limit is printed
pub text_told : (text given : List ℕ) → given ≡ text → length given ≤ most_bytes → GivesText (printed_within text) (Ok given)
text_told text given is within = let short : nat_lt most_bytes (length text) ≡ false = le-ltb most_bytes (length text) (rw is at within) in rw (short, is) refl

-- a longer one is refused
pub text_refused : (text : List ℕ) (fault : InfoFault) → (fault ≡ info.TooManyBytes → most_bytes < length text) → GivesText (printed_within text) (Err (end_by_info fault))
text_refused text info.NoMemory longer = tt
text_refused text info.TooManyBytes longer = let long : nat_lt most_bytes (length text) ≡ true = lt-ltb most_bytes (length text) (longer refl) in rw long refl

-- where a log is refused, there is nothing to read but its fault
pub known_log_fault : (file : List ℕ) (fault : LogFault) (read : Result Log LogFault)
    → ((it : Log) → IsLog file it → (◌≡◌ {A = Result Log LogFault} (Err fault) (Ok it)) ⊎ (◌≡◌ {A = Result Log LogFault} (Err fault) (Err log.NoMemory)))
    → ((f : LogFault) → IsFault file f → (◌≡◌ {A = Result Log LogFault} (Err fault) (Err f)) ⊎ (◌≡◌ {A = Result Log LogFault} (Err fault) (Err log.NoMemory)))
    → IsLogReading file read → (fault ≡ log.NoMemory) ⊎ (read ≡ Err fault)
known_log_fault file fault (Ok it) reads faults is =
    elim (reads it is) as (λ _. (fault ≡ log.NoMemory) ⊎ (◌≡◌ {A = Result Log LogFault} (Ok it) (Err fault))) [
      | inl e ↦ cc
      | inr e ↦ inl (cc)
    ]
known_log_fault file fault (Err f) reads faults is =
    elim (faults f is) as (λ _. (fault ≡ log.NoMemory) ⊎ (◌≡◌ {A = Result Log LogFault} (Err f) (Err fault))) [
      | inl e ↦ let same : fault ≡ f = cc in inr (ap (λ g. Err g) (sym same))
      | inr e ↦ inl (cc)
    ]

-- the answer where a log has a fault
pub log_refused : (elf : Elf) (facts : Facts) (fault : LogFault) (read : Result Log LogFault) (query : Option Typed)
    → (fault ≡ log.NoMemory) ⊎ (read ≡ Err fault) → GivesText (judged_log elf facts read query) (Err (end_by_log fault))
log_refused elf facts log.NoMemory read query way = tt
log_refused elf facts fault read query (inl e) = absurd (cc)
log_refused elf facts fault read query (inr e) = rw e refl
