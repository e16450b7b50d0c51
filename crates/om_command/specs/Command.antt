-- What a command means: a function of its words, of the files that it names, and of what these say.
use Rattle.std.specs.Prelude.{◌≡◌, ℕ, nat_eq, nat_lt, codes, decimal, if◌then◌else◌, ◌⊎◌, List, [], ◌∷◌, ◌++◌, length, Option, Some, None, Result, Ok, Err}
use Rattle.om_base.specs.Limits.{most_bytes}
use Rattle.om_elf.specs.Executable.{elf_fault, elf_in}
use Rattle.om_elf.specs.declared.elf.Elf.{Elf}
use Rattle.om_elf.specs.declared.fault.ElfFault.{ElfFault}
use Rattle.om_info.specs.Text.{info_of}
use Rattle.om_log.specs.declared.entry.Entry.{Entry}
use Rattle.om_log.specs.declared.fault.LogFault.{LogFault}
use Rattle.om_log.specs.declared.log.Log.{Log}
use Rattle.om_mem.specs.Contents.{overlap_of}
use Rattle.om_names.specs.Facts.{Facts, facts_of}
use Rattle.om_names.specs.Information.{Information}
use Rattle.om_names.specs.declared.fault.NamesFault.{NamesFault}
use Rattle.om_record.specs.Recording.{Recording, made, too_long, no_room, recording}
use Rattle.om_record.specs.declared.recorded.Recorded.{Recorded}
use Rattle.om_run.specs.Departure.{departure_of}
use Rattle.om_run.specs.Run.{end_of}
use Rattle.om_run.specs.declared.departure.Departure.{Departure}
use Rattle.om_step.specs.First.{first_state, regions_of}
use Rattle.om_step.specs.State.{State}
use Rattle.om_command.specs.declared.refusal.Part.TheVariants as part
use Rattle.om_command.specs.declared.refusal.Refusal.TheVariants as refusal
use Rattle.om_command.specs.Answer.{answer_text, condition_of}
use Rattle.om_command.specs.Effect.{Effect, prints, puts, refuses, exceeds, misses}
use Rattle.om_command.specs.Files.{AreFound, File, Reaches, longer, missing}
use Rattle.om_command.specs.Readings.{AreReadings, Readings, content_at, needs_of}
use Rattle.om_command.specs.Requests.{Command, Request, informs, queries, records}
use Rattle.om_type.specs.declared.typed.Typed.{Typed}

-- the greatest number of steps that are replayed or recorded
abbrev pub most_steps : ℕ
most_steps = 4_000_000

-- a run that departs from its log is refused, and any other has its answer
abbrev pub ended_by : Option Departure → List ℕ → Effect
ended_by None text = prints text
ended_by (Some departure) text = refuses (refusal.Departs departure)

-- what a query about a run comes to
abbrev pub judged_run : Facts → List Entry → State → Typed → Effect
judged_run facts entries first typed =
    let last = (end_of entries).step in
    if nat_lt most_steps last
    then refuses (refusal.TooLong last)
    else ended_by (departure_of entries first) (answer_text facts entries first (condition_of typed) typed.outputs)

-- the query is judged where no regions overlap, and the run where the query is one that is built
abbrev pub judged_query : Facts → List Entry → State → Option Typed → Effect
judged_query facts entries first None = refuses (refusal.Unbuilt part.Query)
judged_query facts entries first (Some typed) = judged_run facts entries first typed

abbrev pub judged_overlap : Option (ℕ × ℕ) → Elf → Facts → Log → Option Typed → Effect
judged_overlap (Some pair) elf facts log query = refuses (refusal.Overlap pair.0 pair.1)
judged_overlap None elf facts log query = judged_query facts log.entries (first_state elf log.start) query

-- a log that isn't one is refused, and of another one the overlap is judged
abbrev pub judged_log : Elf → Facts → Result Log LogFault → Option Typed → Effect
judged_log elf facts (Err fault) query = refuses (refusal.Log fault)
judged_log elf facts (Ok log) query = judged_overlap (overlap_of (regions_of elf.segments log.start)) elf facts log query

-- debugging information with a fault is refused, and then comes the log
abbrev pub judged_debug : Elf → Result Information NamesFault → Result Log LogFault → Option Typed → Effect
judged_debug elf (Err fault) log query = refuses (refusal.Debug fault)
judged_debug elf (Ok info) log query = judged_log elf (facts_of info) log query

abbrev pub judged_elf : Option ElfFault → Elf → Readings → Effect
judged_elf (Some fault) elf read = refuses (refusal.Executable fault)
judged_elf None elf read = judged_debug elf read.debug read.log read.query

-- what a query comes to over the bytes of an executable, where all that it rests on is read so
unfoldable pub judged : List ℕ → Readings → Effect
judged exe read = judged_elf (elf_fault exe) (elf_in exe) read

-- ---- recording

-- the word for the cause of an end
abbrev pub cause_word : ℕ → List ℕ
cause_word cause = if nat_eq cause 0 then codes "exit" else if nat_eq cause 1 then codes "cut" else codes "stop"

-- the line for a log that was made: its last step, and how it ends
abbrev pub summary : Recorded → List ℕ
summary r = codes "steps " ++ decimal r.steps ++ codes " end " ++ cause_word r.cause ++ codes " " ++ decimal r.value ++ 10 ∷ []

-- a log that was made is put under this name
abbrev pub put_under : List ℕ → Recording → Effect
put_under name (made r) = puts name r.bytes (summary r)
put_under name (too_long step) = refuses (refusal.LogTooLong step)
put_under name (no_room a b) = refuses (refusal.NoRoom a b)

abbrev pub recorded_elf : Option ElfFault → Elf → (input name : List ℕ) → Effect
recorded_elf (Some fault) elf input name = refuses (refusal.Executable fault)
recorded_elf None elf input name = put_under name (recording elf input most_steps)

-- what a recording comes to over the bytes of an executable and of an input
unfoldable pub recorded_run : (exe input name : List ℕ) → Effect
recorded_run exe input name = recorded_elf (elf_fault exe) (elf_in exe) input name

-- ---- telling of an executable

-- a text is printed, unless it has more bytes than are printed
abbrev pub printed_within : List ℕ → Effect
printed_within text = if nat_lt most_bytes (length text) then refuses refusal.TooManyBytes else prints text

-- debugging information with a fault is refused
abbrev pub informed_debug : Elf → Result Information NamesFault → Effect
informed_debug elf (Err fault) = refuses (refusal.Debug fault)
informed_debug elf (Ok info) = printed_within (info_of elf (facts_of info))

abbrev pub informed_elf : Option ElfFault → Elf → Result Information NamesFault → Effect
informed_elf (Some fault) elf read = refuses (refusal.Executable fault)
informed_elf None elf read = informed_debug elf read

-- what is told of the bytes of an executable, where its debugging information is read so
unfoldable pub informed : List ℕ → Result Information NamesFault → Effect
informed exe read = informed_elf (elf_fault exe) (elf_in exe) read

-- ---- all commands

-- what a command comes to over files with these contents, where what it needs is read so
abbrev pub effect_with : Command → (contents : List (List ℕ)) → Readings → Effect
effect_with (queries sql) contents read = judged (content_at contents 0) read
effect_with (records log) contents read = recorded_run (content_at contents 0) (content_at contents 1) log
effect_with informs contents read = informed (content_at contents 0) read.debug

-- over files with these contents a command comes to this effect
pub record Means (command : Command) (contents : List (List ℕ)) (effect : Effect) : Type 0 where
  pub read : Readings
  pub readings : AreReadings (needs_of command) contents read
  pub is : effect ≡ effect_with command contents read

-- a command comes to this effect over files of which this is seen: what it means over their contents, or the refusal of the first of them that isn't found
abbrev pub ComesTo : Command → List File → Effect → Type 0
ComesTo command files effect =
    ((contents : List (List ℕ)) × AreFound files contents × Means command contents effect)
    ⊎ (((name : List ℕ) × Reaches files (record { name = name; seen = longer }) × (effect ≡ exceeds name))
    ⊎ ((name : List ℕ) × Reaches files (record { name = name; seen = missing }) × (effect ≡ misses name)))

-- what the words come to over files of which this is seen
abbrev pub WordsComeTo : Option Request → List File → Effect → Type 0
WordsComeTo None files effect = effect ≡ refuses (refusal.Unbuilt part.Words)
WordsComeTo (Some request) files effect = ComesTo request.command files effect
