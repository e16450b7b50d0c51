-- The lines that are told of refusals, and the exit statuses.
use Rattle.std.specs.Prelude.{ℕ, List, [], ◌∷◌, ◌++◌, codes, decimal, flat_map}
use Rattle.om_die.specs.declared.fault.DieFault.{DieFault}
use Rattle.om_die.specs.declared.fault.DieFault.TheVariants as die
use Rattle.om_elf.specs.declared.fault.ElfFault.{ElfFault}
use Rattle.om_elf.specs.declared.fault.ElfFault.TheVariants as elf
use Rattle.om_cfi.specs.declared.fault.CfiFault.{CfiFault}
use Rattle.om_cfi.specs.declared.fault.CfiFault.TheVariants as cfi
use Rattle.om_line.specs.declared.fault.LineFault.{LineFault}
use Rattle.om_line.specs.declared.fault.LineFault.TheVariants as line
use Rattle.om_log.specs.declared.fault.LogFault.{LogFault}
use Rattle.om_log.specs.declared.fault.LogFault.TheVariants as log
use Rattle.om_names.specs.declared.fault.NamesFault.{NamesFault}
use Rattle.om_names.specs.declared.fault.NamesFault.TheVariants as names
use Rattle.om_run.specs.declared.departure.Reason.{Reason}
use Rattle.om_run.specs.declared.departure.Reason.TheVariants as reason
use Rattle.om_table.specs.Escape.{escaped}
use Rattle.om_command.specs.declared.ending.Ending.{Ending}
use Rattle.om_command.specs.declared.ending.Ending.TheVariants.{Done, Refused, Exceeded, Unread, Unput, Unwritten, NoMemory}
use Rattle.om_command.specs.declared.refusal.Part.{Part}
use Rattle.om_command.specs.declared.refusal.Part.TheVariants as part
use Rattle.om_command.specs.declared.refusal.Refusal.{Refusal}
use Rattle.om_command.specs.declared.refusal.Refusal.TheVariants.{Unbuilt, Executable, Debug, NoRoom, Log, Overlap, TooLong, LogTooLong, TooManyBytes, Departs}

-- the exit status of a refusal
abbrev pub refusal_status : Refusal → ℕ
refusal_status (Unbuilt part) = 11
refusal_status (Executable fault) = 3
refusal_status (Debug fault) = 4
refusal_status (NoRoom a b) = 3
refusal_status (Log fault) = 5
refusal_status (Overlap a b) = 5
refusal_status (TooLong steps) = 7
refusal_status (LogTooLong step) = 7
refusal_status TooManyBytes = 7
refusal_status (Departs departure) = 6

-- the exit status of an end
abbrev pub status_of : Ending → ℕ
status_of Done = 0
status_of (Refused refusal) = refusal_status refusal
status_of (Exceeded name) = 7
status_of (Unread name) = 8
status_of (Unput name) = 9
status_of Unwritten = 9
status_of NoMemory = 10

-- some words, and then each number behind a space
abbrev pub with_numbers : (words : List ℕ) → (numbers : List ℕ) → List ℕ
with_numbers words numbers = words ++ flat_map (λ number. 32 ∷ decimal number) numbers

-- the word for a part
abbrev pub word_of : Part → List ℕ
word_of part.Words = codes "words"
word_of part.Query = codes "query"

-- the words for a fault of an executable
abbrev pub elf_words : ElfFault → List ℕ
elf_words elf.Short = codes "short"
elf_words elf.Magic = codes "magic"
elf_words elf.Class = codes "class"
elf_words elf.Kind = codes "kind"
elf_words elf.Machine = codes "machine"
elf_words elf.Flags = codes "flags"
elf_words (elf.Table index) = with_numbers (codes "table") (index ∷ [])
elf_words (elf.Overlap a b) = with_numbers (codes "overlap") (a ∷ b ∷ [])
elf_words elf.TooBig = codes "too big"
elf_words elf.NoMemory = []
elf_words (elf.Compressed section) = with_numbers (codes "compressed") (section ∷ [])

-- the words for a fault of a section's entries, or of a range list
abbrev pub die_words : DieFault → List ℕ
die_words (die.Short at) = with_numbers (codes "short at") (at ∷ [])
die_words (die.Abbrev at) = with_numbers (codes "abbrev at") (at ∷ [])
die_words (die.Form at) = with_numbers (codes "form at") (at ∷ [])
die_words (die.Target at) = with_numbers (codes "ref at") (at ∷ [])
die_words (die.TooMany at) = with_numbers (codes "too many at") (at ∷ [])
die_words die.NoMemory = []

-- the words for a fault of a line table
abbrev pub line_words : LineFault → List ℕ
line_words (line.Short at) = with_numbers (codes "short at") (at ∷ [])
line_words (line.Version at) = with_numbers (codes "version at") (at ∷ [])
line_words (line.Header at) = with_numbers (codes "header at") (at ∷ [])
line_words (line.Opcode at) = with_numbers (codes "opcode at") (at ∷ [])
line_words line.NoMemory = []

-- the words for a fault of an entry of frames
abbrev pub frame_words : CfiFault → List ℕ
frame_words (cfi.Short at) = with_numbers (codes "short at") (at ∷ [])
frame_words (cfi.Cie at) = with_numbers (codes "cie at") (at ∷ [])
frame_words cfi.NoMemory = []

-- the words for a type of .debug_info that leads too far
abbrev pub type_loop_words : ℕ → List ℕ
type_loop_words at = with_numbers (codes "type loop at") (at ∷ [])

-- the words for a fault of debugging information: its section first
abbrev pub debug_words : NamesFault → List ℕ
debug_words (names.Info fault) = codes ".debug_info " ++ die_words fault
debug_words (names.Ranges fault) = codes ".debug_ranges " ++ die_words fault
debug_words (names.Lines fault) = codes ".debug_line " ++ line_words fault
debug_words (names.Frame fault) = codes ".debug_frame " ++ frame_words fault
debug_words (names.TypeLoop at) = codes ".debug_info " ++ type_loop_words at
debug_words names.NoMemory = []

-- the words for a fault of a log
abbrev pub fault_words : LogFault → List ℕ
fault_words (log.Short at) = with_numbers (codes "short at") (at ∷ [])
fault_words log.Magic = codes "magic"
fault_words log.Version = codes "version"
fault_words (log.Kind at) = with_numbers (codes "kind at") (at ∷ [])
fault_words (log.Order at) = with_numbers (codes "order at") (at ∷ [])
fault_words log.NoEnd = codes "no end"
fault_words (log.Trailing at) = with_numbers (codes "trailing at") (at ∷ [])
fault_words log.Region = codes "region"
fault_words log.NoMemory = []

-- the words for the rule that is broken
abbrev pub reason_words : Reason → List ℕ
reason_words reason.MarkPc = codes "mark pc"
reason_words reason.MarkSum = codes "mark sum"
reason_words reason.EndExit = codes "end exit"
reason_words reason.EndValue = codes "end value"
reason_words reason.EndStop = codes "end stop"
reason_words reason.Call = codes "call"
reason_words reason.Passed = codes "passed"
reason_words reason.Number = codes "number"
reason_words (reason.Argument j) = with_numbers (codes "argument") (j ∷ [])
reason_words reason.Outside = codes "outside"
reason_words reason.Stopped = codes "stopped"

-- the words for the step of a departure
abbrev pub step_words : ℕ → List ℕ
step_words step = codes "omni: departs: step " ++ decimal step ++ codes ": "

-- the words for the two numbers of a departure
abbrev pub number_words : (told found : ℕ) → List ℕ
number_words told found = codes ": log " ++ decimal told ++ codes ", run " ++ decimal found

-- the line of a refusal, without its line end
unfoldable pub refusal_line : Refusal → List ℕ
refusal_line (Unbuilt part) = codes "omni: unbuilt: " ++ word_of part
refusal_line (Executable fault) = codes "omni: executable: " ++ elf_words fault
refusal_line (Debug fault) = codes "omni: debug: " ++ debug_words fault
refusal_line (NoRoom a b) = codes "omni: executable: " ++ with_numbers (codes "no room") (a ∷ b ∷ [])
refusal_line (Log fault) = codes "omni: log: " ++ fault_words fault
refusal_line (Overlap a b) = codes "omni: log: " ++ with_numbers (codes "overlap") (a ∷ b ∷ [])
refusal_line (TooLong steps) = codes "omni: limit: " ++ decimal steps ++ codes " steps, allowed 4000000"
refusal_line (LogTooLong step) = codes "omni: limit: " ++ with_numbers (codes "log at step") (step ∷ [])
refusal_line TooManyBytes = codes "omni: limit: more than 67108864 bytes"
refusal_line (Departs d) = step_words d.step ++ reason_words d.reason ++ number_words d.told d.found

-- the lines of a file that has more bytes than are read, of one that isn't read and of one that isn't put
abbrev pub limit_line : (name : List ℕ) → List ℕ
limit_line name = codes "omni: limit: file " ++ (escaped name ++ (codes " is longer than 67108864" ++ 10 ∷ []))

abbrev pub read_line : (name : List ℕ) → List ℕ
read_line name = codes "omni: read: " ++ escaped name ++ 10 ∷ []

abbrev pub write_line : (name : List ℕ) → List ℕ
write_line name = codes "omni: write: " ++ escaped name ++ 10 ∷ []

-- the line that is told of an end, with its line end
unfoldable pub line_of : Ending → List ℕ
line_of Done = []
line_of (Refused refusal) = refusal_line refusal ++ 10 ∷ []
line_of (Exceeded name) = limit_line name.now
line_of (Unread name) = read_line name.now
line_of (Unput name) = write_line name.now
line_of Unwritten = codes "omni: write" ++ 10 ∷ []
line_of NoMemory = codes "omni: memory" ++ 10 ∷ []
