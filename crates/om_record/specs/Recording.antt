-- The log that a run with an input makes: its regions, its states, its entries and its end.
use Rattle.std.specs.Prelude.{◌≡◌, ℕ, zero, suc, ◌+◌, ◌-◌, ◌*◌, ◌/◌, ◌%◌, ◌^◌, ◌&&◌, nat_eq, nat_lt, max, if◌then◌else◌, List, [], ◌∷◌, ◌++◌, length, map, filter, flat_map, find, Option, Some, None, unwrap_or, Result, Ok, Err}
use Rattle.std.specs.Option.{option_or}
use Rattle.om_base.specs.Firsts.{first_of}
use Rattle.om_base.specs.Limits.{most_bytes, page_size}
use Rattle.om_elf.specs.Image.{Image}
use Rattle.om_elf.specs.declared.elf.Elf.{Elf}
use Rattle.om_log.specs.EndCauses.{by_cut, by_exit, by_stop}
use Rattle.om_log.specs.Grammar.{header, spellings}
use Rattle.om_log.specs.declared.entry.Entry.{Entry}
use Rattle.om_log.specs.declared.entry.Entry.TheVariants as entry
use Rattle.om_log.specs.declared.log.Log.{Log}
use Rattle.om_log.specs.declared.start.Start.{Start}
use Rattle.om_mem.specs.Contents.{overlap_of}
use Rattle.om_run.specs.Departure.{is_exit}
use Rattle.om_run.specs.Run.{below}
use Rattle.om_run.specs.declared.logged.RunEnd.{RunEnd}
use Rattle.om_step.specs.First.{first_state, regions_of}
use Rattle.om_step.specs.State.{State, register, sum_of}
use Rattle.om_step.specs.Step.{outcome, next, answered, code_of}
use Rattle.om_step.specs.declared.outcome.Outcome.{Outcome}
use Rattle.om_step.specs.declared.outcome.Outcome.TheVariants.{Next, Call, Stop}
use Rattle.om_record.specs.Kernel.{Kernel, Answer, answer_to}
use Rattle.om_record.specs.declared.recorded.Recorded.{Recorded}
use Rattle.om_record.specs.declared.recorded.RecordFault.{RecordFault}
use Rattle.om_record.specs.declared.recorded.RecordFault.TheVariants.{NoMemory, TooLong, NoRoom}

-- ---- the regions

-- the segments that aren't empty
abbrev pub nonempty : List Image → List Image
nonempty images = filter (λ image. nat_lt 0 image.memsz) images

-- the greatest end of some segments, or 0
abbrev pub greatest_end : List Image → ℕ
greatest_end [] = 0
greatest_end (image ∷ images) = max (image.vaddr + image.memsz) (greatest_end images)

-- a number rounded up to that of a whole page
abbrev pub rounded_up : ℕ → ℕ
rounded_up n = (n + (page_size - 1)) / page_size * page_size

-- a stack of 1 MiB below 2 GiB, and a heap of 1 MiB behind the last segment
unfoldable pub start_of : List Image → Start
start_of images = record {
  stack_low = 2_146_435_072;
  stack_size = 1_048_576;
  heap_low = rounded_up (greatest_end (nonempty images));
  heap_size = 1_048_576;
}

-- the place of the heap in the list of regions: behind the segments that aren't empty, and the stack
abbrev pub heap_place : List Image → ℕ
heap_place images = length (nonempty images) + 1

-- ---- the states

-- a state of the run, with the kernel at its side
pub record Moment : Type 0 where
  pub state : State
  pub kernel : Kernel

-- a call is answered by the kernel
abbrev pub served : Moment → Answer → Moment
served m answer = record { state = answered m.state answer.result answer.writes; kernel = answer.kernel }

-- the moment after a step
abbrev pub after_moment : Start → Outcome → Moment → Moment
after_moment start (Next touched) m = record m { state = next m.state }
after_moment start Call m = served m (answer_to start m.kernel m.state)
after_moment start (Stop cause) m = m

-- the moment after so many steps: all of the input is left at first, and the break stands where the heap begins
unfoldable pub moment_at : Elf → List ℕ → ℕ → Moment
moment_at elf input zero = record {
  state = first_state elf (start_of elf.segments);
  kernel = record { left = input; program_break = (start_of elf.segments).heap_low };
}
moment_at elf input (suc i) =
    after_moment (start_of elf.segments) (outcome (moment_at elf input i).state) (moment_at elf input i)

-- ---- the end

-- the end at this step of a run that makes a call that exits just before
abbrev pub end_by_exit : Outcome → State → ℕ → Option RunEnd
end_by_exit (Next touched) s i = None
end_by_exit Call s i = if is_exit (register s 17) then Some (record { step = i; cause = by_exit; value = register s 10 }) else None
end_by_exit (Stop cause) s i = None

abbrev pub exit_end_at : Elf → List ℕ → ℕ → Option RunEnd
exit_end_at elf input zero = None
exit_end_at elf input (suc i) = end_by_exit (outcome (moment_at elf input i).state) (moment_at elf input i).state (suc i)

-- the end at this step of a run that stops there
abbrev pub end_by_stop : Outcome → ℕ → Option RunEnd
end_by_stop (Next touched) i = None
end_by_stop Call i = None
end_by_stop (Stop cause) i = Some (record { step = i; cause = by_stop; value = code_of cause })

-- the end at a step: behind a call that exits, or below the limit where the machine stops
abbrev pub end_at : Elf → List ℕ → (limit i : ℕ) → Option RunEnd
end_at elf input limit i =
    option_or (exit_end_at elf input i) (if nat_lt i limit then end_by_stop (outcome (moment_at elf input i).state) i else None)

-- the end of the run: the first one up to the limit, at which it is cut
unfoldable pub ending_of : Elf → List ℕ → (limit : ℕ) → RunEnd
ending_of elf input limit =
    unwrap_or (first_of (map (end_at elf input limit) (below (limit + 1)))) (record { step = limit; cause = by_cut; value = 0 })

-- ---- the entries

-- a mark stands at each step above 0 and below the limit that is a multiple of 65,536
abbrev pub mark_of : (limit i : ℕ) → State → List Entry
mark_of limit i s =
    if nat_lt 0 i && nat_eq (i % 65_536) 0 && nat_lt i limit then entry.Mark i s.pc (sum_of s) ∷ [] else []

-- the arguments of a call: a0 to a5
abbrev pub arguments_of : State → List ℕ
arguments_of s = map (register s) (10 ∷ 11 ∷ 12 ∷ 13 ∷ 14 ∷ 15 ∷ [])

-- what the log tells of a call with this answer
abbrev pub call_entry : ℕ → State → Answer → Entry
call_entry i s answer = entry.Call i (register s 17) (arguments_of s) answer.result answer.writes

-- a call stands at each step at which the run makes one
abbrev pub call_of : Start → Outcome → ℕ → Moment → List Entry
call_of start (Next touched) i m = []
call_of start Call i m = call_entry i m.state (answer_to start m.kernel m.state) ∷ []
call_of start (Stop cause) i m = []

-- the entries of a step up to the last one, at which no call is made
unfoldable pub entries_at : Elf → List ℕ → (limit last i : ℕ) → List Entry
entries_at elf input limit last i =
    mark_of limit i (moment_at elf input i).state
    ++ (if nat_lt i last
    then call_of (start_of elf.segments) (outcome (moment_at elf input i).state) i (moment_at elf input i)
    else [])

-- the entries of the steps below a number
abbrev pub entries_below : Elf → List ℕ → (limit last n : ℕ) → List Entry
entries_below elf input limit last n = flat_map (entries_at elf input limit last) (below n)

abbrev pub end_entry : RunEnd → Entry
end_entry e = entry.End e.step e.cause e.value

-- all entries: those of each step up to the last one, and the end
unfoldable pub entries_of : Elf → List ℕ → (limit : ℕ) → List Entry
entries_of elf input limit =
    let ending = ending_of elf input limit in
    entries_below elf input limit ending.step (ending.step + 1) ++ end_entry ending ∷ []

-- the log
abbrev pub log_of : Elf → List ℕ → (limit : ℕ) → Log
log_of elf input limit = record { start = start_of elf.segments; entries = entries_of elf input limit }

-- the bytes of a log
abbrev pub bytes_of : Log → List ℕ
bytes_of log = header log.start ++ spellings log.entries

-- ---- what is recorded

-- how many bytes the log has with the entries up to a step, and the 14 bytes of an end behind them
abbrev pub size_through : Elf → List ℕ → (limit last i : ℕ) → ℕ
size_through elf input limit last i =
    length (header (start_of elf.segments) ++ spellings (entries_below elf input limit last (i + 1))) + 14

-- the first step whose entries make the log too long, if one does
unfoldable pub too_long_at : Elf → List ℕ → (limit : ℕ) → Option ℕ
too_long_at elf input limit =
    let last = (ending_of elf input limit).step in
    find (λ i. nat_lt most_bytes (size_through elf input limit last i)) (below (last + 1))

-- what recording a run comes to, apart from want of memory
pub data Recording : Type 0 where
  -- a log
  made : Recorded → Recording
  -- the entries of this step make the log too long
  too_long : ℕ → Recording
  -- the regions at these places of the list share an address, or both are that of a heap that passes the last one
  no_room : (a b : ℕ) → Recording

-- the log with its end, where it isn't too long
abbrev pub recorded_by : Option ℕ → Log → RunEnd → Recording
recorded_by None log ending =
    made (record { bytes = bytes_of log; steps = ending.step; cause = ending.cause; value = ending.value })
recorded_by (Some step) log ending = too_long step

-- the run is made where its regions are apart
abbrev pub recorded_in : Option (ℕ × ℕ) → Elf → List ℕ → (limit : ℕ) → Recording
recorded_in None elf input limit =
    recorded_by (too_long_at elf input limit) (log_of elf input limit) (ending_of elf input limit)
recorded_in (Some pair) elf input limit = no_room pair.0 pair.1

-- what the run of an executable with an input gives, up to a limit of steps: there is no room where the heap passes the last address, or else where two regions share one
unfoldable pub recording : Elf → List ℕ → (limit : ℕ) → Recording
recording elf input limit =
    let start = start_of elf.segments in
    if nat_lt (2 ^ 32) (start.heap_low + start.heap_size)
    then no_room (heap_place elf.segments) (heap_place elf.segments)
    else recorded_in (overlap_of (regions_of elf.segments start)) elf input limit

-- the answer is what recording comes to, or want of memory
abbrev pub Makes : Recording → Result Recorded RecordFault → Type 0
Makes recording (Ok recorded) = recording ≡ made recorded
Makes recording (Err NoMemory) = Unit {0}
Makes recording (Err (TooLong step)) = recording ≡ too_long step
Makes recording (Err (NoRoom a b)) = recording ≡ no_room a b
