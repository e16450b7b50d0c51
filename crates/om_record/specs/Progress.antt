-- What the recorder keeps while it walks along a run. Nobody above needs it.
use Rattle.std.specs.Prelude.{◌≡◌, ℕ, zero, suc, ◌+◌, ◌<◌, ◌≤◌, List, [], ◌∷◌, ◌++◌, length, nat_lt, if◌then◌else◌, Option, Some, None}
use Rattle.std.specs.Option.{option_or}
use Rattle.om_base.specs.Limits.{most_bytes}
use Rattle.om_elf.specs.declared.elf.Elf.{Elf}
use Rattle.om_log.specs.EndCauses.{by_cut, by_exit}
use Rattle.om_log.specs.Grammar.{IsEnd, MayStand, next_of, spellings}
use Rattle.om_log.specs.Writing.{Written, file_of}
use Rattle.om_log.specs.declared.entry.Entry.{Entry}
use Rattle.om_log.specs.declared.start.Start.{Start}
use Rattle.om_record.specs.Kernel.{Kernel, answer_to}
use Rattle.om_record.specs.Recording.{Moment, end_at, ending_of, entries_below, exit_end_at, moment_at, start_of, call_entry}
use Rattle.om_record.specs.declared.process.Pause.{Pause}
use Rattle.om_record.specs.declared.process.Pause.TheVariants.{Reached, AtCall, AtStop}
use Rattle.om_record.specs.declared.recorded.RecordFault.{RecordFault}
use Rattle.om_record.specs.declared.recorded.RecordFault.TheVariants.{NoMemory, TooLong, NoRoom}
use Rattle.om_run.specs.Departure.{is_exit}
use Rattle.om_run.specs.declared.logged.RunEnd.{RunEnd}
use Rattle.om_step.specs.State.{State, register}
use Rattle.om_step.specs.Step.{outcome, next}
use Rattle.om_step.specs.declared.outcome.Outcome.{Outcome}
use Rattle.om_step.specs.declared.outcome.Outcome.TheVariants.{Next, Call, Stop}

-- ---- a walk

-- an outcome is neither a call nor a stop
abbrev pub GoesOn : Outcome → Type 0
GoesOn (Next touched) = Unit {0}
GoesOn Call = ⊥
GoesOn (Stop cause) = ⊥

-- a state after so many steps
unfoldable pub steps_on : State → ℕ → State
steps_on s zero = s
steps_on s (suc n) = next (steps_on s n)

-- so many steps, none of which is a call or a stop, lead from one state to another
pub record IsWalk (from : State) (count : ℕ) (to : State) : Type 0 where
  pub comes : to ≡ steps_on from count
  pub goes : (k : ℕ) → k < count → GoesOn (outcome (steps_on from k))

-- why a walk up to a step ends at this one, in this state
abbrev pub PausesAt : Pause → (until step : ℕ) → State → Type 0
PausesAt Reached until step s = step ≡ until
PausesAt AtCall until step s = (step < until) × (outcome s ≡ Call)
PausesAt (AtStop cause) until step s = (step < until) × (outcome s ≡ Stop cause)

-- ---- what is logged

-- entries without an end may stand one after another, none of them before the first step or from the second one on, but for marks of that
abbrev pub AreBefore : (least past : ℕ) → List Entry → Type 0
AreBefore least past [] = least ≤ past
AreBefore least past (entry ∷ entries) = MayStand least entry × (IsEnd entry → ⊥) × AreBefore (next_of entry) past entries

-- a log has room for an END
abbrev pub HasRoomForEnd : Written → Type 0
HasRoomForEnd written = length (file_of written) + 14 ≤ most_bytes

-- some entries were written, and the log has room for an END behind them
pub record IsLogged (before : Written) (more : List Entry) (after : Written) : Type 0 where
  pub whole : after ≡ record before { body = before.body ++ spellings more }
  pub room : HasRoomForEnd after

-- no entries could be written: memory was wanting, or there is no room behind these, which are those of a step
abbrev pub IsFull : Written → List Entry → (step : ℕ) → RecordFault → Type 0
IsFull before more step NoMemory = Unit {0}
IsFull before more step (TooLong i) = (i ≡ step) × (most_bytes < length (file_of (record before { body = before.body ++ spellings more })) + 14)
IsFull before more step (NoRoom a b) = ⊥

-- a state with a kernel at its side
abbrev pub moment : State → Kernel → Moment
moment s kernel = record { state = s; kernel = kernel }

-- what is logged of the call at which a moment stands
abbrev pub call_entry_at : Start → ℕ → Moment → Entry
call_entry_at start step m = call_entry step m.state (answer_to start m.kernel m.state)

-- the first argument of the call at which a state stands, if that exits
abbrev pub exit_argument : State → Option ℕ
exit_argument s = if is_exit (register s 17) then Some (register s 10) else None

-- ---- a run

-- the last step of a run
abbrev pub last_of : Elf → List ℕ → (limit : ℕ) → ℕ
last_of elf input limit = (ending_of elf input limit).step

-- the entries of the steps below this one
abbrev pub entries_before : Elf → List ℕ → (limit step : ℕ) → List Entry
entries_before elf input limit step = entries_below elf input limit (last_of elf input limit) step

-- the end at a step behind a call that exits with this value
abbrev pub exit_ending : Option ℕ → (step : ℕ) → Option RunEnd
exit_ending None step = None
exit_ending (Some argument) step = Some (record { step = step; cause = by_exit; value = argument })

-- the end at a step that is known before the machine goes on: behind a call that exits with this value, or at the limit
abbrev pub known_ending : Option ℕ → (step limit : ℕ) → Option RunEnd
known_ending exit step limit =
    option_or (exit_ending exit step) (if nat_lt step limit then None else Some (record { step = step; cause = by_cut; value = 0 }))

-- a run came to a step, at this moment, and these entries were logged, and written so; the call just before was one that exits with this value, if it was one
pub record IsAt (elf : Elf) (input : List ℕ) (limit step : ℕ) (now : Moment) (logged : List Entry) (written : Written) (exit : Option ℕ) : Type 0 where
  pub stands : moment_at elf input step ≡ now
  pub within : step ≤ limit
  pub unended : (j : ℕ) → j < step → end_at elf input limit j ≡ None
  pub exits : exit_end_at elf input step ≡ exit_ending exit step
  pub begins : written.start ≡ start_of elf.segments
  pub spelled : written.body ≡ spellings logged
  pub lawful : AreBefore 0 step logged
  pub room : HasRoomForEnd written
