-- What a replay keeps while it walks along its log. Nobody above needs it.
use Rattle.std.specs.Prelude.{◌≡◌, ℕ, min, ◌≤◌, Bool, true, false, nat_lt, if◌then◌else◌, List, [], ◌∷◌, map, Option, Some, None, Result, Ok, Err}
use Rattle.std.specs.Option.{option_or}
use Rattle.om_base.specs.Firsts.{first_of}
use Rattle.om_log.specs.Grammar.{AreLawful, step_of}
use Rattle.om_log.specs.declared.entry.Entry.{Entry}
use Rattle.om_step.specs.Back.{IsClean}
use Rattle.om_step.specs.State.{State, Standing}
use Rattle.om_step.specs.declared.outcome.Outcome.{Outcome}
use Rattle.om_step.specs.declared.outcome.Outcome.TheVariants.{Next, Call, Stop}
use Rattle.om_step.specs.declared.outcome.Touched.{Touched}
use Rattle.om_run.specs.Run.{end_of, state_at, after_by}
use Rattle.om_run.specs.Replay.{Place, IsKeptSince, touched_by_step}
use Rattle.om_run.specs.Departure.{departs_for, departs_for_argument, other_number}
use Rattle.om_run.specs.declared.departure.Reason.TheVariants.{Number}
use Rattle.om_run.specs.declared.departure.Departure.{Departure}
use Rattle.om_run.specs.declared.departure.Halt.{Halt}
use Rattle.om_run.specs.declared.departure.Halt.TheVariants.{Ended, Departs}
use Rattle.om_run.specs.declared.logged.LoggedCall.{LoggedCall}
use Rattle.om_run.specs.declared.logged.RunEnd.{RunEnd}

-- the entries from a step on: without those of earlier steps that they begin with
abbrev pub from_step : ℕ → List Entry → List Entry
from_step i [] = []
from_step i (entry ∷ entries) = if nat_lt (step_of entry) i then from_step i entries else entry ∷ entries

-- before this step some entries tell nothing: the step of the first one, or the last step if that is earlier
abbrev pub end_of_quiet : List Entry → ℕ → ℕ
end_of_quiet [] last = last
end_of_quiet (entry ∷ entries) last = min (step_of entry) last

-- the log tells nothing at a place: its next entry is of a later step, and the last step is later
abbrev pub is_quiet : Place → Bool
is_quiet place = nat_lt place.step (end_of_quiet (from_step place.step place.entries) (end_of place.entries).step)

-- what happens is that an instruction is executed
abbrev pub is_next : Outcome → Bool
is_next (Next touched) = true
is_next Call = false
is_next (Stop cause) = false

-- a replay's machine is in the state of its step, its unwritten pages are as they were at its last clearing, and its rest of the entries is what the log has from there on
pub record IsPlaced (place : Place) (machine : Standing) (rest : List Entry) (end : RunEnd) : Type 0 where
  pub state : machine.state ≡ state_at place.entries place.first place.step
  pub kept : IsKeptSince place machine
  pub since : place.cleared ≤ place.step
  pub clean : place.step ≡ place.cleared → IsClean machine
  pub whole : AreLawful 0 place.entries
  pub left : rest ≡ from_step place.step place.entries
  pub ending : end ≡ end_of place.entries
  pub within : place.step ≤ end.step

-- the rules of a call that the log tells, where the machine stands at one, but for its writes
abbrev pub departs_before_writes : LoggedCall → ℕ → State → Option Departure
departs_before_writes call i s =
    option_or (departs_for i Number (other_number call s)) (first_of (map (departs_for_argument call i s) (0 ∷ 1 ∷ 2 ∷ 3 ∷ 4 ∷ 5 ∷ [])))

-- what a step before the last one answers, by where the run departs there, if it does
abbrev pub step_verdict : Option Departure → Outcome → Option LoggedCall → Result Touched Halt
step_verdict (Some departure) outcome call = Err (Departs departure)
step_verdict None outcome call = Ok (touched_by_step outcome call)

-- the state that such a step leaves: another one where it was made
abbrev pub step_leaves : Result Touched Halt → Outcome → Option LoggedCall → State → State
step_leaves (Ok touched) outcome call s = after_by outcome call s
step_leaves (Err halt) outcome call s = s

-- why a run stops at its last step, by where its end departs from the log, if it does
abbrev pub end_halt : Option Departure → Halt
end_halt (Some departure) = Departs departure
end_halt None = Ended

-- why a run goes no further at a step, by where its marks depart there and where its end would, if they do; the end is judged at the last step
abbrev pub marks_or_end : Option Departure → Option Departure → (last step : ℕ) → Option Halt
marks_or_end (Some departure) at_end last step = Some (Departs departure)
marks_or_end None at_end last step = if nat_lt step last then None else Some (end_halt at_end)
