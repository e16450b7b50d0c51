-- A place in a run, and what one move of a replay does there.
use Rattle.std.specs.Prelude.{◌≡◌, ℕ, zero, suc, ◌+◌, false, nat_lt, if◌then◌else◌, List, Option, Some, None, Result, Ok, Err}
use Rattle.om_log.specs.declared.entry.Entry.{Entry}
use Rattle.om_mem.specs.Pages.{flag, page_in}
use Rattle.om_step.specs.State.{State, Standing}
use Rattle.om_step.specs.Step.{outcome}
use Rattle.om_step.specs.declared.outcome.Outcome.{Outcome}
use Rattle.om_step.specs.declared.outcome.Outcome.TheVariants.{Next, Call, Stop}
use Rattle.om_step.specs.declared.outcome.Touched.{Touched}
use Rattle.om_step.specs.declared.outcome.Touched.TheVariants.{Nothing, Call as TouchedCall}
use Rattle.om_run.specs.Run.{due, end_of, state_at, writes_of}
use Rattle.om_run.specs.Departure.{departs_at}
use Rattle.om_run.specs.declared.departure.Departure.{Departure}
use Rattle.om_run.specs.declared.departure.Halt.{Halt}
use Rattle.om_run.specs.declared.departure.Halt.TheVariants.{Ended, Departs}
use Rattle.om_run.specs.declared.logged.LoggedCall.{LoggedCall}

-- the log's entries, the first state of the run, the step at which the replay stands, and the one at which it last counted every page as unwritten
pub record Place : Type 0 where
  pub entries : List Entry
  pub first : State
  pub step : ℕ
  pub cleared : ℕ

-- the state at a place
abbrev pub here : Place → State
here place = state_at place.entries place.first place.step

-- what a step touches, where the log tells this call or none
abbrev pub touched_by_step : Outcome → Option LoggedCall → Touched
touched_by_step (Next touched) call = touched
touched_by_step Call call = TouchedCall (writes_of call)
touched_by_step (Stop cause) call = Nothing

-- what a move answers, by where the run departs at the step: what the step touches, or that it ended
abbrev pub goes_on : Place → Option Departure → Result Touched Halt
goes_on place (Some departure) = Err (Departs departure)
goes_on place None =
    if nat_lt place.step (end_of place.entries).step
    then Ok (touched_by_step (outcome (here place)) (due place.entries place.step))
    else Err Ended

-- what a move answers at a place
unfoldable pub verdict_at : Place → Result Touched Halt
verdict_at place = goes_on place (departs_at place.entries place.step (here place))

-- the place after a move: one step on where it made one
abbrev pub moved : Place → Result Touched Halt → Place
moved place (Ok touched) = record place { step = place.step + 1 }
moved place (Err halt) = place

-- the place after so many moves
unfoldable pub place_after : Place → ℕ → Place
place_after place zero = place
place_after place (suc n) = moved (place_after place n) (verdict_at (place_after place n))

-- the place at a step, with every page counted as unwritten there
abbrev pub placed_at : Place → ℕ → Place
placed_at place step = record place { step = step; cleared = step }

-- of a machine at a place: a page that doesn't count as written is as it was when all were last counted so
abbrev pub IsKeptSince : Place → Standing → Type 0
IsKeptSince place machine =
    (page : ℕ) → flag machine.dirty page ≡ false
    → page_in machine.state.memory page ≡ page_in (state_at place.entries place.first place.cleared).memory page

-- the place where a run begins
abbrev pub beginning : List Entry → State → Place
beginning entries first = record { entries = entries; first = first; step = 0; cleared = 0 }
