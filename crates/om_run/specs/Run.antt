-- The run that a log tells: the list of its states.
use Rattle.std.specs.Prelude.{ℕ, zero, suc, ◌+◌, ◌<◌, nat_eq, if◌then◌else◌, List, [], ◌∷◌, ◌++◌, map, Option, Some, None}
use Rattle.std.specs.Option.{option_map_or}
use Rattle.om_log.specs.Chunk.{Chunk}
use Rattle.om_log.specs.EndCauses.{by_cut}
use Rattle.om_log.specs.Grammar.{step_of}
use Rattle.om_log.specs.declared.entry.Entry.{Entry}
use Rattle.om_log.specs.declared.entry.Entry.TheVariants.{Call, Mark, End}
use Rattle.om_run.specs.declared.logged.LoggedCall.{LoggedCall}
use Rattle.om_run.specs.declared.logged.RunEnd.{RunEnd}
use Rattle.om_step.specs.State.{State}
use Rattle.om_step.specs.Step.{outcome, next, answered}
use Rattle.om_step.specs.declared.outcome.Outcome.{Outcome}
use Rattle.om_step.specs.declared.outcome.Outcome.TheVariants.{Next, Call as StandsAtCall, Stop}

-- the call that a log tells for a step, if it tells one
abbrev pub due : List Entry → ℕ → Option LoggedCall
due [] i = None
due (Call step number args result writes ∷ entries) i =
    if nat_eq step i then Some (record { number = number; arguments = args; result = result; writes = writes }) else due entries i
due (Mark step pc sum ∷ entries) i = due entries i
due (End step cause value ∷ entries) i = due entries i

-- what a mark tells of a state: its pc, and the sum of its registers
pub record Marked : Type 0 where
  pub pc : ℕ
  pub sum : ℕ

-- the marks that a log has of a step, in their order
abbrev pub marks_of : List Entry → ℕ → List Marked
marks_of [] i = []
marks_of (Mark step pc sum ∷ entries) i =
    if nat_eq step i then record { pc = pc; sum = sum } ∷ marks_of entries i else marks_of entries i
marks_of (Call step number args result writes ∷ entries) i = marks_of entries i
marks_of (End step cause value ∷ entries) i = marks_of entries i

-- the end that a log tells; a log that keeps the format's rules tells one
abbrev pub end_of : List Entry → RunEnd
end_of [] = record { step = 0; cause = by_cut; value = 0 }
end_of (End step cause value ∷ entries) = record { step = step; cause = cause; value = value }
end_of (Call step number args result writes ∷ entries) = end_of entries
end_of (Mark step pc sum ∷ entries) = end_of entries

-- the result of a call, or 0 where there is none
abbrev pub result_of : Option LoggedCall → ℕ
result_of call = option_map_or (λ (c : LoggedCall). c.result) call 0

-- the writes of a call, or none where there is none
abbrev pub writes_of : Option LoggedCall → List Chunk
writes_of call = option_map_or (λ (c : LoggedCall). c.writes) call []

-- the state after a step: a call is answered with the result and the writes that the log tells
abbrev pub after_by : Outcome → Option LoggedCall → State → State
after_by (Next touched) call s = next s
after_by StandsAtCall call s = answered s (result_of call) (writes_of call)
after_by (Stop cause) call s = s

abbrev pub after_step : List Entry → ℕ → State → State
after_step entries i s = after_by (outcome s) (due entries i) s

-- the state after so many steps from the first state
unfoldable pub state_at : List Entry → State → ℕ → State
state_at entries first zero = first
state_at entries first (suc i) = after_step entries i (state_at entries first i)

-- the numbers below n, rising
abbrev pub below : ℕ → List ℕ
below zero = []
below (suc n) = below n ++ n ∷ []

-- the states of a run, from the first to the one of the last step
unfoldable pub states : List Entry → State → List State
states entries first = map (state_at entries first) (below ((end_of entries).step + 1))

-- each entry stands at a later step than this one
abbrev pub AreAfter : ℕ → List Entry → Type 0
AreAfter i [] = Unit {0}
AreAfter i (entry ∷ entries) = (i < step_of entry) × AreAfter i entries
