-- Where a run departs from its log: the rules, in the order in which they are judged at a step.
use Rattle.std.specs.Prelude.{ℕ, zero, suc, ◌+◌, Bool, false, not, ◌&&◌, ◌||◌, nat_eq, nat_lt, if◌then◌else◌, List, [], ◌∷◌, slice_index, map, Option, Some, None}
use Rattle.std.specs.Option.{option_and_then, option_map, option_map_or, option_or}
use Rattle.om_base.specs.Firsts.{first_of}
use Rattle.om_log.specs.EndCauses.{by_exit, by_stop}
use Rattle.om_log.specs.declared.entry.Entry.{Entry}
use Rattle.om_step.specs.State.{State, register, sum_of}
use Rattle.om_step.specs.Step.{outcome, outside_of, code_of}
use Rattle.om_step.specs.declared.cause.Cause.{Cause}
use Rattle.om_step.specs.declared.outcome.Outcome.{Outcome}
use Rattle.om_step.specs.declared.outcome.Outcome.TheVariants.{Next, Call as StandsAtCall, Stop}
use Rattle.om_run.specs.declared.logged.LoggedCall.{LoggedCall}
use Rattle.om_run.specs.declared.logged.RunEnd.{RunEnd}
use Rattle.om_run.specs.Run.{Marked, due, marks_of, end_of, state_at, below}
use Rattle.om_run.specs.declared.departure.Reason.{Reason}
use Rattle.om_run.specs.declared.departure.Reason.TheVariants.{MarkPc, MarkSum, EndExit, EndValue, EndStop, Call, Passed, Number, Argument, Outside, Stopped}
use Rattle.om_run.specs.declared.departure.Departure.{Departure}

-- a rule that is broken: the number that the log has, and the one that the run has
pub record Broken : Type 0 where
  pub told : ℕ
  pub found : ℕ

abbrev pub broken : (told found : ℕ) → Option Broken
broken told found = Some (record { told = told; found = found })

-- ---- marks

-- a mark has another pc
abbrev pub mark_pc : Marked → State → Option Broken
mark_pc mark s = if nat_eq mark.pc s.pc then None else broken mark.pc s.pc

-- a mark has another sum of the registers
abbrev pub mark_sum : Marked → State → Option Broken
mark_sum mark s = if nat_eq mark.sum (sum_of s) then None else broken mark.sum (sum_of s)

-- ---- the end

-- the call of the step before the last one
abbrev pub call_before : List Entry → ℕ → Option LoggedCall
call_before entries zero = None
call_before entries (suc i) = due entries i

-- the number of a call, or 0 where there is none
abbrev pub number_of : Option LoggedCall → ℕ
number_of call = option_map_or (λ (c : LoggedCall). c.number) call 0

-- the number is that of a call that exits
abbrev pub is_exit : ℕ → Bool
is_exit number = nat_eq number 93 || nat_eq number 94

-- an end by exit stands after a call that exits
abbrev pub end_exit : RunEnd → Option LoggedCall → Option Broken
end_exit end call =
    if nat_eq end.cause by_exit && not (is_exit (number_of call)) then broken end.value (number_of call) else None

-- an argument of a call, or 0 where there is none
abbrev pub argument_at : Option LoggedCall → ℕ → ℕ
argument_at call j = option_map_or (λ (c : LoggedCall). slice_index c.arguments j) call 0

-- the value of an end by exit is the call's first argument
abbrev pub end_value : RunEnd → Option LoggedCall → Option Broken
end_value end call =
    if nat_eq end.cause by_exit && not (nat_eq (argument_at call 0) end.value) then broken end.value (argument_at call 0) else None

-- the machine has a stop of that code
abbrev pub stops_with : ℕ → Outcome → Bool
stops_with code (Next touched) = false
stops_with code StandsAtCall = false
stops_with code (Stop cause) = nat_eq (code_of cause) code

-- the code of the stop that the machine has, or 0 where it has none
abbrev pub stop_code : Outcome → ℕ
stop_code (Next touched) = 0
stop_code StandsAtCall = 0
stop_code (Stop cause) = code_of cause

-- an end by a stop stands where the machine has that stop
abbrev pub end_stop : RunEnd → Outcome → Option Broken
end_stop end happens =
    if nat_eq end.cause by_stop && not (stops_with end.value happens) then broken end.value (stop_code happens) else None

-- ---- a step before the last one

-- the machine stands at a call, and the log tells none
abbrev pub no_call : Option LoggedCall → State → Option Broken
no_call None s = broken 0 (register s 17)
no_call (Some call) s = None

-- the log tells a call, and the machine stands at none
abbrev pub passed : Option LoggedCall → State → Option Broken
passed None s = None
passed (Some call) s = broken call.number s.pc

-- the machine stops before the run ends
abbrev pub stopped : RunEnd → Cause → Option Broken
stopped end cause = broken end.step (code_of cause)

-- the call that the log tells has another number
abbrev pub other_number : LoggedCall → State → Option Broken
other_number call s = if nat_eq call.number (register s 17) then None else broken call.number (register s 17)

-- an argument of the call is another one; the arguments stand in a0 to a5
abbrev pub other_argument : ℕ → LoggedCall → State → Option Broken
other_argument j call s =
    if nat_eq (slice_index call.arguments j) (register s (10 + j)) then None else broken (slice_index call.arguments j) (register s (10 + j))

-- a write of the call goes to an address that may not be written: the first such address, and the pc
abbrev pub write_outside : LoggedCall → State → Option Broken
write_outside call s = option_and_then (λ address. broken address s.pc) (outside_of s.memory.regions call.writes)

-- ---- the first broken rule of a step

-- a departure at a step, for a reason, where the rule is broken
abbrev pub departs_for : ℕ → Reason → Option Broken → Option Departure
departs_for i reason rule = option_map (λ (b : Broken). record { step = i; reason = reason; told = b.told; found = b.found }) rule

-- the rules of a mark of a step
abbrev pub departs_for_mark : ℕ → State → Marked → Option Departure
departs_for_mark i s mark = first_of (departs_for i MarkPc (mark_pc mark s) ∷ departs_for i MarkSum (mark_sum mark s) ∷ [])

-- the rules of the marks of a step, one mark after another
abbrev pub departs_at_marks : List Marked → ℕ → State → Option Departure
departs_at_marks marks i s = first_of (map (departs_for_mark i s) marks)

-- the rules of the last step
abbrev pub departs_at_end : RunEnd → Option LoggedCall → Outcome → ℕ → Option Departure
departs_at_end end call happens i =
    first_of
    (departs_for i EndExit (end_exit end call) ∷ departs_for i EndValue (end_value end call) ∷ departs_for i EndStop (end_stop end happens) ∷ [])

-- a departure for an argument, where it is another one
abbrev pub departs_for_argument : LoggedCall → ℕ → State → ℕ → Option Departure
departs_for_argument call i s j = departs_for i (Argument j) (other_argument j call s)

-- the rules of a call that the log tells, where the machine stands at one: its number, then its arguments from the first, then its writes
abbrev pub departs_at_call : Option LoggedCall → ℕ → State → Option Departure
departs_at_call None i s = departs_for i Call (no_call None s)
departs_at_call (Some call) i s =
    first_of
    (departs_for i Number (other_number call s)
    ∷ first_of (map (departs_for_argument call i s) (0 ∷ 1 ∷ 2 ∷ 3 ∷ 4 ∷ 5 ∷ []))
    ∷ departs_for i Outside (write_outside call s) ∷ [])

-- the rules of a step before the last one, by what happens there
abbrev pub departs_by : RunEnd → Outcome → Option LoggedCall → ℕ → State → Option Departure
departs_by end (Next touched) call i s = departs_for i Passed (passed call s)
departs_by end StandsAtCall call i s = departs_at_call call i s
departs_by end (Stop cause) call i s =
    first_of (departs_for i Passed (passed call s) ∷ departs_for i Stopped (stopped end cause) ∷ [])

-- the rules of a step beside those of its marks
abbrev pub departs_unmarked : List Entry → ℕ → State → Option Departure
departs_unmarked entries i s =
    if nat_lt i (end_of entries).step
    then departs_by (end_of entries) (outcome s) (due entries i) i s
    else departs_at_end (end_of entries) (call_before entries (end_of entries).step) (outcome s) i

-- where the run departs from its log at a step whose state is this one, if it does
abbrev pub departs_at : List Entry → ℕ → State → Option Departure
departs_at entries i s = option_or (departs_at_marks (marks_of entries i) i s) (departs_unmarked entries i s)

-- where the run departs at the first of some steps at which it does
abbrev pub first_departure : List Entry → State → List ℕ → Option Departure
first_departure entries first steps = first_of (map (λ i. departs_at entries i (state_at entries first i)) steps)

-- the least step at which the run departs from its log, and how, if it does
unfoldable pub departure_of : List Entry → State → Option Departure
departure_of entries first = first_departure entries first (below ((end_of entries).step + 1))

-- the number that a log has for a departure; where the machine stops early that is the log's last step, and left out
abbrev pub told_without_last : Reason → ℕ → ℕ
told_without_last MarkPc told = told
told_without_last MarkSum told = told
told_without_last EndExit told = told
told_without_last EndValue told = told
told_without_last EndStop told = told
told_without_last Call told = told
told_without_last Passed told = told
told_without_last Number told = told
told_without_last (Argument j) told = told
told_without_last Outside told = told
told_without_last Stopped told = 0

-- a departure without the log's last step
abbrev pub without_last : Departure → Departure
without_last d = record d { told = told_without_last d.reason d.told }
