-- The table of departures: the rules of a step in their order, each with its whole guard and its two numbers.
use Rattle.std.specs.Prelude.{ℕ, ◌+◌, Bool, false, true, not, ◌&&◌, nat_eq, nat_lt, if◌then◌else◌, List, [], ◌∷◌, ◌++◌, Option, Some, None, unwrap_or, is_some, is_none}
use Rattle.std.specs.List.{flat_map}
use Rattle.om_log.specs.EndCauses.{by_exit, by_stop}
use Rattle.om_log.specs.declared.entry.Entry.{Entry}
use Rattle.om_step.specs.State.{State, register, sum_of}
use Rattle.om_step.specs.Step.{outcome, outside_of}
use Rattle.om_step.specs.declared.outcome.Outcome.{Outcome}
use Rattle.om_step.specs.declared.outcome.Outcome.TheVariants.{Next, Call as StandsAtCall, Stop}
use Rattle.om_run.specs.declared.logged.LoggedCall.{LoggedCall}
use Rattle.om_run.specs.declared.logged.RunEnd.{RunEnd}
use Rattle.om_run.specs.Run.{Marked, due, marks_of, end_of, writes_of}
use Rattle.om_run.specs.Departure.{argument_at, call_before, is_exit, number_of, stop_code, stops_with}
use Rattle.om_run.specs.declared.departure.Reason.{Reason}
use Rattle.om_run.specs.declared.departure.Reason.TheVariants.{MarkPc, MarkSum, EndExit, EndValue, EndStop, Call, Passed, Number, Argument, Outside, Stopped}
use Rattle.om_run.specs.declared.departure.Departure.{Departure}

-- a rule at a step: why the run departs if it is broken, whether it is, and the numbers that the log and the run have
pub record Rule : Type 0 where
  pub reason : Reason
  pub is_broken : Bool
  pub told : ℕ
  pub found : ℕ

abbrev pub rule : Reason → Bool → (told found : ℕ) → Rule
rule reason is_broken told found = record { reason = reason; is_broken = is_broken; told = told; found = found }

-- what the rules of a step speak of: whether it is the last one or stands before it, the end, the call of the step before the last one, what happens at the step, the call that the log tells for it, and its state
pub record Judged : Type 0 where
  pub is_last : Bool
  pub is_before : Bool
  pub end : RunEnd
  pub before_end : Option LoggedCall
  pub happens : Outcome
  pub call : Option LoggedCall
  pub state : State

-- ---- the parts of the guards

-- the machine stands at an ECALL
abbrev pub is_call : Outcome → Bool
is_call (Next touched) = false
is_call StandsAtCall = true
is_call (Stop cause) = false

-- the machine stops
abbrev pub is_stop : Outcome → Bool
is_stop (Next touched) = false
is_stop StandsAtCall = false
is_stop (Stop cause) = true

-- there is a call, and it exits
abbrev pub is_exit_call : Option LoggedCall → Bool
is_exit_call None = false
is_exit_call (Some call) = is_exit call.number

-- the first address of a call's writes that may not be written
abbrev pub outside_at : Option LoggedCall → State → Option ℕ
outside_at call s = outside_of s.memory.regions (writes_of call)

-- before the last step the machine stands at an ECALL, and the log tells a call of the step
abbrev pub meets_call : Judged → Bool
meets_call at = at.is_before && (is_call at.happens && is_some at.call)

-- ---- the rules

-- 1 and 2: a mark of the step has another pc; it has another sum
abbrev pub mark_rules : State → Marked → List Rule
mark_rules s mark =
    rule MarkPc (not (nat_eq mark.pc s.pc)) mark.pc s.pc
    ∷ rule MarkSum (not (nat_eq mark.sum (sum_of s))) mark.sum (sum_of s)
    ∷ []

-- 3: at the last step, an end by exit, and no call of the step before exits
abbrev pub end_exit_rule : Judged → Rule
end_exit_rule at =
    rule EndExit (at.is_last && (nat_eq at.end.cause by_exit && not (is_exit_call at.before_end))) at.end.value (number_of at.before_end)

-- 4: at the last step, an end by exit, the call of the step before exits, and its first argument isn't the value
abbrev pub end_value_rule : Judged → Rule
end_value_rule at =
    rule EndValue (at.is_last && (nat_eq at.end.cause by_exit && (is_exit_call at.before_end && not (nat_eq (argument_at at.before_end 0) at.end.value))))
    at.end.value (argument_at at.before_end 0)

-- 5: at the last step, an end by a stop, and the machine has no stop of that code
abbrev pub end_stop_rule : Judged → Rule
end_stop_rule at =
    rule EndStop (at.is_last && (nat_eq at.end.cause by_stop && not (stops_with at.end.value at.happens))) at.end.value (stop_code at.happens)

-- 6: before the last step, an ECALL, and no call of the step
abbrev pub call_rule : Judged → Rule
call_rule at = rule Call (at.is_before && (is_call at.happens && is_none at.call)) 0 (register at.state 17)

-- 7: before the last step, a call of the step, and no ECALL
abbrev pub passed_rule : Judged → Rule
passed_rule at = rule Passed (at.is_before && (is_some at.call && not (is_call at.happens))) (number_of at.call) at.state.pc

-- 8: a7 isn't the number of the call that is met
abbrev pub number_rule : Judged → Rule
number_rule at =
    rule Number (meets_call at && not (nat_eq (number_of at.call) (register at.state 17))) (number_of at.call) (register at.state 17)

-- 9: an argument of the call that is met is another one, in a0 to a5
abbrev pub argument_rule : Judged → ℕ → Rule
argument_rule at j =
    rule (Argument j) (meets_call at && not (nat_eq (argument_at at.call j) (register at.state (10 + j))))
    (argument_at at.call j) (register at.state (10 + j))

-- 10: a byte of a write of the call that is met may not be written
abbrev pub outside_rule : Judged → Rule
outside_rule at =
    rule Outside (meets_call at && is_some (outside_at at.call at.state)) (unwrap_or (outside_at at.call at.state) 0) at.state.pc

-- 11: before the last step, and the machine stops
abbrev pub stopped_rule : Judged → Rule
stopped_rule at = rule Stopped (at.is_before && is_stop at.happens) at.end.step (stop_code at.happens)

-- ---- the table

-- the rules 3 to 11, rule 9 once for each argument
abbrev pub rules_beside_marks : Judged → List Rule
rules_beside_marks at =
    end_exit_rule at ∷ end_value_rule at ∷ end_stop_rule at ∷ call_rule at ∷ passed_rule at ∷ number_rule at
    ∷ argument_rule at 0 ∷ argument_rule at 1 ∷ argument_rule at 2 ∷ argument_rule at 3 ∷ argument_rule at 4 ∷ argument_rule at 5
    ∷ outside_rule at ∷ stopped_rule at ∷ []

-- what the rules of a step of a log speak of
abbrev pub judged_at : List Entry → ℕ → State → Judged
judged_at entries i s = record {
  is_last = nat_eq i (end_of entries).step;
  is_before = nat_lt i (end_of entries).step;
  end = end_of entries;
  before_end = call_before entries (end_of entries).step;
  happens = outcome s;
  call = due entries i;
  state = s;
}

-- all rules of a step, in their order: those of its marks, one mark after another, and the others
abbrev pub rules_at : List Entry → ℕ → State → List Rule
rules_at entries i s = flat_map (mark_rules s) (marks_of entries i) ++ rules_beside_marks (judged_at entries i s)

-- the departure by the first of some rules that is broken, if one is
abbrev pub first_broken : ℕ → List Rule → Option Departure
first_broken i [] = None
first_broken i (r ∷ rs) =
    if r.is_broken then Some (record { step = i; reason = r.reason; told = r.told; found = r.found }) else first_broken i rs
