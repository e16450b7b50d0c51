-- That the rules of a step are judged in the order of their table.
use Rattle.std.proofs.Common.{◌≡◌, ℕ, ◌≤◌, Bool, true, false, not, ◌&&◌, nat_eq, nat_lt, if◌then◌else◌, List, [], ◌∷◌, ◌++◌, map, slice_index, Option, Some, None, unwrap_or, is_some, refl, sym, ap, ◌∙◌, arith}
use Rattle.std.proofs.lemmas.Bool.{eq-eqb, ltb-true, ltb-false, ne_eqb}
use Rattle.std.specs.List.{flat_map}
use Rattle.std.specs.Option.{option_and_then, option_or}
use Rattle.om_base.specs.Firsts.{first_of}
use Rattle.om_log.specs.declared.entry.Entry.{Entry}
use Rattle.om_step.specs.State.{State, register, sum_of}
use Rattle.om_step.specs.Step.{outcome, outside_of}
use Rattle.om_step.specs.declared.outcome.Outcome.{Outcome}
use Rattle.om_step.specs.declared.outcome.Outcome.TheVariants.{Next, Call as StandsAtCall, Stop}
use Rattle.om_run.specs.Departure.{broken, call_before, departs_at, departs_at_end, departs_at_marks, departs_by, departs_for, departs_for_argument, departs_for_mark, departs_unmarked, stop_code, stops_with}
use Rattle.om_run.specs.Run.{Marked, due, end_of, marks_of}
use Rattle.om_run.specs.Table.{Rule, Judged, argument_rule, first_broken, is_exit_call, judged_at, mark_rules, outside_rule, rules_at, rules_beside_marks, stopped_rule}
use Rattle.om_run.specs.declared.departure.Departure.{Departure}
use Rattle.om_run.specs.declared.departure.Reason.{Reason}
use Rattle.om_run.specs.declared.departure.Reason.TheVariants.{MarkPc, MarkSum, EndExit, EndValue, EndStop, Number, Argument, Outside}
use Rattle.om_run.specs.declared.logged.RunEnd.{RunEnd}
use Rattle.om_run.specs.declared.logged.LoggedCall.{LoggedCall}

-- ---- some rules after others

if_or : (b : Bool) (d : Departure) (x y : Option Departure) → (if b then Some d else option_or x y) ≡ option_or (if b then Some d else x) y
if_or true d x y = refl
if_or false d x y = refl

-- the first broken rule of some rules and of some after them
first_broken_append : (i : ℕ) (xs ys : List Rule) → first_broken i (xs ++ ys) ≡ option_or (first_broken i xs) (first_broken i ys)
first_broken_append i [] ys = refl
first_broken_append i (x ∷ xs) ys =
    ap (λ (rest : Option Departure). if x.is_broken then Some (record { step = i; reason = x.reason; told = x.told; found = x.found }) else rest) (first_broken_append i xs ys)
    ∙ if_or x.is_broken (record { step = i; reason = x.reason; told = x.told; found = x.found }) (first_broken i xs) (first_broken i ys)

-- a rule that is broken where a test holds, before others
by_guard : {rest others : Option Departure} (i : ℕ) (reason : Reason) (guard : Bool) (told found : ℕ) → rest ≡ others
    → (if guard then Some (record { step = i; reason = reason; told = told; found = found }) else rest)
    ≡ option_or (departs_for i reason (if guard then broken told found else None)) others
by_guard i reason true told found e = refl
by_guard i reason false told found e = e

-- a rule that is broken where two numbers differ, before others
by_same : {rest others : Option Departure} (i : ℕ) (reason : Reason) (same : Bool) (told found : ℕ) → rest ≡ others
    → (if not same then Some (record { step = i; reason = reason; told = told; found = found }) else rest)
    ≡ option_or (departs_for i reason (if same then None else broken told found)) others
by_same i reason true told found e = e
by_same i reason false told found e = refl

-- ---- the marks

mark_in_order : (i : ℕ) (s : State) (mark : Marked) → first_broken i (mark_rules s mark) ≡ departs_for_mark i s mark
mark_in_order i s mark =
    by_same i MarkPc (nat_eq mark.pc s.pc) mark.pc s.pc (by_same i MarkSum (nat_eq mark.sum (sum_of s)) mark.sum (sum_of s) refl)

marks_in_order : (i : ℕ) (s : State) (marks : List Marked) → first_broken i (flat_map (mark_rules s) marks) ≡ departs_at_marks marks i s
marks_in_order i s [] = refl
marks_in_order i s (mark ∷ marks) =
    first_broken_append i (mark_rules s mark) (flat_map (mark_rules s) marks)
    ∙ ap (λ (d : Option Departure). option_or d (first_broken i (flat_map (mark_rules s) marks))) (mark_in_order i s mark)
    ∙ ap (option_or (departs_for_mark i s mark)) (marks_in_order i s marks)

-- ---- the last step

end_by : (i : ℕ) (exit goes same stop stops : Bool) (value number first code : ℕ)
    → (if exit && not goes then Some (record { step = i; reason = EndExit; told = value; found = number }) else
    if exit && (goes && not same) then Some (record { step = i; reason = EndValue; told = value; found = first }) else
    if stop && not stops then Some (record { step = i; reason = EndStop; told = value; found = code }) else None)
    ≡ first_of (departs_for i EndExit (if exit && not goes then broken value number else None)
    ∷ departs_for i EndValue (if exit && not same then broken value first else None)
    ∷ departs_for i EndStop (if stop && not stops then broken value code else None) ∷ [])
end_by i true true same stop stops value number first code =
    by_guard i EndValue (not same) value first (by_guard i EndStop (stop && not stops) value code refl)
end_by i true false same stop stops value number first code = refl
end_by i false goes same stop stops value number first code = by_guard i EndStop (stop && not stops) value code refl

-- what is judged at the last step, and what before it
abbrev at_last : RunEnd → Option LoggedCall → Outcome → Option LoggedCall → State → Judged
at_last end before_end happens call s =
    record { is_last = true; is_before = false; end = end; before_end = before_end; happens = happens; call = call; state = s }

abbrev at_before : RunEnd → Option LoggedCall → Outcome → Option LoggedCall → State → Judged
at_before end before_end happens call s =
    record { is_last = false; is_before = true; end = end; before_end = before_end; happens = happens; call = call; state = s }

last_in_order : (i : ℕ) (end : RunEnd) (before_end : Option LoggedCall) (happens : Outcome) (call : Option LoggedCall) (s : State)
    → first_broken i (rules_beside_marks (at_last end before_end happens call s)) ≡ departs_at_end end before_end happens i
last_in_order i end None happens call s =
    end_by i (nat_eq end.cause 0) false (nat_eq 0 end.value) (nat_eq end.cause 2) (stops_with end.value happens) end.value 0 0 (stop_code happens)
last_in_order i end (Some before) happens call s =
    end_by i (nat_eq end.cause 0) (is_exit_call (Some before)) (nat_eq (slice_index before.arguments 0) end.value) (nat_eq end.cause 2) (stops_with end.value happens)
    end.value before.number (slice_index before.arguments 0) (stop_code happens)

-- ---- a step before the last one

argument_by : {rest others : Option Departure} (i : ℕ) (call : LoggedCall) (s : State) (j : ℕ) (number : ℕ) → rest ≡ others
    → (if not (nat_eq (slice_index call.arguments j) number) then Some (record { step = i; reason = Argument j; told = slice_index call.arguments j; found = number }) else rest)
    ≡ option_or (departs_for i (Argument j) (if nat_eq (slice_index call.arguments j) number then None else broken (slice_index call.arguments j) number)) others
argument_by i call s j number e = by_same i (Argument j) (nat_eq (slice_index call.arguments j) number) (slice_index call.arguments j) number e

outside_by : (i pc : ℕ) (address : Option ℕ)
    → (if is_some address then Some (record { step = i; reason = Outside; told = unwrap_or address 0; found = pc }) else None)
    ≡ option_or (departs_for i Outside (option_and_then (λ (a : ℕ). broken a pc) address)) None
outside_by i pc None = refl
outside_by i pc (Some a) = refl

arguments_in_order : (i : ℕ) (end : RunEnd) (before_end : Option LoggedCall) (call : LoggedCall) (s : State)
    → let at = at_before end before_end StandsAtCall (Some call) s in
    first_broken i (argument_rule at 0 ∷ argument_rule at 1 ∷ argument_rule at 2 ∷ argument_rule at 3 ∷ argument_rule at 4 ∷ argument_rule at 5 ∷ [])
    ≡ first_of (map (departs_for_argument call i s) (0 ∷ 1 ∷ 2 ∷ 3 ∷ 4 ∷ 5 ∷ []))
arguments_in_order i end before_end call s =
    argument_by i call s 0 (register s 10) (argument_by i call s 1 (register s 11) (argument_by i call s 2 (register s 12)
    (argument_by i call s 3 (register s 13) (argument_by i call s 4 (register s 14) (argument_by i call s 5 (register s 15) refl)))))

call_in_order : (i : ℕ) (end : RunEnd) (before_end : Option LoggedCall) (call : LoggedCall) (s : State)
    → first_broken i (rules_beside_marks (at_before end before_end StandsAtCall (Some call) s)) ≡ departs_by end StandsAtCall (Some call) i s
call_in_order i end before_end call s =
    let at : Judged = at_before end before_end StandsAtCall (Some call) s in
    let arguments : List Rule = argument_rule at 0 ∷ argument_rule at 1 ∷ argument_rule at 2 ∷ argument_rule at 3 ∷ argument_rule at 4 ∷ argument_rule at 5 ∷ [] in
    let others : List Rule = outside_rule at ∷ stopped_rule at ∷ [] in
    by_same i Number (nat_eq call.number (register s 17)) call.number (register s 17)
    (first_broken_append i arguments others
    ∙ ap (λ (d : Option Departure). option_or d (first_broken i others)) (arguments_in_order i end before_end call s)
    ∙ ap (option_or (first_of (map (departs_for_argument call i s) (0 ∷ 1 ∷ 2 ∷ 3 ∷ 4 ∷ 5 ∷ [])))) (outside_by i s.pc (outside_of s.memory.regions call.writes)))

before_in_order : (i : ℕ) (end : RunEnd) (before_end : Option LoggedCall) (happens : Outcome) (call : Option LoggedCall) (s : State)
    → first_broken i (rules_beside_marks (at_before end before_end happens call s)) ≡ departs_by end happens call i s
before_in_order i end before_end (Next touched) None s = refl
before_in_order i end before_end (Next touched) (Some call) s = refl
before_in_order i end before_end StandsAtCall None s = refl
before_in_order i end before_end StandsAtCall (Some call) s = call_in_order i end before_end call s
before_in_order i end before_end (Stop cause) None s = refl
before_in_order i end before_end (Stop cause) (Some call) s = refl

-- ---- all rules

unmarked_by : (last before : Bool) (i : ℕ) (end : RunEnd) (before_end : Option LoggedCall) (happens : Outcome) (call : Option LoggedCall) (s : State) → before ≡ not last
    → first_broken i (rules_beside_marks (record { is_last = last; is_before = before; end = end; before_end = before_end; happens = happens; call = call; state = s }))
    ≡ (if before then departs_by end happens call i s else departs_at_end end before_end happens i)
unmarked_by true true i end before_end happens call s other = cc
unmarked_by true false i end before_end happens call s other = last_in_order i end before_end happens call s
unmarked_by false true i end before_end happens call s other = before_in_order i end before_end happens call s
unmarked_by false false i end before_end happens call s other = cc

-- a step up to the last one stands before it exactly where it isn't the last one
before_or_last : (i last : ℕ) → i ≤ last → nat_lt i last ≡ not (nat_eq i last)
before_or_last i last h =
    elim (nat_lt i last) as (λ before. nat_lt i last ≡ before → before ≡ not (nat_eq i last)) [
      | true ↦ λ e. let apart : nat_eq i last ≡ false = ne_eqb i last (λ same. let less = ltb-true i last e in omega arith) in rw apart refl
      | false ↦ λ e. let same : nat_eq i last ≡ true = eq-eqb i last (let late = ltb-false i last e in omega arith) in rw same refl
    ] refl

unmarked_in_order : (entries : List Entry) (i : ℕ) (s : State) → i ≤ (end_of entries).step → first_broken i (rules_beside_marks (judged_at entries i s)) ≡ departs_unmarked entries i s
unmarked_in_order entries i s h =
    unmarked_by (nat_eq i (end_of entries).step) (nat_lt i (end_of entries).step) i (end_of entries) (call_before entries (end_of entries).step) (outcome s) (due entries i) s
    (before_or_last i (end_of entries).step h)

-- a run departs at a step by the first rule of the table that is broken
pub all_in_order : (entries : List Entry) (i : ℕ) (s : State) → i ≤ (end_of entries).step → departs_at entries i s ≡ first_broken i (rules_at entries i s)
all_in_order entries i s h =
    sym (first_broken_append i (flat_map (mark_rules s) (marks_of entries i)) (rules_beside_marks (judged_at entries i s))
    ∙ ap (λ (d : Option Departure). option_or d (first_broken i (rules_beside_marks (judged_at entries i s)))) (marks_in_order i s (marks_of entries i))
    ∙ ap (option_or (departs_at_marks (marks_of entries i) i s)) (unmarked_in_order entries i s h))
