-- That a replay walks along its log.
use Rattle.std.proofs.Common.{◌≡◌, ℕ, suc, ◌+◌, ◌<◌, ◌≤◌, ◌≢◌, Bool, true, false, nat_eq, nat_lt, if◌then◌else◌, List, [], ◌∷◌, length, get_or, drop, drop-cons, Option, Some, None, Result, Ok, Err, refl, sym, ap, subst, ◌∙◌, arith}
use Rattle.std.proofs.lemmas.Bool.{le-ltb, lt-ltb, ltb-true, ltb-false, eq-eqb, ne_eqb}
use Rattle.std.proofs.lemmas.List.{get_or-replicate}
use Rattle.std.specs.Option.{option_or}
use Rattle.om_log.specs.Grammar.{AreLawful, IsEnd, step_of, next_of}
use Rattle.om_log.specs.declared.entry.Entry.{Entry}
use Rattle.om_log.specs.declared.entry.Entry.TheVariants.{Call, Mark, End}
use Rattle.om_elf.specs.declared.elf.Elf.{Elf}
use Rattle.om_log.specs.declared.start.Start.{Start}
use Rattle.om_mem.specs.Contents.{contents_of}
use Rattle.om_mem.specs.Pages.{IsKept, page_count, page_in}
use Rattle.om_step.specs.First.{first_standing, regions_of}
use Rattle.om_step.specs.Back.{IsClean}
use Rattle.om_step.specs.State.{State, Standing, held_of}
use Rattle.om_step.specs.Step.{outcome}
use Rattle.om_step.specs.declared.outcome.Outcome.{Outcome}
use Rattle.om_step.specs.declared.outcome.Outcome.TheVariants.{Next, Stop, Call as StandsAtCall}
use Rattle.om_step.specs.declared.outcome.Touched.{Touched}
use Rattle.om_run.specs.Departure.{call_before, departs_at, departs_at_end, departs_at_marks, departs_by, departs_unmarked}
use Rattle.om_run.specs.Replay.{Place, beginning, goes_on, here, placed_at, verdict_at}
use Rattle.om_run.specs.Run.{due, end_of, marks_of, state_at, after_by, after_step}
use Rattle.om_run.specs.Position.{IsPlaced, end_halt, end_of_quiet, from_step, is_next, marks_or_end, step_leaves, step_verdict}
use Rattle.om_run.specs.declared.departure.Departure.{Departure}
use Rattle.om_run.specs.declared.departure.Halt.{Halt}
use Rattle.om_run.specs.declared.departure.Halt.TheVariants.{Departs}
use Rattle.om_run.specs.declared.logged.RunEnd.{RunEnd}
use Rattle.om_run.specs.declared.logged.LoggedCall.{LoggedCall}

-- ---- the order of entries

-- no call is due before the first entry
none_before : (least : ℕ) (entries : List Entry) → AreLawful least entries → (i : ℕ) → i < least → due entries i ≡ None
unfolding AreLawful step_of next_of
none_before least [] lawful i h = refl
none_before least (Call step number args result writes ∷ entries) lawful i h =
    let other : nat_eq step i ≡ false = ne_eqb step i (λ same. omega (arith, lawful.0.step)) in
    rw other (none_before (step + 1) entries lawful.2 i (omega (arith, lawful.0.step)))
none_before least (Mark step pc sum ∷ entries) lawful i h =
    none_before step entries lawful.2 i (omega (arith, lawful.0.step))
none_before least (End step cause value ∷ entries) lawful i h =
    none_before step entries lawful.2 i (omega (arith, lawful.0.step))

-- and no mark stands before it
unmarked_before : (least : ℕ) (entries : List Entry) → AreLawful least entries → (i : ℕ) → i < least → marks_of entries i ≡ []
unfolding AreLawful step_of next_of
unmarked_before least [] lawful i h = refl
unmarked_before least (Call step number args result writes ∷ entries) lawful i h =
    unmarked_before (step + 1) entries lawful.2 i (omega (arith, lawful.0.step))
unmarked_before least (Mark step pc sum ∷ entries) lawful i h =
    let other : nat_eq step i ≡ false = ne_eqb step i (λ same. omega (arith, lawful.0.step)) in
    rw other (unmarked_before step entries lawful.2 i (omega (arith, lawful.0.step)))
unmarked_before least (End step cause value ∷ entries) lawful i h =
    unmarked_before step entries lawful.2 i (omega (arith, lawful.0.step))

-- entries may stand from each step on that the first one isn't below
stands : (least n : ℕ) (entry : Entry) (entries : List Entry) → AreLawful least (entry ∷ entries) → n ≤ step_of entry → AreLawful n (entry ∷ entries)
unfolding AreLawful
stands least n entry entries lawful h =
    (record { fits = lawful.0.fits; cause = lawful.0.cause; step = h }, lawful.1, lawful.2)

-- the first entry isn't below the least step
first_stands : (least : ℕ) (entry : Entry) (entries : List Entry) → AreLawful least (entry ∷ entries) → least ≤ step_of entry
unfolding AreLawful
first_stands least entry entries lawful = lawful.0.step

others_stand : (least : ℕ) (entry : Entry) (entries : List Entry) → AreLawful least (entry ∷ entries) → AreLawful (next_of entry) entries
unfolding AreLawful
others_stand least entry entries lawful = lawful.2

-- where the first entry is of another step, nothing is told
pub none_at : (i : ℕ) (entry : Entry) (entries : List Entry) → AreLawful i (entry ∷ entries) → step_of entry ≢ i → due (entry ∷ entries) i ≡ None
none_at i entry entries lawful other =
    let late : i < step_of entry = omega (arith, first_stands i entry entries lawful) in
    none_before (step_of entry) (entry ∷ entries) (stands i (step_of entry) entry entries lawful (omega arith)) i late

pub unmarked_at : (i : ℕ) (entry : Entry) (entries : List Entry) → AreLawful i (entry ∷ entries) → step_of entry ≢ i → marks_of (entry ∷ entries) i ≡ []
unmarked_at i entry entries lawful other =
    let late : i < step_of entry = omega (arith, first_stands i entry entries lawful) in
    unmarked_before (step_of entry) (entry ∷ entries) (stands i (step_of entry) entry entries lawful (omega arith)) i late

some_or_none : {T : Type 0} (b : Bool) (x : T) → b ≡ true → (if b then Some x else None) ≡ None → ⊥
some_or_none true x e none = cc
some_or_none false x e none = cc

if_none : {T : Type 0} (b : Bool) (x : T) (y : Option T) → (if b then Some x else None) ≡ None → (if b then Some x else y) ≡ y
if_none true x y none = cc
if_none false x y none = refl

-- an entry that tells no call of a step leaves it to the others
pub due_behind : (entry : Entry) (entries : List Entry) (i : ℕ) → due (entry ∷ []) i ≡ None → due (entry ∷ entries) i ≡ due entries i
due_behind (Call step number args result writes) entries i none =
    if_none (nat_eq step i) (record { number = number; arguments = args; result = result; writes = writes }) (due entries i) none
due_behind (Mark step pc sum) entries i none = refl
due_behind (End step cause value) entries i none = refl

-- the entries from a place on
pub drop_item : (entries : List Entry) (i : ℕ) (entry : Entry) → i < length entries → entry ≡ get_or entries i entry → drop i entries ≡ entry ∷ drop (i + 1) entries
drop_item entries i entry h is =
    let one : suc i ≡ i + 1 = omega arith in
    drop-cons entries i entry h ∙ ap (λ (e : Entry). e ∷ drop (suc i) entries) (sym is) ∙ ap (λ (n : ℕ). entry ∷ drop n entries) one

-- behind an entry of a step that is no call the same step may stand
pub stand_behind : (i : ℕ) (entry : Entry) (entries : List Entry) → AreLawful i (entry ∷ entries) → step_of entry ≡ i → due (entry ∷ []) i ≡ None → AreLawful i entries
unfolding AreLawful step_of next_of
stand_behind i (Call step number args result writes) entries lawful same none =
    absurd (some_or_none (nat_eq step i) (record { number = number; arguments = args; result = result; writes = writes }) (eq-eqb step i same) none)
stand_behind i (Mark step pc sum) entries lawful same none = subst (λ (n : ℕ). AreLawful n entries) same lawful.2
stand_behind i (End step cause value) entries lawful same none = subst (λ (n : ℕ). AreLawful n entries) same lawful.2

-- where the first entry is no mark, no mark of its step stands behind it
pub unmarked_unless : (i : ℕ) (entry : Entry) (entries : List Entry) → AreLawful i (entry ∷ entries)
    → ((step pc sum : ℕ) → entry ≡ Mark step pc sum → ⊥) → marks_of (entry ∷ entries) i ≡ []
unfolding AreLawful IsEnd step_of next_of
unmarked_unless i (Call step number args result writes) entries lawful other =
    unmarked_before (step + 1) entries lawful.2 i (omega (arith, lawful.0.step))
unmarked_unless i (Mark step pc sum) entries lawful other = absurd (other step pc sum refl)
unmarked_unless i (End step cause value) entries lawful other = ap (λ (es : List Entry). marks_of es i) (lawful.1 tt)

pub mark_step : (step pc sum : ℕ) → step_of (Mark step pc sum) ≡ step
unfolding step_of
mark_step step pc sum = refl

-- a mark of another step is none of this one, and none stands behind it
pub unmarked_by_late : (i step pc sum : ℕ) (entry : Entry) (entries : List Entry) → AreLawful i (entry ∷ entries)
    → entry ≡ Mark step pc sum → (step ≡ i → ⊥) → marks_of (entry ∷ entries) i ≡ []
unmarked_by_late i step pc sum entry entries lawful is other =
    unmarked_at i entry entries lawful (λ same. other (sym (mark_step step pc sum) ∙ sym (ap step_of is) ∙ same))

-- a mark of a step is the first of its marks
pub marks_next : (i step pc sum : ℕ) (entry : Entry) (entries : List Entry) → entry ≡ Mark step pc sum → step ≡ i
    → marks_of (entry ∷ entries) i ≡ record { pc = pc; sum = sum } ∷ marks_of entries i
marks_next i step pc sum entry entries is same =
    let here : nat_eq step i ≡ true = eq-eqb step i same in
    ap (λ (e : Entry). marks_of (e ∷ entries) i) is ∙ rw here refl

-- behind it the same step may stand
pub stand_behind_mark : (i step pc sum : ℕ) (entry : Entry) (entries : List Entry) → AreLawful i (entry ∷ entries)
    → entry ≡ Mark step pc sum → step ≡ i → AreLawful i entries
stand_behind_mark i step pc sum entry entries lawful is same =
    stand_behind i entry entries lawful (ap step_of is ∙ mark_step step pc sum ∙ same) (ap (λ (e : Entry). due (e ∷ []) i) is)

-- ---- the entries from a step on

-- an entry of another step tells nothing of a step
due_other : (entry : Entry) (entries : List Entry) (j : ℕ) → step_of entry ≢ j → due (entry ∷ entries) j ≡ due entries j
unfolding step_of
due_other (Call step number args result writes) entries j other = let e : nat_eq step j ≡ false = ne_eqb step j other in rw e refl
due_other (Mark step pc sum) entries j other = refl
due_other (End step cause value) entries j other = refl

marks_other : (entry : Entry) (entries : List Entry) (j : ℕ) → step_of entry ≢ j → marks_of (entry ∷ entries) j ≡ marks_of entries j
unfolding step_of
marks_other (Call step number args result writes) entries j other = refl
marks_other (Mark step pc sum) entries j other = let e : nat_eq step j ≡ false = ne_eqb step j other in rw e refl
marks_other (End step cause value) entries j other = refl

-- what goes with the first entry if it is early, and with its tail then
by_early : {T : Type 0} (f : List Entry → T) (early : Bool) (i : ℕ) (entry : Entry) (entries : List Entry)
    → nat_lt (step_of entry) i ≡ early → (step_of entry < i → f (entry ∷ entries) ≡ f (from_step i entries))
    → f (entry ∷ entries) ≡ f (if early then from_step i entries else (entry ∷ entries))
by_early f true i entry entries e goes = goes (ltb-true (step_of entry) i e)
by_early f false i entry entries e goes = refl

pub due_from : (i : ℕ) (entries : List Entry) (j : ℕ) → i ≤ j → due entries j ≡ due (from_step i entries) j
due_from i [] j h = refl
due_from i (entry ∷ entries) j h =
    by_early (λ es. due es j) (nat_lt (step_of entry) i) i entry entries refl
    (λ early. due_other entry entries j (λ same. omega arith) ∙ due_from i entries j h)

pub marks_from : (i : ℕ) (entries : List Entry) (j : ℕ) → i ≤ j → marks_of entries j ≡ marks_of (from_step i entries) j
marks_from i [] j h = refl
marks_from i (entry ∷ entries) j h =
    by_early (λ es. marks_of es j) (nat_lt (step_of entry) i) i entry entries refl
    (λ early. marks_other entry entries j (λ same. omega arith) ∙ marks_from i entries j h)

early_goes : (j : ℕ) (entry : Entry) (entries : List Entry) → step_of entry < j → from_step j (entry ∷ entries) ≡ from_step j entries
early_goes j entry entries h = let e : nat_lt (step_of entry) j ≡ true = lt-ltb _ _ h in rw e refl

late_stays : (j : ℕ) (entry : Entry) (entries : List Entry) → j ≤ step_of entry → from_step j (entry ∷ entries) ≡ entry ∷ entries
late_stays j entry entries h = let e : nat_lt (step_of entry) j ≡ false = le-ltb _ _ h in rw e refl

-- a later step's entries are among those of a step
from_from : (i j : ℕ) (entries : List Entry) → i ≤ j → from_step j (from_step i entries) ≡ from_step j entries
from_from i j [] h = refl
from_from i j (entry ∷ entries) h =
    sym (by_early (from_step j) (nat_lt (step_of entry) i) i entry entries refl
    (λ early. early_goes j entry entries (omega arith) ∙ sym (from_from i j entries h)))

from_zero : (entries : List Entry) → from_step 0 entries ≡ entries
from_zero [] = refl
from_zero (entry ∷ entries) = late_stays 0 entry entries (omega arith)

-- the step that may come after an early entry
next_within : (entry : Entry) (i : ℕ) → step_of entry < i → next_of entry ≤ i
unfolding step_of next_of
next_within (Call step number args result writes) i h = omega arith
next_within (Mark step pc sum) i h = omega arith
next_within (End step cause value) i h = omega arith

nothing_stands : (i : ℕ) → AreLawful i []
unfolding AreLawful
nothing_stands i = tt

-- the entries from a step on may stand there
lawful_from : (i least : ℕ) (entries : List Entry) → AreLawful least entries → least ≤ i → AreLawful i (from_step i entries)
lawful_from i least [] lawful h = nothing_stands i
lawful_from i least (entry ∷ entries) lawful h =
    elim (nat_lt (step_of entry) i) as (λ early. nat_lt (step_of entry) i ≡ early → AreLawful i (if early then from_step i entries else entry ∷ entries)) [
      | true ↦ λ e. lawful_from i (next_of entry) entries (others_stand least entry entries lawful) (next_within entry i (ltb-true _ _ e))
      | false ↦ λ e. stands least i entry entries lawful (ltb-false _ _ e)
    ] refl

-- ---- the quiet

-- in the quiet nothing is told, and none of the entries is passed
pub quiet_none : (entries : List Entry) (last i : ℕ) → AreLawful i entries → i < end_of_quiet entries last → due entries i ≡ None
quiet_none [] last i lawful h = refl
quiet_none (entry ∷ entries) last i lawful h = none_at i entry entries lawful (λ same. omega arith)

pub quiet_unmarked : (entries : List Entry) (last i : ℕ) → AreLawful i entries → i < end_of_quiet entries last → marks_of entries i ≡ []
quiet_unmarked [] last i lawful h = refl
quiet_unmarked (entry ∷ entries) last i lawful h = unmarked_at i entry entries lawful (λ same. omega arith)

pub quiet_stays : (entries : List Entry) (last i : ℕ) → i < end_of_quiet entries last → from_step (i + 1) entries ≡ entries
quiet_stays [] last i h = refl
quiet_stays (entry ∷ entries) last i h = late_stays (i + 1) entry entries (omega arith)

-- it ends at the last step at the latest
pub quiet_within : (entries : List Entry) (last i : ℕ) → i < end_of_quiet entries last → i < last
quiet_within [] last i h = h
quiet_within (entry ∷ entries) last i h = omega arith

-- ---- the place

-- the rest of the entries may stand at a replay's step
pub lawful_rest : (place : Place) (machine : Standing) (rest : List Entry) (end : RunEnd) → IsPlaced place machine rest end → AreLawful place.step rest
lawful_rest place machine rest end placed =
    subst (AreLawful place.step) (sym placed.left) (lawful_from place.step 0 place.entries placed.whole (omega arith))

-- the rest of the entries tells the call of a replay's step, and its marks
pub due_rest : (place : Place) (machine : Standing) (rest : List Entry) (end : RunEnd) → IsPlaced place machine rest end → due place.entries place.step ≡ due rest place.step
due_rest place machine rest end placed =
    due_from place.step place.entries place.step (omega arith) ∙ ap (λ es. due es place.step) (sym placed.left)

marks_rest : (place : Place) (machine : Standing) (rest : List Entry) (end : RunEnd) → IsPlaced place machine rest end → marks_of place.entries place.step ≡ marks_of rest place.step
marks_rest place machine rest end placed =
    marks_from place.step place.entries place.step (omega arith) ∙ ap (λ es. marks_of es place.step) (sym placed.left)

-- the state after one step more
pub state_next : (entries : List Entry) (first : State) (i : ℕ) → state_at entries first (i + 1) ≡ after_step entries i (state_at entries first i)
unfolding state_at
state_next entries first i = let one : i + 1 ≡ suc i = omega arith in ap (state_at entries first) one

-- a replay begins in its place
pub placed_start : (entries : List Entry) (first : State) (machine : Standing) → AreLawful 0 entries → machine.state ≡ first → IsClean machine
    → IsPlaced (beginning entries first) machine entries (end_of entries)
unfolding state_at
placed_start entries first machine lawful same clean = record {
  state = same;
  kept = λ page f. ap (λ (s : State). page_in s.memory page) same;
  since = omega arith;
  clean = λ e. clean;
  whole = lawful;
  left = sym (from_zero entries);
  ending = refl;
  within = omega arith;
}

-- no page of the first machine counts as written
pub clean_first : (elf : Elf) (start : Start) → IsClean (first_standing elf start)
unfolding contents_of
clean_first elf start page h = get_or-replicate (page_count (regions_of elf.segments start)) page false true h

-- after a step that was made it is in its place again
pub placed_next : (place : Place) (machine after : Standing) (rest : List Entry) (end : RunEnd)
    → IsPlaced place machine rest end → place.step < end.step → after.state ≡ after_by (outcome machine.state) (due rest place.step) machine.state
    → IsKept (held_of machine) (held_of after) → IsPlaced (record place { step = place.step + 1 }) after (from_step (place.step + 1) rest) end
placed_next place machine after rest end placed before made kept =
    let since = placed.since in
    record {
      state = made ∙ ap (λ call. after_by (outcome machine.state) call machine.state) (sym (due_rest place machine rest end placed)) ∙ ap (after_step place.entries place.step) placed.state ∙ sym (state_next place.entries place.first place.step);
      kept = λ page f. kept.page page f ∙ placed.kept page (kept.flag page f);
      since = omega arith;
      clean = λ e. absurd (omega arith);
      whole = placed.whole;
      left = ap (from_step (place.step + 1)) placed.left ∙ from_from place.step (place.step + 1) place.entries (omega arith);
      ending = placed.ending;
      within = omega arith;
    }

-- after a jump it is in its place again
pub placed_jump : (place : Place) (machine after : Standing) (rest : List Entry) (end : RunEnd) (step : ℕ)
    → IsPlaced place machine rest end → step ≤ end.step → after.state ≡ state_at place.entries place.first step → IsClean after
    → IsPlaced (placed_at place step) after (from_step step place.entries) end
placed_jump place machine after rest end step placed within same clean = record {
  state = same;
  kept = λ page f. ap (λ (s : State). page_in s.memory page) same;
  since = omega arith;
  clean = λ e. clean;
  whole = placed.whole;
  left = refl;
  ending = placed.ending;
  within = within;
}

-- ---- what a move answers

abbrev pub err : Halt → Result Touched Halt
err halt = Err halt

-- where no mark departs, the other rules are judged
unmarked_before_last : (entries : List Entry) (i : ℕ) (s : State) → i < (end_of entries).step
    → departs_unmarked entries i s ≡ departs_by (end_of entries) (outcome s) (due entries i) i s
unmarked_before_last entries i s h = let before : nat_lt i (end_of entries).step ≡ true = lt-ltb _ _ h in rw before refl

unmarked_late : (entries : List Entry) (i : ℕ) (s : State) → (end_of entries).step ≤ i
    → departs_unmarked entries i s ≡ departs_at_end (end_of entries) (call_before entries (end_of entries).step) (outcome s) i
unmarked_late entries i s h = let late : nat_lt i (end_of entries).step ≡ false = le-ltb _ _ h in rw late refl

pub departs_before : (entries : List Entry) (i : ℕ) (s : State) → i < (end_of entries).step
    → departs_at entries i s ≡ option_or (departs_at_marks (marks_of entries i) i s) (departs_by (end_of entries) (outcome s) (due entries i) i s)
departs_before entries i s h = ap (option_or (departs_at_marks (marks_of entries i) i s)) (unmarked_before_last entries i s h)

pub departs_late : (entries : List Entry) (i : ℕ) (s : State) → (end_of entries).step ≤ i
    → departs_at entries i s ≡ option_or (departs_at_marks (marks_of entries i) i s) (departs_at_end (end_of entries) (call_before entries (end_of entries).step) (outcome s) i)
departs_late entries i s h = ap (option_or (departs_at_marks (marks_of entries i) i s)) (unmarked_late entries i s h)

pub goes_before : (place : Place) (found : Option Departure) → place.step < (end_of place.entries).step
    → goes_on place found ≡ step_verdict found (outcome (here place)) (due place.entries place.step)
goes_before place None h = let before : nat_lt place.step (end_of place.entries).step ≡ true = lt-ltb _ _ h in rw before refl
goes_before place (Some found) h = refl

goes_late : (place : Place) (found : Option Departure) → (end_of place.entries).step ≤ place.step → goes_on place found ≡ Err (end_halt found)
goes_late place None h = let late : nat_lt place.step (end_of place.entries).step ≡ false = le-ltb _ _ h in rw late refl
goes_late place (Some found) h = refl

-- what the marks of a replay's step depart by
marks_here : (place : Place) (machine : Standing) (rest : List Entry) (end : RunEnd) (found : Option Departure) → IsPlaced place machine rest end
    → found ≡ departs_at_marks (marks_of rest place.step) place.step machine.state
    → departs_at_marks (marks_of place.entries place.step) place.step (here place) ≡ found
marks_here place machine rest end found placed is =
    ap (λ marks. departs_at_marks marks place.step (here place)) (marks_rest place machine rest end placed)
    ∙ ap (departs_at_marks (marks_of rest place.step) place.step) (sym placed.state)
    ∙ sym is

-- before the last step, where no mark departs
verdict_before : (place : Place) (machine : Standing) (rest : List Entry) (end : RunEnd) → IsPlaced place machine rest end → place.step < end.step
    → None ≡ departs_at_marks (marks_of rest place.step) place.step machine.state
    → verdict_at place ≡ step_verdict (departs_by end (outcome machine.state) (due rest place.step) place.step machine.state) (outcome machine.state) (due rest place.step)
unfolding verdict_at
verdict_before place machine rest end placed before unmarked =
    let h : place.step < (end_of place.entries).step = rw (← placed.ending) before in
    ap (goes_on place) (departs_before place.entries place.step (here place) h)
    ∙ ap (λ d. goes_on place (option_or d (departs_by (end_of place.entries) (outcome (here place)) (due place.entries place.step) place.step (here place)))) (marks_here place machine rest end None placed unmarked)
    ∙ goes_before place (departs_by (end_of place.entries) (outcome (here place)) (due place.entries place.step) place.step (here place)) h
    ∙ ap (λ (call : Option LoggedCall). step_verdict (departs_by (end_of place.entries) (outcome (here place)) call place.step (here place)) (outcome (here place)) call) (due_rest place machine rest end placed)
    ∙ ap (λ (e : RunEnd). step_verdict (departs_by e (outcome (here place)) (due rest place.step) place.step (here place)) (outcome (here place)) (due rest place.step)) (sym placed.ending)
    ∙ ap (λ (s : State). step_verdict (departs_by end (outcome s) (due rest place.step) place.step s) (outcome s) (due rest place.step)) (sym placed.state)

-- at the last step, where no mark departs
verdict_late : (place : Place) (machine : Standing) (rest : List Entry) (end : RunEnd) → IsPlaced place machine rest end → end.step ≤ place.step
    → None ≡ departs_at_marks (marks_of rest place.step) place.step machine.state
    → verdict_at place ≡ Err (end_halt (departs_at_end end (call_before place.entries end.step) (outcome machine.state) place.step))
unfolding verdict_at
verdict_late place machine rest end placed late unmarked =
    let h : (end_of place.entries).step ≤ place.step = rw (← placed.ending) late in
    ap (goes_on place) (departs_late place.entries place.step (here place) h)
    ∙ ap (λ d. goes_on place (option_or d (departs_at_end (end_of place.entries) (call_before place.entries (end_of place.entries).step) (outcome (here place)) place.step))) (marks_here place machine rest end None placed unmarked)
    ∙ goes_late place (departs_at_end (end_of place.entries) (call_before place.entries (end_of place.entries).step) (outcome (here place)) place.step) h
    ∙ ap (λ (e : RunEnd). err (end_halt (departs_at_end e (call_before place.entries e.step) (outcome (here place)) place.step))) (sym placed.ending)
    ∙ ap (λ (s : State). err (end_halt (departs_at_end end (call_before place.entries end.step) (outcome s) place.step))) (sym placed.state)

if_late : (before : Bool) (step last : ℕ) (halt found : Halt) → nat_lt step last ≡ before → (if before then None else Some found) ≡ Some halt → (last ≤ step) × (found ≡ halt)
if_late true step last halt found e is = cc
if_late false step last halt found e is = (ltb-false step last e, cc)

if_before : (before : Bool) (step last : ℕ) (found : Halt) → nat_lt step last ≡ before → (if before then None else Some found) ≡ None → step < last
if_before true step last found e is = ltb-true step last e
if_before false step last found e is = cc

-- where its marks or its end tell it to go no further
halted_by : (place : Place) (machine : Standing) (rest : List Entry) (end : RunEnd) (marks : Option Departure) (halt : Halt) → IsPlaced place machine rest end
    → marks ≡ departs_at_marks (marks_of rest place.step) place.step machine.state
    → marks_or_end marks (departs_at_end end (call_before place.entries end.step) (outcome machine.state) place.step) end.step place.step ≡ Some halt
    → verdict_at place ≡ Err halt
unfolding verdict_at
halted_by place machine rest end (Some found) halt placed same is =
    let told : Departs found ≡ halt = cc in
    ap (λ d. goes_on place (option_or d (departs_unmarked place.entries place.step (here place)))) (marks_here place machine rest end (Some found) placed same)
    ∙ ap err told
halted_by place machine rest end None halt placed same is =
    let late = if_late (nat_lt place.step end.step) place.step end.step halt (end_halt (departs_at_end end (call_before place.entries end.step) (outcome machine.state) place.step)) refl is in
    verdict_late place machine rest end placed late.0 same ∙ ap err late.1

pub verdict_halted : (place : Place) (machine : Standing) (rest : List Entry) (end : RunEnd) (halt : Halt) → IsPlaced place machine rest end
    → Some halt ≡ marks_or_end (departs_at_marks (marks_of rest place.step) place.step machine.state) (departs_at_end end (call_before place.entries end.step) (outcome machine.state) place.step) end.step place.step
    → verdict_at place ≡ Err halt
verdict_halted place machine rest end halt placed is =
    halted_by place machine rest end (departs_at_marks (marks_of rest place.step) place.step machine.state) halt placed refl (sym is)

-- where they don't, no mark departs, and the step isn't the last one
pub goes_unhalted : (marks at_end : Option Departure) (last step : ℕ) → None ≡ marks_or_end marks at_end last step → (None ≡ marks) × (step < last)
goes_unhalted (Some found) at_end last step is = cc
goes_unhalted None at_end last step is = (refl, if_before (nat_lt step last) step last (end_halt at_end) refl (sym is))

-- ---- what the code's steps are

pub told_verdict : (place : Place) (machine : Standing) (rest : List Entry) (end : RunEnd) (call : Option LoggedCall) (result : Result Touched Halt)
    → IsPlaced place machine rest end → place.step < end.step → None ≡ departs_at_marks (marks_of rest place.step) place.step machine.state → call ≡ due rest place.step
    → result ≡ step_verdict (departs_by end (outcome machine.state) call place.step machine.state) (outcome machine.state) call → result ≡ verdict_at place
told_verdict place machine rest end call result placed before unmarked same is =
    is ∙ ap (λ (c : Option LoggedCall). step_verdict (departs_by end (outcome machine.state) c place.step machine.state) (outcome machine.state) c) same ∙ sym (verdict_before place machine rest end placed before unmarked)

pub made_next : (machine after : State) (call : Option LoggedCall) (rest : List Entry) (i : ℕ) (result : Result Touched Halt) (touched : Touched)
    → after ≡ step_leaves result (outcome machine) call machine → result ≡ Ok touched → call ≡ due rest i
    → after ≡ after_by (outcome machine) (due rest i) machine
made_next machine after call rest i result touched leaves is same =
    leaves ∙ ap (λ (r : Result Touched Halt). step_leaves r (outcome machine) call machine) is ∙ ap (λ (c : Option LoggedCall). after_by (outcome machine) c machine) same

-- in the quiet no mark departs
pub quiet_marks : (place : Place) (machine : Standing) (rest : List Entry) (end : RunEnd) → IsPlaced place machine rest end → place.step < end_of_quiet rest end.step
    → None ≡ departs_at_marks (marks_of rest place.step) place.step machine.state
quiet_marks place machine rest end placed quiet =
    ap (λ marks. departs_at_marks marks place.step machine.state) (sym (quiet_unmarked rest end.step place.step (lawful_rest place machine rest end placed) quiet))

-- an instruction that is executed touches something
pub touching : (happens : Outcome) → true ≡ is_next happens → (touched : Touched) × (happens ≡ Next touched)
touching (Next touched) e = (touched, refl)
touching StandsAtCall e = cc
touching (Stop cause) e = cc

-- in the quiet an instruction is executed without being judged
pub told_next : (place : Place) (machine : Standing) (rest : List Entry) (end : RunEnd) (touched : Touched)
    → IsPlaced place machine rest end → place.step < end.step → None ≡ departs_at_marks (marks_of rest place.step) place.step machine.state → None ≡ due rest place.step
    → outcome machine.state ≡ Next touched → verdict_at place ≡ Ok touched
told_next place machine rest end touched placed before unmarked none is =
    sym (told_verdict place machine rest end None (Ok touched) placed before unmarked none
    (sym (ap (λ (happens : Outcome). step_verdict (departs_by end happens None place.step machine.state) happens None) is)))
