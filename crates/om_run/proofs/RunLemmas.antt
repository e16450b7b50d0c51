-- The first departure of a run, step by step, and what it depends on.
use Rattle.std.proofs.Common.{◌≡◌, ℕ, zero, suc, ◌+◌, ◌<◌, ◌≤◌, Bool, true, false, nat_eq, nat_lt, if◌then◌else◌, List, [], ◌∷◌, ◌++◌, map, Option, Some, None, Result, Ok, Err, refl, sym, ap, ◌∙◌, arith}
use Rattle.std.proofs.lemmas.Bool.{ltb-true, ne_eqb}
use Rattle.std.specs.Option.{option_map, option_or}
use Rattle.std.proofs.lemmas.List.{map-append}
use Rattle.om_base.specs.Firsts.{first_of}
use Rattle.om_log.specs.Grammar.{step_of}
use Rattle.om_log.specs.declared.entry.Entry.{Entry}
use Rattle.om_log.specs.declared.entry.Entry.TheVariants.{Call, Mark, End}
use Rattle.om_step.specs.State.{State}
use Rattle.om_step.specs.Step.{outcome}
use Rattle.om_run.specs.Departure.{departs_at, departs_at_marks, departs_by, first_departure, without_last}
use Rattle.om_run.specs.Run.{AreAfter, Marked, after_by, after_step, below, due, end_of, marks_of, state_at}
use Rattle.om_run.specs.Replay.{Place, beginning, goes_on, here, moved, place_after, touched_by_step, verdict_at}
use Rattle.om_run.specs.declared.departure.Departure.{Departure}
use Rattle.om_run.specs.declared.departure.Halt.{Halt}
use Rattle.om_run.specs.declared.departure.Halt.TheVariants.{Ended}
use Rattle.om_step.specs.declared.outcome.Touched.{Touched}
use Rattle.om_run.specs.declared.logged.LoggedCall.{LoggedCall}
use Rattle.om_run.specs.declared.logged.RunEnd.{RunEnd}
use Rattle.om_step.specs.declared.outcome.Outcome.{Outcome}
use Rattle.om_step.specs.declared.outcome.Outcome.TheVariants.{Next, Call as StandsAtCall, Stop}
use Rattle.om_run.proofs.PositionLemmas.{err, goes_before, departs_before}

-- ---- the first departure of one step more

or_assoc : {T : Type 0} (a b c : Option T) → option_or a (option_or b c) ≡ option_or (option_or a b) c
or_assoc None b c = refl
or_assoc (Some a) b c = refl

or_none : {T : Type 0} (a : Option T) → option_or a None ≡ a
or_none None = refl
or_none (Some a) = refl

-- the first of some things that may not be there and of some after them
pub first_of_append : {A : Type 0} (xs ys : List (Option A)) → first_of (xs ++ ys) ≡ option_or (first_of xs) (first_of ys)
first_of_append [] ys = refl
first_of_append (x ∷ xs) ys = ap (option_or x) (first_of_append xs ys) ∙ or_assoc x (first_of xs) (first_of ys)

-- the first departure of some steps and of some after them
pub first_departure_append : (entries : List Entry) (first : State) (xs ys : List ℕ)
    → first_departure entries first (xs ++ ys) ≡ option_or (first_departure entries first xs) (first_departure entries first ys)
first_departure_append entries first xs ys =
    let departs : ℕ → Option Departure = λ i. departs_at entries i (state_at entries first i) in
    rw (map-append departs xs ys) (first_of_append (map departs xs) (map departs ys))

-- the first departure up to a step
pub first_departure_next : (entries : List Entry) (first : State) (i : ℕ)
    → first_departure entries first (below (i + 1)) ≡ option_or (first_departure entries first (below i)) (departs_at entries i (state_at entries first i))
first_departure_next entries first i =
    let one : i + 1 ≡ suc i = omega arith in
    ap (λ n. first_departure entries first (below n)) one
    ∙ first_departure_append entries first (below i) (i ∷ [])
    ∙ ap (option_or (first_departure entries first (below i))) (or_none (departs_at entries i (state_at entries first i)))

-- ---- what later entries change

none_after : (i : ℕ) (entries : List Entry) → AreAfter i entries → (j : ℕ) → j ≤ i → due entries j ≡ None
unfolding step_of
none_after i [] later j h = refl
none_after i (Call step number args result writes ∷ entries) later j h =
    let other : nat_eq step j ≡ false = ne_eqb step j (λ same. omega (arith, later.0)) in
    rw other (none_after i entries later.1 j h)
none_after i (Mark step pc sum ∷ entries) later j h = none_after i entries later.1 j h
none_after i (End step cause value ∷ entries) later j h = none_after i entries later.1 j h

-- the call of a step doesn't depend on entries of later steps
pub due_kept : (i : ℕ) (kept later : List Entry) → AreAfter i later → (j : ℕ) → j ≤ i → due (kept ++ later) j ≡ due kept j
due_kept i [] later after j h = none_after i later after j h
due_kept i (Call step number args result writes ∷ kept) later after j h =
    ap (λ (rest : Option LoggedCall). if nat_eq step j then Some (record { number = number; arguments = args; result = result; writes = writes }) else rest) (due_kept i kept later after j h)
due_kept i (Mark step pc sum ∷ kept) later after j h = due_kept i kept later after j h
due_kept i (End step cause value ∷ kept) later after j h = due_kept i kept later after j h

-- neither do its marks
no_marks_after : (i : ℕ) (entries : List Entry) → AreAfter i entries → (j : ℕ) → j ≤ i → marks_of entries j ≡ []
unfolding step_of
no_marks_after i [] later j h = refl
no_marks_after i (Call step number args result writes ∷ entries) later j h = no_marks_after i entries later.1 j h
no_marks_after i (Mark step pc sum ∷ entries) later j h =
    let other : nat_eq step j ≡ false = ne_eqb step j (λ same. omega (arith, later.0)) in
    rw other (no_marks_after i entries later.1 j h)
no_marks_after i (End step cause value ∷ entries) later j h = no_marks_after i entries later.1 j h

marks_kept : (i : ℕ) (kept later : List Entry) → AreAfter i later → (j : ℕ) → j ≤ i → marks_of (kept ++ later) j ≡ marks_of kept j
marks_kept i [] later after j h = no_marks_after i later after j h
marks_kept i (Call step number args result writes ∷ kept) later after j h = marks_kept i kept later after j h
marks_kept i (Mark step pc sum ∷ kept) later after j h =
    ap (λ (rest : List Marked). if nat_eq step j then record { pc = pc; sum = sum } ∷ rest else rest) (marks_kept i kept later after j h)
marks_kept i (End step cause value ∷ kept) later after j h = marks_kept i kept later after j h

marks_same : (i : ℕ) (kept a b : List Entry) → AreAfter i a → AreAfter i b → (j : ℕ) → j ≤ i → marks_of (kept ++ a) j ≡ marks_of (kept ++ b) j
marks_same i kept a b later_a later_b j h = marks_kept i kept a later_a j h ∙ sym (marks_kept i kept b later_b j h)

due_same : (i : ℕ) (kept a b : List Entry) → AreAfter i a → AreAfter i b → (j : ℕ) → j ≤ i → due (kept ++ a) j ≡ due (kept ++ b) j
due_same i kept a b later_a later_b j h = due_kept i kept a later_a j h ∙ sym (due_kept i kept b later_b j h)

-- neither does a state up to the one behind it
pub states_same : (i : ℕ) (kept a b : List Entry) (first : State) → AreAfter i a → AreAfter i b → (j : ℕ) → j ≤ i + 1 → state_at (kept ++ a) first j ≡ state_at (kept ++ b) first j
unfolding state_at
states_same i kept a b first later_a later_b zero h = refl
states_same i kept a b first later_a later_b (suc j) h =
    ap (after_step (kept ++ a) j) (states_same i kept a b first later_a later_b j (omega arith))
    ∙ ap (λ (call : Option LoggedCall). after_by (outcome (state_at (kept ++ b) first j)) call (state_at (kept ++ b) first j)) (due_same i kept a b later_a later_b j (omega arith))

map_or : {A B : Type 0} (f : A → B) (a b : Option A) → option_map f (option_or a b) ≡ option_or (option_map f a) (option_map f b)
map_or f None b = refl
map_or f (Some a) b = refl

-- two ends differ in nothing but the last step that an early stop tells
same_by : (e f : RunEnd) (happens : Outcome) (call : Option LoggedCall) (i : ℕ) (s : State)
    → option_map without_last (departs_by e happens call i s) ≡ option_map without_last (departs_by f happens call i s)
same_by e f (Next touched) call i s = refl
same_by e f StandsAtCall call i s = refl
same_by e f (Stop cause) None i s = refl
same_by e f (Stop cause) (Some call) i s = refl

-- a departure before the last step, without the log's last step
unended : (entries : List Entry) (i : ℕ) (s : State) → i < (end_of entries).step
    → option_map without_last (departs_at entries i s)
    ≡ option_or (option_map without_last (departs_at_marks (marks_of entries i) i s)) (option_map without_last (departs_by (end_of entries) (outcome s) (due entries i) i s))
unended entries i s h =
    ap (option_map without_last) (departs_before entries i s h)
    ∙ map_or without_last (departs_at_marks (marks_of entries i) i s) (departs_by (end_of entries) (outcome s) (due entries i) i s)

-- nor a departure before both ends
departs_same : (i : ℕ) (kept a b : List Entry) (first : State) → AreAfter i a → AreAfter i b → i < (end_of (kept ++ a)).step → i < (end_of (kept ++ b)).step → (j : ℕ) → j ≤ i
    → option_map without_last (departs_at (kept ++ a) j (state_at (kept ++ a) first j)) ≡ option_map without_last (departs_at (kept ++ b) j (state_at (kept ++ b) first j))
departs_same i kept a b first later_a later_b end_a end_b j h =
    let s : State = state_at (kept ++ b) first j in
    ap (λ (x : State). option_map without_last (departs_at (kept ++ a) j x)) (states_same i kept a b first later_a later_b j (omega arith))
    ∙ unended (kept ++ a) j s (omega arith)
    ∙ ap (λ (marks : List Marked). option_or (option_map without_last (departs_at_marks marks j s)) (option_map without_last (departs_by (end_of (kept ++ a)) (outcome s) (due (kept ++ a) j) j s))) (marks_same i kept a b later_a later_b j h)
    ∙ ap (λ (call : Option LoggedCall). option_or (option_map without_last (departs_at_marks (marks_of (kept ++ b) j) j s)) (option_map without_last (departs_by (end_of (kept ++ a)) (outcome s) call j s))) (due_same i kept a b later_a later_b j h)
    ∙ ap (option_or (option_map without_last (departs_at_marks (marks_of (kept ++ b) j) j s))) (same_by (end_of (kept ++ a)) (end_of (kept ++ b)) (outcome s) (due (kept ++ b) j) j s)
    ∙ sym (unended (kept ++ b) j s (omega arith))

-- the first departure up to a step more, without the log's last step
first_more : (entries : List Entry) (first : State) (n : ℕ) → option_map without_last (first_departure entries first (below (suc n)))
    ≡ option_or (option_map without_last (first_departure entries first (below n))) (option_map without_last (departs_at entries n (state_at entries first n)))
first_more entries first n =
    ap (option_map without_last) (first_departure_append entries first (below n) (n ∷ []))
    ∙ map_or without_last (first_departure entries first (below n)) (first_departure entries first (n ∷ []))
    ∙ ap (λ d. option_or (option_map without_last (first_departure entries first (below n))) (option_map without_last d)) (or_none (departs_at entries n (state_at entries first n)))

pub first_departures_same : (i : ℕ) (kept a b : List Entry) (first : State) → AreAfter i a → AreAfter i b → i < (end_of (kept ++ a)).step → i < (end_of (kept ++ b)).step → (n : ℕ) → n ≤ i + 1
    → option_map without_last (first_departure (kept ++ a) first (below n)) ≡ option_map without_last (first_departure (kept ++ b) first (below n))
first_departures_same i kept a b first later_a later_b end_a end_b zero h = refl
first_departures_same i kept a b first later_a later_b end_a end_b (suc n) h =
    first_more (kept ++ a) first n
    ∙ ap (λ d. option_or d (option_map without_last (departs_at (kept ++ a) n (state_at (kept ++ a) first n)))) (first_departures_same i kept a b first later_a later_b end_a end_b n (omega arith))
    ∙ ap (λ d. option_or (option_map without_last (first_departure (kept ++ b) first (below n))) d) (departs_same i kept a b first later_a later_b end_a end_b n (omega arith))
    ∙ sym (first_more (kept ++ b) first n)

-- ---- what a replay reaches

-- the place of a step
abbrev pub at : List Entry → State → ℕ → Place
at entries first n = record (beginning entries first) { step = n }

or_both : {T : Type 0} (a b : Option T) → option_or a b ≡ None → (a ≡ None) × (b ≡ None)
or_both None b e = (refl, e)
or_both (Some a) b e = absurd cc

is_before : (before : Bool) (i end : ℕ) (made touched : Touched) → nat_lt i end ≡ before → (if before then Ok made else err Ended) ≡ Ok touched → i < end
is_before true i end made touched e is = ltb-true i end e
is_before false i end made touched e is = absurd cc

-- a move that was made: the run doesn't depart there, before the end
goes_made : (place : Place) (found : Option Departure) (touched : Touched) → goes_on place found ≡ Ok touched → (found ≡ None) × (place.step < (end_of place.entries).step)
goes_made place None touched e =
    (refl, is_before (nat_lt place.step (end_of place.entries).step) place.step (end_of place.entries).step (touched_by_step (outcome (here place)) (due place.entries place.step)) touched refl e)
goes_made place (Some departure) touched e = absurd cc

verdict_made : (place : Place) (touched : Touched) → verdict_at place ≡ Ok touched → (departs_at place.entries place.step (here place) ≡ None) × (place.step < (end_of place.entries).step)
unfolding verdict_at
verdict_made place touched e = goes_made place (departs_at place.entries place.step (here place)) touched e

verdict_goes : (entries : List Entry) (first : State) (n : ℕ) → departs_at entries n (state_at entries first n) ≡ None → n < (end_of entries).step
    → verdict_at (at entries first n) ≡ Ok (touched_by_step (outcome (state_at entries first n)) (due entries n))
unfolding verdict_at
verdict_goes entries first n none before = ap (goes_on (at entries first n)) none ∙ goes_before (at entries first n) None before

moved_on : (entries : List Entry) (first : State) (n : ℕ) (verdict : Result Touched Halt) (touched : Touched) → verdict ≡ Ok touched → moved (at entries first n) verdict ≡ at entries first (suc n)
moved_on entries first n verdict touched e = let one : n + 1 ≡ suc n = omega arith in ap (moved (at entries first n)) e ∙ ap (at entries first) one

-- so many moves from the first step on reach the step of that number, where the run departs at no step before it and it is in the run
pub reaches : (entries : List Entry) (first : State) (n : ℕ) → first_departure entries first (below n) ≡ None → n ≤ (end_of entries).step → place_after (at entries first 0) n ≡ at entries first n
unfolding place_after
reaches entries first zero none within = refl
reaches entries first (suc n) none within =
    let parts : (first_departure entries first (below n) ≡ None) × (option_or (departs_at entries n (state_at entries first n)) None ≡ None) =
    or_both (first_departure entries first (below n)) (first_departure entries first (n ∷ [])) (sym (first_departure_append entries first (below n) (n ∷ [])) ∙ none) in
    let here_none : departs_at entries n (state_at entries first n) ≡ None = sym (or_none (departs_at entries n (state_at entries first n))) ∙ parts.1 in
    ap (λ (p : Place). moved p (verdict_at p)) (reaches entries first n parts.0 (omega arith))
    ∙ moved_on entries first n (verdict_at (at entries first n)) (touched_by_step (outcome (state_at entries first n)) (due entries n)) (verdict_goes entries first n here_none (omega arith))

moved_at_most : (place : Place) (verdict : Result Touched Halt) (n : ℕ) → place.step ≤ n → (moved place verdict).step ≤ suc n
moved_at_most place (Ok touched) n h = omega arith
moved_at_most place (Err halt) n h = omega arith

after_at_most : (entries : List Entry) (first : State) (n : ℕ) → (place_after (at entries first 0) n).step ≤ n
unfolding place_after
after_at_most entries first zero = omega arith
after_at_most entries first (suc n) = moved_at_most (place_after (at entries first 0) n) (verdict_at (place_after (at entries first 0) n)) n (after_at_most entries first n)

made_move : (place : Place) (verdict : Result Touched Halt) (n : ℕ) → place.step ≤ n → (moved place verdict).step ≡ suc n → (touched : Touched) × (verdict ≡ Ok touched) × (place.step ≡ n)
made_move place (Ok touched) n h e = (touched, refl, omega (arith, e))
made_move place (Err halt) n h e = absurd (omega (arith, e))

pub reached : (entries : List Entry) (first : State) (n : ℕ) → (place_after (at entries first 0) n).step ≡ n → (first_departure entries first (below n) ≡ None) × (n ≤ (end_of entries).step)
unfolding place_after
reached entries first zero e = (refl, omega arith)
reached entries first (suc n) e =
    let made = made_move (place_after (at entries first 0) n) (verdict_at (place_after (at entries first 0) n)) n (after_at_most entries first n) e in
    let before : (first_departure entries first (below n) ≡ None) × (n ≤ (end_of entries).step) = reached entries first n made.2 in
    let place : place_after (at entries first 0) n ≡ at entries first n = reaches entries first n before.0 before.1 in
    let goes : (departs_at entries n (state_at entries first n) ≡ None) × (n < (end_of entries).step) = verdict_made (at entries first n) made.0 (sym (ap verdict_at place) ∙ made.1) in
    (first_departure_append entries first (below n) (n ∷ []) ∙ ap (λ d. option_or d (option_or (departs_at entries n (state_at entries first n)) None)) before.0 ∙ ap (λ d. option_or d None) goes.0, omega (arith, goes.1))
