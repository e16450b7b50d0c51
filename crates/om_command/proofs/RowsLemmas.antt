-- A replay that looks at each state, step by step.
use Rattle.std.proofs.Common.{◌≡◌, ℕ, zero, suc, ◌+◌, ◌<◌, ◌≤◌, List, [], ◌∷◌, ◌++◌, length, map, filter, get_or, take, Bool, true, false, nat_lt, nat_eq, refl, sym, ap, subst, ◌∙◌, arith, add-one, if◌then◌else◌, Ok, Err, Some, None}
use Rattle.std.specs.Prelude.{Option, Result}
use Rattle.std.specs.Option.{option_or}
use Rattle.std.proofs.lemmas.List.{length-append, length-map, map-append, map_more}
use Rattle.std.proofs.lemmas.List.Elements.{filter-append}
use Rattle.std.proofs.lemmas.Bool.Decides.{nat_tests}
use Rattle.om_eval.specs.Row.{Row}
use Rattle.om_eval.specs.declared.value.Owned.{Owned}
use Rattle.om_log.specs.declared.entry.Entry.{Entry}
use Rattle.om_run.specs.Departure.{departs_at, departure_of, first_departure}
use Rattle.om_run.specs.Run.{due, below, end_of, state_at, states}
use Rattle.om_run.specs.Replay.{Place, goes_on, here, touched_by_step, verdict_at}
use Rattle.om_run.proofs.RunLemmas.{first_departure_append, first_departure_next}
use Rattle.om_run.specs.declared.departure.Departure.{Departure}
use Rattle.om_run.specs.declared.departure.Halt.TheVariants.{Departs, Ended}
use Rattle.om_command.specs.Rows.{GivesRows, end_by_halt, noted, row_at, rows_before}
use Rattle.om_command.specs.declared.ending.Ending.{Ending}
use Rattle.om_command.specs.declared.ending.Ending.TheVariants.{Refused}
use Rattle.om_command.specs.declared.refusal.Refusal.TheVariants as refusal
use Rattle.om_step.specs.Step.{outcome}
use Rattle.om_step.specs.declared.outcome.Touched.{Touched}
use Rattle.om_run.specs.declared.departure.Halt.{Halt}
use Rattle.om_step.specs.State.{State}
use Rattle.om_command.specs.Answer.{answer_rows, cell_of, cells_of, is_kept, kept_of, rows_from}
use Rattle.om_names.specs.Facts.{Facts}
use Rattle.om_view.specs.Row.{row_of}
use Rattle.om_eval.specs.declared.cond.Cond.{Cond}
use Rattle.om_type.specs.declared.typed.Output.{Output}

-- ---- the rows

-- the rows of some states and of those after them
rows_from-append : (facts : Facts) (step : ℕ) (states later : List State) → rows_from facts step (states ++ later) ≡ rows_from facts step states ++ rows_from facts (step + length states) later
rows_from-append facts step [] later = ap (λ (n : ℕ). rows_from facts n later) (let none : step ≡ step + 0 = omega arith in none)
rows_from-append facts step (state ∷ states) later =
    let more : step + 1 + length states ≡ step + suc (length states) = omega arith in
    ap (λ (rows : List Row). row_of facts state step ∷ rows) (rows_from-append facts (step + 1) states later)
    ∙ ap (λ (n : ℕ). row_of facts state step ∷ (rows_from facts (step + 1) states ++ rows_from facts n later)) more

-- there are n numbers below n
length-below : (n : ℕ) → length (below n) ≡ n
length-below zero = refl
length-below (suc n) = let less = length-below n in omega (arith, length-append (below n) (n ∷ []))

-- the rows before one step more
rows_before-next : (facts : Facts) (entries : List Entry) (first : State) (i : ℕ)
    → rows_before facts entries first (i + 1) ≡ rows_before facts entries first i ++ row_at facts entries first i ∷ []
rows_before-next facts entries first i =
    let count : 0 + length (map (state_at entries first) (below i)) ≡ i = omega (arith, length-map (below i) (state_at entries first), length-below i) in
    rw (add-one, map-append (state_at entries first) (below i) (i ∷ []))
    (rows_from-append facts 0 (map (state_at entries first) (below i)) (state_at entries first i ∷ [])
    ∙ ap (λ (n : ℕ). rows_before facts entries first i ++ row_of facts (state_at entries first i) n ∷ []) count)

-- the cells of the one row, if a test holds
cells_if : (b : Bool) (outputs : List Output) (row : Row)
    → map (cells_of outputs) (if b then row ∷ [] else []) ≡ (if b then cells_of outputs row ∷ [] else [])
cells_if true outputs row = refl
cells_if false outputs row = refl

-- what is kept of the rows before one step more: what is kept so far, and that row where the condition is true
pub kept_of-next : (facts : Facts) (entries : List Entry) (first : State) (condition : Cond) (outputs : List Output) (i : ℕ)
    → kept_of condition outputs (rows_before facts entries first (i + 1))
    ≡ kept_of condition outputs (rows_before facts entries first i) ++ noted condition outputs (row_at facts entries first i)
kept_of-next facts entries first condition outputs i =
    let rows = rows_before facts entries first i in
    let row = row_at facts entries first i in
    rw (rows_before-next facts entries first i, filter-append (is_kept condition) rows (row ∷ []), map-append (cells_of outputs) (filter (is_kept condition) rows) (filter (is_kept condition) (row ∷ [])))
    (ap (λ (cells : List (List Owned)). kept_of condition outputs rows ++ cells) (cells_if (is_kept condition row) outputs row))

-- the cells of one output more
pub more_cells : (row : Row) (outputs : List Output) (i : ℕ) (output : Output) (cells new : List Owned) (cell : Owned) → i < length outputs → output ≡ get_or outputs i output
    → cells ≡ cells_of (take i outputs) row → cell ≡ cell_of row output → new ≡ cells ++ cell ∷ [] → new ≡ cells_of (take (i + 1) outputs) row
more_cells row outputs i output cells new cell less is kept here grown =
    grown ∙ ap (λ (c : List Owned). c ++ cell ∷ []) kept
    ∙ ap (λ (c : Owned). cells_of (take i outputs) row ++ c ∷ []) (here ∙ ap (cell_of row) is)
    ∙ sym (map_more (cell_of row) outputs i output less)

-- ---- the departures

-- where there is no departure before a step nor at it, there is none up to it
pub first_departure-next : (entries : List Entry) (first : State) (i : ℕ) → first_departure entries first (below i) ≡ None → departs_at entries i (state_at entries first i) ≡ None → first_departure entries first (below (i + 1)) ≡ None
first_departure-next entries first i before here = first_departure_next entries first i ∙ rw (before, here) refl

-- a departure at a step, and none before it, is the first of all steps below a greater one
pub first_departure-found : (entries : List Entry) (first : State) (i n : ℕ) (told : Departure) → i < n → first_departure entries first (below i) ≡ None → departs_at entries i (state_at entries first i) ≡ Some told → first_departure entries first (below n) ≡ Some told
first_departure-found entries first i zero told h before here = absurd (omega arith)
first_departure-found entries first i (suc n) told h before here =
    first_departure_append entries first (below n) (n ∷ [])
    ∙ elim (nat_eq i n) as (λ b. nat_eq i n ≡ b → option_or (first_departure entries first (below n)) (first_departure entries first (n ∷ [])) ≡ Some told) [
      | true ↦ λ is.
          let same : i ≡ n = grind (arith, nat_tests) in
          let none : first_departure entries first (below n) ≡ None = subst (λ (k : ℕ). first_departure entries first (below k) ≡ None) same before in
          let there : departs_at entries n (state_at entries first n) ≡ Some told = subst (λ (k : ℕ). departs_at entries k (state_at entries first k) ≡ Some told) same here in
          rw (none, there) refl
      | false ↦ λ is.
          let less : i < n = grind (arith, nat_tests) in rw (first_departure-found entries first i n told less before here) refl
    ] refl

-- ---- a move

-- a move that was made: the run doesn't depart there, before its end
moves_on : (place : Place) (found : Option Departure) (touched : Touched) → goes_on place found ≡ Ok touched → (found ≡ None) × (place.step < (end_of place.entries).step)
moves_on place (Some departure) touched e = cc
moves_on place None touched e =
    elim (nat_lt place.step (end_of place.entries).step) as (λ b. nat_lt place.step (end_of place.entries).step ≡ b → ◌≡◌ {A = Result Touched Halt} (if b then Ok (touched_by_step (outcome (here place)) (due place.entries place.step)) else Err Ended) (Ok touched) → ◌≡◌ {A = Option Departure} None None × (place.step < (end_of place.entries).step)) [
      | true ↦ λ less e. (refl, grind (arith, nat_tests))
      | false ↦ λ less e. cc
    ] refl e

pub moves : (place : Place) (touched : Touched) → verdict_at place ≡ Ok touched → (departs_at place.entries place.step (here place) ≡ None) × (place.step < (end_of place.entries).step)
unfolding verdict_at
moves place touched e = moves_on place (departs_at place.entries place.step (here place)) touched e

-- the end of a run: it doesn't depart there, at its last step
ends_on : (place : Place) (found : Option Departure) → goes_on place found ≡ Err Ended → (found ≡ None) × ((end_of place.entries).step ≤ place.step)
ends_on place (Some departure) e = cc
ends_on place None e =
    elim (nat_lt place.step (end_of place.entries).step) as (λ b. nat_lt place.step (end_of place.entries).step ≡ b → ◌≡◌ {A = Result Touched Halt} (if b then Ok (touched_by_step (outcome (here place)) (due place.entries place.step)) else Err Ended) (Err Ended) → ◌≡◌ {A = Option Departure} None None × ((end_of place.entries).step ≤ place.step)) [
      | true ↦ λ less e. cc
      | false ↦ λ less e. (refl, grind (arith, nat_tests))
    ] refl e

pub ends : (place : Place) → verdict_at place ≡ Err Ended → (departs_at place.entries place.step (here place) ≡ None) × ((end_of place.entries).step ≤ place.step)
unfolding verdict_at
ends place e = ends_on place (departs_at place.entries place.step (here place)) e

-- a departure that is told is the one there
departs_on : (place : Place) (found : Option Departure) (told : Departure) → goes_on place found ≡ Err (Departs told) → found ≡ Some told
departs_on place (Some departure) told e = cc
departs_on place None told e =
    elim (nat_lt place.step (end_of place.entries).step) as (λ b. ◌≡◌ {A = Result Touched Halt} (if b then Ok (touched_by_step (outcome (here place)) (due place.entries place.step)) else Err Ended) (Err (Departs told)) → ◌≡◌ {A = Option Departure} None (Some told)) [
      | true ↦ λ e. cc
      | false ↦ λ e. cc
    ] e

pub departs : (place : Place) (told : Departure) → verdict_at place ≡ Err (Departs told) → departs_at place.entries place.step (here place) ≡ Some told
unfolding verdict_at
departs place told e = departs_on place (departs_at place.entries place.step (here place)) told e

-- ---- the loop

-- what happens at a place, where its run is this one
pub at_place : (place : Place) (entries : List Entry) (first : State) (found : Option Departure) → place.entries ≡ entries → place.first ≡ first → departs_at place.entries place.step (here place) ≡ found → departs_at entries place.step (state_at entries first place.step) ≡ found
at_place place entries first found same begins e =
    subst (λ (es : List Entry). departs_at es place.step (state_at es first place.step) ≡ found) same
    (subst (λ (f : State). departs_at place.entries place.step (state_at place.entries f place.step) ≡ found) begins e)

-- the last step of a place's run
pub last_of : (place : Place) (entries : List Entry) → place.entries ≡ entries → (end_of place.entries).step ≡ (end_of entries).step
last_of place entries same = ap (λ (es : List Entry). (end_of es).step) same

-- the row of a place
pub row_here : (facts : Facts) (place : Place) (entries : List Entry) (first : State) → place.entries ≡ entries → place.first ≡ first → row_at facts place.entries place.first place.step ≡ row_at facts entries first place.step
row_here facts place entries first same begins =
    ap (λ (es : List Entry). row_of facts (state_at es place.first place.step) place.step) same
    ∙ ap (λ (f : State). row_of facts (state_at entries f place.step) place.step) begins

-- the rows after a place was looked at
pub kept-next : (facts : Facts) (place : Place) (entries : List Entry) (first : State) (condition : Cond) (outputs : List Output) (rows new : List (List Owned)) → place.entries ≡ entries → place.first ≡ first
    → rows ≡ kept_of condition outputs (rows_before facts entries first place.step)
    → new ≡ rows ++ noted condition outputs (row_at facts place.entries place.first place.step)
    → new ≡ kept_of condition outputs (rows_before facts entries first (place.step + 1))
kept-next facts place entries first condition outputs rows new same begins kept looked =
    rw (kept_of-next facts entries first condition outputs place.step, ← kept, ← row_here facts place entries first same begins) looked

-- a replay that came to its end
pub finished : (facts : Facts) (place : Place) (entries : List Entry) (first : State) (condition : Cond) (outputs : List Output) (new : List (List Owned)) → place.entries ≡ entries → place.first ≡ first
    → place.step ≤ (end_of entries).step
    → first_departure entries first (below place.step) ≡ None
    → new ≡ kept_of condition outputs (rows_before facts entries first (place.step + 1))
    → verdict_at place ≡ Err Ended
    → (departure_of entries first ≡ None) × (new ≡ answer_rows facts entries first condition outputs)
unfolding departure_of answer_rows states
finished facts place entries first condition outputs new same begins within going kept e =
    let over = ends place e in
    let least = over.1 in
    let last = last_of place entries same in
    let end : place.step ≡ (end_of entries).step = omega arith in
    let none = first_departure-next entries first place.step going (at_place place entries first None same begins over.0) in
    (ap (λ (n : ℕ). first_departure entries first (below (n + 1))) (sym end) ∙ none, kept ∙ ap (λ (n : ℕ). kept_of condition outputs (rows_before facts entries first (n + 1))) end)

-- a replay that departed
pub departed : (place : Place) (entries : List Entry) (first : State) (told : Departure) → place.entries ≡ entries → place.first ≡ first
    → place.step ≤ (end_of entries).step
    → first_departure entries first (below place.step) ≡ None
    → verdict_at place ≡ Err (Departs told)
    → departure_of entries first ≡ Some told
unfolding departure_of
departed place entries first told same begins within going e =
    let less : place.step < (end_of entries).step + 1 = omega arith in
    first_departure-found entries first place.step ((end_of entries).step + 1) told less going (at_place place entries first (Some told) same begins (departs place told e))

-- what leaves a run its rows is its end
pub is_end : (halt : Halt) → end_by_halt halt ≡ None → halt ≡ Ended
is_end Ended e = refl
is_end (Departs departure) e = cc

-- the answer where a run departs
pub gives_stop : (facts : Facts) (place : Place) (entries : List Entry) (first : State) (condition : Cond) (outputs : List Output) (halt : Halt) (why : Ending) → end_by_halt halt ≡ Some why
    → place.entries ≡ entries → place.first ≡ first → place.step ≤ (end_of entries).step
    → first_departure entries first (below place.step) ≡ None
    → verdict_at place ≡ Err halt → GivesRows facts entries first condition outputs (Err why)
gives_stop facts place entries first condition outputs Ended why e same begins within going verdict = cc
gives_stop facts place entries first condition outputs (Departs told) why e same begins within going verdict =
    let is : Refused (refusal.Departs told) ≡ why = cc in
    subst (λ (w : Ending). GivesRows facts entries first condition outputs (Err w)) is (rw (departed place entries first told same begins within going verdict) refl)
