-- That replaying a recorded log makes the run that was recorded.
use Rattle.std.proofs.Common.{◌≡◌, ℕ, zero, suc, ◌+◌, ◌<◌, ◌≤◌, ◌%◌, ◌&&◌, Bool, true, false, not, if◌then◌else◌, nat_eq, nat_lt, List, [], ◌∷◌, ◌++◌, map, Option, Some, None, refl, ap, ◌∙◌, sym, subst, arith, inl, inr, append_assoc, eq-eqb}
use Rattle.std.specs.Option.{option_and_then, option_or}
use Rattle.std.proofs.lemmas.Bool.{cases_eq, cases_lt, lt-ltb, le-ltb, ne_eqb}
use Rattle.om_base.specs.Firsts.{first_of}
use Rattle.om_elf.specs.declared.elf.Elf.{Elf}
use Rattle.om_log.specs.declared.entry.Entry.{Entry}
use Rattle.om_log.specs.declared.entry.Entry.TheVariants as entry
use Rattle.om_log.specs.declared.start.Start.{Start}
use Rattle.om_record.specs.Kernel.{answer_to}
use Rattle.om_record.specs.Recording.{Moment, after_moment, arguments_of, call_of, end_at, end_entry, ending_of, entries_at, entries_below, entries_of, exit_end_at, end_by_exit, moment_at, start_of, end_by_stop}
use Rattle.om_record.specs.Progress.{last_of}
use Rattle.om_record.proofs.EndLemmas.{IsEnding, at_limit, at_step, before_end_none, cut, end_within, is_ending, one_more, or_some}
use Rattle.om_record.proofs.KernelLemmas.{writes_inside}
use Rattle.om_record.proofs.RunLemmas.{below_next}
use Rattle.om_run.proofs.RunLemmas.{first_departure_next}
use Rattle.om_run.specs.Departure.{Broken, broken, call_before, departs_at, departs_at_call, departs_at_end, departs_at_marks, departs_by, departs_for, departs_for_argument, departs_unmarked, departure_of, first_departure, is_exit, write_outside}
use Rattle.om_run.specs.Run.{Marked, after_by, below, due, end_of, marks_of, state_at}
use Rattle.om_run.specs.declared.departure.Departure.{Departure}
use Rattle.om_run.specs.declared.departure.Reason.TheVariants.{MarkPc, MarkSum, Number, Outside}
use Rattle.om_run.specs.declared.logged.RunEnd.{RunEnd}
use Rattle.om_run.specs.declared.logged.LoggedCall.{LoggedCall}
use Rattle.om_step.specs.First.{first_state}
use Rattle.om_step.specs.State.{State, register, sum_of}
use Rattle.om_step.specs.Step.{code_of, outcome}
use Rattle.om_step.specs.declared.cause.Cause.{Cause}
use Rattle.om_step.specs.declared.outcome.Outcome.{Outcome}
use Rattle.om_step.specs.declared.outcome.Outcome.TheVariants.{Next, Call, Stop}

-- ---- what a step's entries tell

-- the mark of a step, and its call, each if there is one
abbrev mark_if : Bool → (i : ℕ) → State → List Entry
mark_if b i s = if b then entry.Mark i s.pc (sum_of s) ∷ [] else []

abbrev call_if : Bool → Start → Outcome → (i : ℕ) → Moment → List Entry
call_if b start o i m = if b then call_of start o i m else []

-- what a log tells of the call at which a moment stands
abbrev logged_call : Start → Moment → LoggedCall
logged_call start m = record {
  number = register m.state 17;
  arguments = arguments_of m.state;
  result = (answer_to start m.kernel m.state).result;
  writes = (answer_to start m.kernel m.state).writes;
}

-- the call of a step, or what more entries tell
abbrev due_by : Bool → Start → Outcome → Moment → Option LoggedCall → Option LoggedCall
due_by false start o m more = more
due_by true start (Next touched) m more = more
due_by true start Call m more = Some (logged_call start m)
due_by true start (Stop cause) m more = more

-- the marks of a step, and those that more entries tell
abbrev marked_if : Bool → State → List Marked → List Marked
marked_if b s more = if b then record { pc = s.pc; sum = sum_of s } ∷ more else more

no_end : (b c : Bool) (start : Start) (o : Outcome) (i : ℕ) (m : Moment) (more : List Entry)
    → end_of ((mark_if b i m.state ++ call_if c start o i m) ++ more) ≡ end_of more
no_end true false start o i m more = refl
no_end false false start o i m more = refl
no_end true true start (Next touched) i m more = refl
no_end true true start Call i m more = refl
no_end true true start (Stop cause) i m more = refl
no_end false true start (Next touched) i m more = refl
no_end false true start Call i m more = refl
no_end false true start (Stop cause) i m more = refl

module _ (start : Start) (i j : ℕ) (m : Moment) (more : List Entry) where
  pick_call : (b : Bool) → b ≡ true → (found other : Option LoggedCall) → (if b then found else other) ≡ found
  pick_call b is found other = ap (λ (x : Bool). if x then found else other) is

  skip_call : (b : Bool) → b ≡ false → (found other : Option LoggedCall) → (if b then found else other) ≡ other
  skip_call b is found other = ap (λ (x : Bool). if x then found else other) is

  due_here : (b c : Bool) (o : Outcome) → nat_eq i j ≡ true
      → due ((mark_if b i m.state ++ call_if c start o i m) ++ more) j ≡ due_by c start o m (due more j)
  due_here true false o is = refl
  due_here false false o is = refl
  due_here true true (Next touched) is = refl
  due_here true true Call is = pick_call (nat_eq i j) is (Some (logged_call start m)) (due more j)
  due_here true true (Stop cause) is = refl
  due_here false true (Next touched) is = refl
  due_here false true Call is = pick_call (nat_eq i j) is (Some (logged_call start m)) (due more j)
  due_here false true (Stop cause) is = refl

  due_there : (b c : Bool) (o : Outcome) → nat_eq i j ≡ false
      → due ((mark_if b i m.state ++ call_if c start o i m) ++ more) j ≡ due more j
  due_there true false o is = refl
  due_there false false o is = refl
  due_there true true (Next touched) is = refl
  due_there true true Call is = skip_call (nat_eq i j) is (Some (logged_call start m)) (due more j)
  due_there true true (Stop cause) is = refl
  due_there false true (Next touched) is = refl
  due_there false true Call is = skip_call (nat_eq i j) is (Some (logged_call start m)) (due more j)
  due_there false true (Stop cause) is = refl

  marked_by : (b : Bool) → (x : Bool) → b ≡ x → marked_if b m.state (marks_of more j) ≡ marked_if x m.state (marks_of more j)
  marked_by b x is = ap (λ (y : Bool). marked_if y m.state (marks_of more j)) is

  marks_here : (b c : Bool) (o : Outcome) → nat_eq i j ≡ true
      → marks_of ((mark_if b i m.state ++ call_if c start o i m) ++ more) j ≡ marked_if b m.state (marks_of more j)
  marks_here true false o is = marked_by (nat_eq i j) true is
  marks_here false false o is = refl
  marks_here true true (Next touched) is = marked_by (nat_eq i j) true is
  marks_here true true Call is = marked_by (nat_eq i j) true is
  marks_here true true (Stop cause) is = marked_by (nat_eq i j) true is
  marks_here false true (Next touched) is = refl
  marks_here false true Call is = refl
  marks_here false true (Stop cause) is = refl

  marks_there : (b c : Bool) (o : Outcome) → nat_eq i j ≡ false
      → marks_of ((mark_if b i m.state ++ call_if c start o i m) ++ more) j ≡ marks_of more j
  marks_there true false o is = marked_by (nat_eq i j) false is
  marks_there false false o is = refl
  marks_there true true (Next touched) is = marked_by (nat_eq i j) false is
  marks_there true true Call is = marked_by (nat_eq i j) false is
  marks_there true true (Stop cause) is = marked_by (nat_eq i j) false is
  marks_there false true (Next touched) is = refl
  marks_there false true Call is = refl
  marks_there false true (Stop cause) is = refl

-- ---- what the entries of a run tell

module _ (elf : Elf) (input : List ℕ) (limit last : ℕ) where
  -- the test of a mark
  abbrev is_marked : ℕ → Bool
  is_marked i = nat_lt 0 i && nat_eq (i % 65_536) 0 && nat_lt i limit

  abbrev at : ℕ → Moment
  at i = moment_at elf input i

  abbrev happens : ℕ → Outcome
  happens i = outcome (at i).state

  split : (i : ℕ) → entries_at elf input limit last i
      ≡ mark_if (is_marked i) i (at i).state ++ call_if (nat_lt i last) (start_of elf.segments) (happens i) i (at i)
  unfolding entries_at
  split i = refl

  next : (n : ℕ) (more : List Entry) → entries_below elf input limit last (suc n) ++ more ≡ entries_below elf input limit last n
      ++ ((mark_if (is_marked n) n (at n).state ++ call_if (nat_lt n last) (start_of elf.segments) (happens n) n (at n)) ++ more)
  next n more =
      ap (λ (k : ℕ). entries_below elf input limit last k ++ more) (sym (one_more n))
      ∙ ap (λ (es : List Entry). es ++ more) (below_next elf input limit last n)
      ∙ append_assoc (entries_below elf input limit last n) (entries_at elf input limit last n) more
      ∙ ap (λ (es : List Entry). entries_below elf input limit last n ++ (es ++ more)) (split n)

  end_behind : (n : ℕ) (more : List Entry) → end_of (entries_below elf input limit last n ++ more) ≡ end_of more
  end_behind zero more = refl
  end_behind (suc n) more =
      ap end_of (next n more) ∙ end_behind n _ ∙ no_end (is_marked n) (nat_lt n last) (start_of elf.segments) (happens n) n (at n) more

  due_behind : (n j : ℕ) (more : List Entry) → n ≤ j → due (entries_below elf input limit last n ++ more) j ≡ due more j
  due_behind zero j more h = refl
  due_behind (suc n) j more h =
      ap (λ (es : List Entry). due es j) (next n more) ∙ due_behind n j _ (omega arith)
      ∙ due_there (start_of elf.segments) n j (at n) more (is_marked n) (nat_lt n last) (happens n) (ne_eqb n j (λ same. omega arith))

  due_below : (n j : ℕ) (more : List Entry) → j < n
      → due (entries_below elf input limit last n ++ more) j ≡ due_by (nat_lt j last) (start_of elf.segments) (happens j) (at j) (due more j)
  due_below zero j more h = absurd (omega arith)
  due_below (suc n) j more h =
      ap (λ (es : List Entry). due es j) (next n more) ∙ elim (cases_eq n j) [
        | inl same ↦ due_behind n j _ (omega arith) ∙ due_here (start_of elf.segments) n j (at n) more (is_marked n) (nat_lt n last) (happens n) (eq-eqb n j same)
            ∙ ap (λ (k : ℕ). due_by (nat_lt k last) (start_of elf.segments) (happens k) (at k) (due more j)) same
        | inr other ↦ due_below n j _ (omega arith)
            ∙ ap (due_by (nat_lt j last) (start_of elf.segments) (happens j) (at j))
            (due_there (start_of elf.segments) n j (at n) more (is_marked n) (nat_lt n last) (happens n) (ne_eqb n j other))
      ]

  marks_behind : (n j : ℕ) (more : List Entry) → n ≤ j → marks_of (entries_below elf input limit last n ++ more) j ≡ marks_of more j
  marks_behind zero j more h = refl
  marks_behind (suc n) j more h =
      ap (λ (es : List Entry). marks_of es j) (next n more) ∙ marks_behind n j _ (omega arith)
      ∙ marks_there (start_of elf.segments) n j (at n) more (is_marked n) (nat_lt n last) (happens n) (ne_eqb n j (λ same. omega arith))

  marks_below : (n j : ℕ) (more : List Entry) → j < n
      → marks_of (entries_below elf input limit last n ++ more) j ≡ marked_if (is_marked j) (at j).state (marks_of more j)
  marks_below zero j more h = absurd (omega arith)
  marks_below (suc n) j more h =
      ap (λ (es : List Entry). marks_of es j) (next n more) ∙ elim (cases_eq n j) [
        | inl same ↦ marks_behind n j _ (omega arith) ∙ marks_here (start_of elf.segments) n j (at n) more (is_marked n) (nat_lt n last) (happens n) (eq-eqb n j same)
            ∙ ap (λ (k : ℕ). marked_if (is_marked k) (at k).state (marks_of more j)) same
        | inr other ↦ marks_below n j _ (omega arith)
            ∙ ap (marked_if (is_marked j) (at j).state)
            (marks_there (start_of elf.segments) n j (at n) more (is_marked n) (nat_lt n last) (happens n) (ne_eqb n j other))
      ]

-- ---- the end

pub same_end : (elf : Elf) (input : List ℕ) (limit : ℕ) → end_of (entries_of elf input limit) ≡ ending_of elf input limit
unfolding entries_of
same_end elf input limit = end_behind elf input limit (last_of elf input limit) (last_of elf input limit + 1) (end_entry (ending_of elf input limit) ∷ [])

due_in : (elf : Elf) (input : List ℕ) (limit j : ℕ) → j ≤ last_of elf input limit → due (entries_of elf input limit) j
    ≡ due_by (nat_lt j (last_of elf input limit)) (start_of elf.segments) (outcome (moment_at elf input j).state) (moment_at elf input j) None
unfolding entries_of
due_in elf input limit j h =
    due_below elf input limit (last_of elf input limit) (last_of elf input limit + 1) j (end_entry (ending_of elf input limit) ∷ []) (omega arith)

marks_in : (elf : Elf) (input : List ℕ) (limit j : ℕ) → j ≤ last_of elf input limit → marks_of (entries_of elf input limit) j
    ≡ marked_if (nat_lt 0 j && nat_eq (j % 65_536) 0 && nat_lt j limit) (moment_at elf input j).state []
unfolding entries_of
marks_in elf input limit j h =
    marks_below elf input limit (last_of elf input limit) (last_of elf input limit + 1) j (end_entry (ending_of elf input limit) ∷ []) (omega arith)

-- ---- the states

after_same : (start : Start) (o : Outcome) (m : Moment) → after_by o (due_by true start o m None) m.state ≡ (after_moment start o m).state
after_same start (Next touched) m = refl
after_same start Call m = refl
after_same start (Stop cause) m = refl

pub same_states : (elf : Elf) (input : List ℕ) (limit i : ℕ) → i ≤ last_of elf input limit
    → state_at (entries_of elf input limit) (first_state elf (start_of elf.segments)) i ≡ (moment_at elf input i).state
unfolding state_at moment_at
same_states elf input limit zero h = refl
same_states elf input limit (suc i) h =
    let early : nat_lt i (last_of elf input limit) ≡ true = lt-ltb i (last_of elf input limit) (omega arith) in
    let m = moment_at elf input i in
    let start = start_of elf.segments in
    ap (λ (s : State). after_by (outcome s) (due (entries_of elf input limit) i) s) (same_states elf input limit i (omega arith))
    ∙ ap (λ (logged : Option LoggedCall). after_by (outcome m.state) logged m.state) (due_in elf input limit i (omega arith))
    ∙ ap (λ (b : Bool). after_by (outcome m.state) (due_by b start (outcome m.state) m None) m.state) early
    ∙ after_same start (outcome m.state) m

-- ---- the marks

self_equal : (n : ℕ) → nat_eq n n ≡ true
self_equal n = eq-eqb n n refl

-- an equal number breaks no rule
kept_rule : (n found : ℕ) → (if nat_eq n n then None else broken n found) ≡ None
kept_rule n found = ap (λ (b : Bool). if b then None else broken n found) (self_equal n)

marks_kept : (b : Bool) (i : ℕ) (s : State) → departs_at_marks (marked_if b s []) i s ≡ None
marks_kept false i s = refl
marks_kept true i s =
    ap (λ (x : Option Broken). first_of (first_of (departs_for i MarkPc x ∷ departs_for i MarkSum (if nat_eq (sum_of s) (sum_of s) then None else broken (sum_of s) (sum_of s)) ∷ []) ∷ [])) (kept_rule s.pc s.pc)
    ∙ ap (λ (x : Option Broken). first_of (first_of (departs_for i MarkPc None ∷ departs_for i MarkSum x ∷ []) ∷ [])) (kept_rule (sum_of s) (sum_of s))

-- ---- the steps before the last one

-- the call that a log tells as it was made
arguments_kept : (start : Start) (i : ℕ) (m : Moment)
    → first_of (map (departs_for_argument (logged_call start m) i m.state) (0 ∷ 1 ∷ 2 ∷ 3 ∷ 4 ∷ 5 ∷ [])) ≡ None
arguments_kept start i m =
    let s = m.state in
    rw (self_equal (register s 10), self_equal (register s 11), self_equal (register s 12), self_equal (register s 13), self_equal (register s 14), self_equal (register s 15)) refl

call_kept : (start : Start) (i : ℕ) (m : Moment) → departs_at_call (Some (logged_call start m)) i m.state ≡ None
call_kept start i m =
    let s = m.state in
    ap (λ (x : Option Broken). first_of (departs_for i Number x ∷ first_of (map (departs_for_argument (logged_call start m) i s) (0 ∷ 1 ∷ 2 ∷ 3 ∷ 4 ∷ 5 ∷ [])) ∷ departs_for i Outside (write_outside (logged_call start m) s) ∷ [])) (kept_rule (register s 17) (register s 17))
    ∙ ap (λ (x : Option Departure). first_of (None ∷ x ∷ departs_for i Outside (write_outside (logged_call start m) s) ∷ [])) (arguments_kept start i m)
    ∙ ap (λ (x : Option ℕ). first_of (None ∷ None ∷ departs_for i Outside (option_and_then (λ (address : ℕ). broken address s.pc) x) ∷ [])) (writes_inside start m.kernel s)

-- an outcome isn't a stop
abbrev IsNoStop : Outcome → Type 0
IsNoStop (Next touched) = Unit {0}
IsNoStop Call = Unit {0}
IsNoStop (Stop cause) = ⊥

step_kept : (end : RunEnd) (start : Start) (o : Outcome) (i : ℕ) (m : Moment) → IsNoStop o → departs_by end o (due_by true start o m None) i m.state ≡ None
step_kept end start (Next touched) i m goes = refl
step_kept end start Call i m goes = call_kept start i m
step_kept end start (Stop cause) i m goes = absurd goes

or_second : (a b : Option RunEnd) → option_or a b ≡ None → b ≡ None
or_second None b is = is
or_second (Some e) b is = cc

no_stop_by : (b : Bool) (o : Outcome) (i : ℕ) → b ≡ true → (if b then end_by_stop o i else None) ≡ None → IsNoStop o
no_stop_by b (Next touched) i is none = tt
no_stop_by b Call i is none = tt
no_stop_by true (Stop cause) i is none = cc
no_stop_by false (Stop cause) i is none = cc

-- the machine doesn't stop before the last step
no_stop : (elf : Elf) (input : List ℕ) (limit i : ℕ) → i < last_of elf input limit → IsNoStop (outcome (moment_at elf input i).state)
no_stop elf input limit i h =
    let o = outcome (moment_at elf input i).state in
    let none = before_end_none elf input limit (ending_of elf input limit) (is_ending elf input limit) i h in
    let within = end_within elf input limit (ending_of elf input limit) (is_ending elf input limit) in
    no_stop_by (nat_lt i limit) o i (lt-ltb i limit (omega arith)) (or_second (exit_end_at elf input i) (if nat_lt i limit then end_by_stop o i else None) none)

-- ---- the last step

-- how a run ends: behind a call that exits, at the limit, or at a stop
data IsEndOf (elf : Elf) (input : List ℕ) : RunEnd → Type 0 where
  exits : (i : ℕ) → outcome (moment_at elf input i).state ≡ Call → is_exit (register (moment_at elf input i).state 17) ≡ true
      → IsEndOf elf input (record { step = suc i; cause = 0; value = register (moment_at elf input i).state 10 })
  cuts : (i : ℕ) → IsEndOf elf input (cut i)
  stops : (i : ℕ) (cause : Cause) → outcome (moment_at elf input i).state ≡ Stop cause
      → IsEndOf elf input (record { step = i; cause = 2; value = code_of cause })

exits_how : (elf : Elf) (input : List ℕ) (i : ℕ) (o : Outcome) (b : Bool) (e : RunEnd) → outcome (moment_at elf input i).state ≡ o
    → is_exit (register (moment_at elf input i).state 17) ≡ b → end_by_exit o (moment_at elf input i).state (suc i) ≡ Some e → IsEndOf elf input e
exits_how elf input i (Next touched) b e happens test is = cc
exits_how elf input i Call true e happens test is =
    let same : Some (record { step = suc i; cause = 0; value = register (moment_at elf input i).state 10 }) ≡ Some e =
    sym (ap (λ (x : Bool). if x then Some (record { step = suc i; cause = 0; value = register (moment_at elf input i).state 10 }) else None) test) ∙ is in
    let there : record { step = suc i; cause = 0; value = register (moment_at elf input i).state 10 } ≡ e = cc in
    subst (IsEndOf elf input) there (exits i happens test)
exits_how elf input i Call false e happens test is =
    let same : None ≡ Some e =
    sym (ap (λ (x : Bool). if x then Some (record { step = suc i; cause = 0; value = register (moment_at elf input i).state 10 }) else None) test) ∙ is in cc
exits_how elf input i (Stop cause) b e happens test is = cc

exit_how : (elf : Elf) (input : List ℕ) (i : ℕ) (e : RunEnd) → exit_end_at elf input i ≡ Some e → IsEndOf elf input e
exit_how elf input zero e is = cc
exit_how elf input (suc i) e is = exits_how elf input i (outcome (moment_at elf input i).state) (is_exit (register (moment_at elf input i).state 17)) e refl refl is

stop_how : (elf : Elf) (input : List ℕ) (i : ℕ) (b : Bool) (o : Outcome) (e : RunEnd) → outcome (moment_at elf input i).state ≡ o
    → (if b then end_by_stop o i else None) ≡ Some e → IsEndOf elf input e
stop_how elf input i false o e happens is = cc
stop_how elf input i true (Next touched) e happens is = cc
stop_how elf input i true Call e happens is = cc
stop_how elf input i true (Stop cause) e happens is =
    let there : record { step = i; cause = 2; value = code_of cause } ≡ e = cc in subst (IsEndOf elf input) there (stops i cause happens)

end_how : (elf : Elf) (input : List ℕ) (limit i : ℕ) (e : RunEnd) → end_at elf input limit i ≡ Some e → IsEndOf elf input e
end_how elf input limit i e is =
    elim (or_some (exit_end_at elf input i) (if nat_lt i limit then end_by_stop (outcome (moment_at elf input i).state) i else None) e is) [
      | inl here ↦ exit_how elf input i e here
      | inr here ↦ stop_how elf input i (nat_lt i limit) (outcome (moment_at elf input i).state) e refl here
    ]

ending_how : (elf : Elf) (input : List ℕ) (limit : ℕ) (e : RunEnd) → IsEnding elf input limit e → IsEndOf elf input e
ending_how elf input limit e (at_limit all) = cuts limit
ending_how elf input limit e (at_step k within is before) = end_how elf input limit k e is

not_true : (b : Bool) → b ≡ true → not b ≡ false
not_true b is = ap not is

-- the end is as it is logged
end_kept : (elf : Elf) (input : List ℕ) (e : RunEnd) → IsEndOf elf input e → (entries : List Entry)
    → ((i : ℕ) → suc i ≡ e.step → outcome (moment_at elf input i).state ≡ Call → due entries i ≡ Some (logged_call (start_of elf.segments) (moment_at elf input i)))
    → departs_at_end e (call_before entries e.step) (outcome (moment_at elf input e.step).state) e.step ≡ None
end_kept elf input e (cuts i) entries logged = refl
end_kept elf input e (stops i cause happens) entries logged =
    rw (happens, self_equal (code_of cause)) refl
end_kept elf input e (exits i calls test) entries logged =
    rw (logged i refl calls, test, self_equal (register (moment_at elf input i).state 10)) refl

-- ---- no departure

-- the call that the log tells of a step before the last one
due_early : (elf : Elf) (input : List ℕ) (limit i : ℕ) → i < last_of elf input limit → due (entries_of elf input limit) i
    ≡ due_by true (start_of elf.segments) (outcome (moment_at elf input i).state) (moment_at elf input i) None
due_early elf input limit i h =
    due_in elf input limit i (omega arith)
    ∙ ap (λ (b : Bool). due_by b (start_of elf.segments) (outcome (moment_at elf input i).state) (moment_at elf input i) None) (lt-ltb i (last_of elf input limit) h)

unmarked_kept : (elf : Elf) (input : List ℕ) (limit i : ℕ) → i ≤ last_of elf input limit
    → departs_unmarked (entries_of elf input limit) i (moment_at elf input i).state ≡ None
unmarked_kept elf input limit i h =
    let entries = entries_of elf input limit in
    let end = ending_of elf input limit in
    let start = start_of elf.segments in
    let m = moment_at elf input i in
    let early = λ (e : RunEnd). departs_by e (outcome m.state) (due entries i) i m.state in
    let late = λ (e : RunEnd). departs_at_end e (call_before entries e.step) (outcome m.state) i in
    ap (λ (e : RunEnd). if nat_lt i e.step then early e else late e) (same_end elf input limit) ∙ elim (cases_lt i end.step) [
      | inl before ↦ ap (λ (b : Bool). if b then early end else late end) (lt-ltb i end.step before)
          ∙ ap (λ (logged : Option LoggedCall). departs_by end (outcome m.state) logged i m.state) (due_early elf input limit i before)
          ∙ step_kept end start (outcome m.state) i m (no_stop elf input limit i before)
      | inr behind ↦ let last : i ≡ end.step = omega arith in
          ap (λ (b : Bool). if b then early end else late end) (le-ltb i end.step behind)
          ∙ ap (λ (k : ℕ). departs_at_end end (call_before entries end.step) (outcome (moment_at elf input k).state) k) last
          ∙ end_kept elf input end (ending_how elf input limit end (is_ending elf input limit)) entries
          (λ k is calls. due_early elf input limit k (omega arith) ∙ ap (λ (o : Outcome). due_by true start o (moment_at elf input k) None) calls)
    ]

departs_none : (elf : Elf) (input : List ℕ) (limit i : ℕ) → i ≤ last_of elf input limit
    → departs_at (entries_of elf input limit) i (moment_at elf input i).state ≡ None
departs_none elf input limit i h =
    ap (λ (marks : List Marked). option_or (departs_at_marks marks i (moment_at elf input i).state) (departs_unmarked (entries_of elf input limit) i (moment_at elf input i).state)) (marks_in elf input limit i h)
    ∙ ap (λ (d : Option Departure). option_or d (departs_unmarked (entries_of elf input limit) i (moment_at elf input i).state))
    (marks_kept (nat_lt 0 i && nat_eq (i % 65_536) 0 && nat_lt i limit) i (moment_at elf input i).state)
    ∙ unmarked_kept elf input limit i h

none_below : (elf : Elf) (input : List ℕ) (limit n : ℕ) → n ≤ last_of elf input limit + 1
    → first_departure (entries_of elf input limit) (first_state elf (start_of elf.segments)) (below n) ≡ None
none_below elf input limit zero h = refl
none_below elf input limit (suc n) h =
    let entries = entries_of elf input limit in
    let first = first_state elf (start_of elf.segments) in
    ap (λ (k : ℕ). first_departure entries first (below k)) (sym (one_more n)) ∙ first_departure_next entries first n
    ∙ ap (λ (d : Option Departure). option_or d (departs_at entries n (state_at entries first n))) (none_below elf input limit n (omega arith))
    ∙ ap (departs_at entries n) (same_states elf input limit n (omega arith)) ∙ departs_none elf input limit n (omega arith)

pub no_departure : (elf : Elf) (input : List ℕ) (limit : ℕ) → departure_of (entries_of elf input limit) (first_state elf (start_of elf.segments)) ≡ None
unfolding departure_of
no_departure elf input limit =
    ap (λ (e : RunEnd). first_departure (entries_of elf input limit) (first_state elf (start_of elf.segments)) (below (e.step + 1))) (same_end elf input limit)
    ∙ none_below elf input limit (last_of elf input limit + 1) (omega arith)
