-- That the recorder comes from step to step as the run does, and tells its entries.
use Rattle.std.proofs.Common.{◌≡◌, ℕ, zero, suc, ◌+◌, ◌-◌, ◌<◌, ◌≤◌, ◌%◌, ◌&&◌, Bool, true, false, if◌then◌else◌, nat_eq, nat_lt, List, [], ◌∷◌, ◌++◌, Option, Some, None, refl, ap, ◌∙◌, sym, arith, inl, inr, append_assoc, add-zero}
use Rattle.std.specs.Option.{option_or}
use Rattle.std.proofs.lemmas.Bool.{lt-ltb, le-ltb}
use Rattle.std.proofs.lemmas.Grind.{flat_map-append}
use Rattle.om_elf.specs.declared.elf.Elf.{Elf}
use Rattle.om_log.specs.Grammar.{header, spellings}
use Rattle.om_log.specs.Writing.{Written}
use Rattle.om_log.specs.declared.entry.Entry.{Entry}
use Rattle.om_log.specs.declared.entry.Entry.TheVariants as entry
use Rattle.om_log.specs.declared.start.Start.{Start}
use Rattle.om_log.proofs.WriteLaws.{length-header}
use Rattle.om_record.specs.Kernel.{Kernel, answer_to}
use Rattle.om_record.specs.Recording.{Moment, after_moment, call_of, end_at, ending_of, entries_at, entries_below, exit_end_at, end_by_exit, mark_of, moment_at, served, start_of, end_by_stop}
use Rattle.om_record.specs.Progress.{AreBefore, GoesOn, IsAt, IsLogged, IsWalk, exit_argument, exit_ending, last_of, moment, steps_on, call_entry_at, entries_before}
use Rattle.om_record.proofs.EndLemmas.{is_ending, last_or, one_more, up_to_last}
use Rattle.om_record.proofs.TellingLemmas.{append_none, before_append, spellings_append, spellings_none}
use Rattle.om_run.specs.Departure.{is_exit}
use Rattle.om_run.specs.Run.{below}
use Rattle.om_run.specs.declared.logged.RunEnd.{RunEnd}
use Rattle.om_step.specs.First.{first_state}
use Rattle.om_step.specs.State.{State, register, sum_of}
use Rattle.om_step.specs.Step.{outcome, next}
use Rattle.om_step.specs.declared.outcome.Outcome.{Outcome}
use Rattle.om_step.specs.declared.outcome.Outcome.TheVariants.{Next, Call, Stop}

pub entries_none : (xs : List Entry) → xs ++ [] ≡ xs
entries_none [] = refl
entries_none (x ∷ xs) = ap (λ (rest : List Entry). x ∷ rest) (entries_none xs)

-- ---- the entries of a step

-- the mark of a moment, where the run stands there
abbrev pub mark_at : (limit i : ℕ) → Moment → List Entry
mark_at limit i m = mark_of limit i m.state

-- the entries of one step more
pub below_next : (elf : Elf) (input : List ℕ) (limit last i : ℕ)
    → entries_below elf input limit last (i + 1) ≡ entries_below elf input limit last i ++ entries_at elf input limit last i
below_next elf input limit last i =
    ap (entries_below elf input limit last) (one_more i)
    ∙ flat_map-append (entries_at elf input limit last) (below i) (i ∷ [])
    ∙ ap (λ (more : List Entry). entries_below elf input limit last i ++ more) (entries_none (entries_at elf input limit last i))

-- at the last step they are its mark
pub at_last : (elf : Elf) (input : List ℕ) (limit last i : ℕ) (m : Moment) → moment_at elf input i ≡ m → last ≤ i
    → entries_at elf input limit last i ≡ mark_at limit i m
unfolding entries_at
at_last elf input limit last i m stands late =
    let test : nat_lt i last ≡ false = le-ltb i last late in
    rw (test, stands) (entries_none (mark_at limit i m))

call_none : (start : Start) (o : Outcome) (i : ℕ) (m : Moment) → GoesOn o → call_of start o i m ≡ []
call_none start (Next touched) i m goes = refl
call_none start Call i m goes = absurd goes
call_none start (Stop cause) i m goes = absurd goes

if_none : (b : Bool) (xs : List Entry) → xs ≡ [] → (if b then xs else []) ≡ []
if_none true xs is = is
if_none false xs is = refl

-- at a step without a call they are its mark
pub at_next : (elf : Elf) (input : List ℕ) (limit last i : ℕ) (m : Moment) → moment_at elf input i ≡ m → GoesOn (outcome m.state)
    → entries_at elf input limit last i ≡ mark_at limit i m
unfolding entries_at
at_next elf input limit last i m stands goes =
    rw stands (ap (λ (more : List Entry). mark_at limit i m ++ more)
    (if_none (nat_lt i last) (call_of (start_of elf.segments) (outcome m.state) i m) (call_none (start_of elf.segments) (outcome m.state) i m goes))
    ∙ entries_none (mark_at limit i m))

-- at a call they are its mark and the call
pub at_call : (elf : Elf) (input : List ℕ) (limit last i : ℕ) (m : Moment) → moment_at elf input i ≡ m → outcome m.state ≡ Call → i < last
    → entries_at elf input limit last i ≡ mark_at limit i m ++ call_entry_at (start_of elf.segments) i m ∷ []
unfolding entries_at
at_call elf input limit last i m stands calls early =
    let test : nat_lt i last ≡ true = lt-ltb i last early in
    rw (test, stands) (ap (λ (o : Outcome). mark_at limit i m ++ call_of (start_of elf.segments) o i m) calls)

-- ---- the moment and the end behind a step

pub moment_next : (elf : Elf) (input : List ℕ) (i : ℕ) (m : Moment) → moment_at elf input i ≡ m
    → moment_at elf input (i + 1) ≡ after_moment (start_of elf.segments) (outcome m.state) m
unfolding moment_at
moment_next elf input i m stands =
    rw (one_more i) (ap (λ (n : Moment). after_moment (start_of elf.segments) (outcome n.state) n) stands)

pub exit_next : (elf : Elf) (input : List ℕ) (i : ℕ) (m : Moment) → moment_at elf input i ≡ m
    → exit_end_at elf input (i + 1) ≡ end_by_exit (outcome m.state) m.state (i + 1)
exit_next elf input i m stands =
    rw (one_more i) (ap (λ (n : Moment). end_by_exit (outcome n.state) n.state (suc i)) stands)

-- the end at a step that no exit leads to
pub end_here : (elf : Elf) (input : List ℕ) (limit i : ℕ) (m : Moment) → moment_at elf input i ≡ m → exit_end_at elf input i ≡ None
    → end_at elf input limit i ≡ (if nat_lt i limit then end_by_stop (outcome m.state) i else None)
end_here elf input limit i m stands unexited =
    ap (λ (o : Option RunEnd). option_or o (if nat_lt i limit then end_by_stop (outcome (moment_at elf input i).state) i else None)) unexited
    ∙ ap (λ (n : Moment). if nat_lt i limit then end_by_stop (outcome n.state) i else None) stands

if_no_end : (b : Bool) (o : Option RunEnd) → o ≡ None → (if b then o else None) ≡ None
if_no_end true o is = is
if_no_end false o is = refl

stops_none : (o : Outcome) (i : ℕ) → GoesOn o → end_by_stop o i ≡ None
stops_none (Next touched) i goes = refl
stops_none Call i goes = refl
stops_none (Stop cause) i goes = absurd goes

exits_none : (o : Outcome) (s : State) (i : ℕ) → GoesOn o → end_by_exit o s i ≡ None
exits_none (Next touched) s i goes = refl
exits_none Call s i goes = absurd goes
exits_none (Stop cause) s i goes = absurd goes

exits_call : (b : Bool) (i value : ℕ)
    → (if b then Some (record { step = i; cause = 0; value = value }) else None) ≡ exit_ending (if b then Some value else None) i
exits_call true i value = refl
exits_call false i value = refl

after_goes : (start : Start) (o : Outcome) (m : Moment) → GoesOn o → after_moment start o m ≡ moment (next m.state) m.kernel
after_goes start (Next touched) m goes = refl
after_goes start Call m goes = absurd goes
after_goes start (Stop cause) m goes = absurd goes

-- ---- where the recorder is

pub none_ended : (elf : Elf) (input : List ℕ) (limit i : ℕ) → ((j : ℕ) → j < i → end_at elf input limit j ≡ None)
    → end_at elf input limit i ≡ None → (j : ℕ) → j < i + 1 → end_at elf input limit j ≡ None
none_ended elf input limit i before here j h =
    elim (last_or j i h) [ inl lower ↦ before j lower | inr same ↦ ap (end_at elf input limit) same ∙ here ]

-- it isn't behind the last step
pub at_most_last : (elf : Elf) (input : List ℕ) (limit i : ℕ) → i ≤ limit → ((j : ℕ) → j < i → end_at elf input limit j ≡ None)
    → i ≤ last_of elf input limit
at_most_last elf input limit i within before = up_to_last elf input limit i (ending_of elf input limit) (is_ending elf input limit) within before

-- it begins at step 0
pub at_start : (elf : Elf) (input : List ℕ) (limit : ℕ) (start : Start) (s : State) → start ≡ start_of elf.segments → s ≡ first_state elf start
    → IsAt elf input limit 0 (moment s (record { left = input; program_break = start.heap_low })) (entries_before elf input limit 0) (record { start = start; body = [] }) None
unfolding moment_at
at_start elf input limit start s is first = record {
  stands = rw (first, is) refl;
  within = omega arith;
  unended = λ j h. absurd (omega arith);
  exits = refl;
  begins = is;
  spelled = sym spellings_none;
  lawful = omega arith;
  room = rw (append_none (header start), length-header start) (omega arith);
}

-- it logged more of its step
pub at_logged : (elf : Elf) (input : List ℕ) (limit i : ℕ) (m : Moment) (logged more : List Entry) (written later : Written) (exit : Option ℕ)
    → IsAt elf input limit i m logged written exit → IsLogged written more later → AreBefore i i more
    → IsAt elf input limit i m (logged ++ more) later exit
at_logged elf input limit i m logged more written later exit at is stand = record {
  stands = at.stands;
  within = at.within;
  unended = at.unended;
  exits = at.exits;
  begins = ap (λ (w : Written). w.start) is.whole ∙ at.begins;
  spelled = ap (λ (w : Written). w.body) is.whole ∙ ap (λ (body : List ℕ). body ++ spellings more) at.spelled ∙ sym (spellings_append logged more);
  lawful = before_append 0 i i logged more at.lawful stand;
  room = is.room;
}

-- it went on to the next step
pub at_goes : (elf : Elf) (input : List ℕ) (limit i : ℕ) (m : Moment) (written : Written)
    → IsAt elf input limit i m (entries_before elf input limit i ++ mark_at limit i m) written None → i < limit → GoesOn (outcome m.state)
    → IsAt elf input limit (i + 1) (moment (next m.state) m.kernel) (entries_before elf input limit (i + 1)) written None
at_goes elf input limit i m written at early goes =
    let entries : entries_before elf input limit (i + 1) ≡ entries_before elf input limit i ++ mark_at limit i m =
    below_next elf input limit (last_of elf input limit) i
    ∙ ap (λ (more : List Entry). entries_before elf input limit i ++ more) (at_next elf input limit (last_of elf input limit) i m at.stands goes) in
    rw entries (record {
      stands = moment_next elf input i m at.stands ∙ after_goes (start_of elf.segments) (outcome m.state) m goes;
      within = omega arith;
      unended = none_ended elf input limit i at.unended (end_here elf input limit i m at.stands at.exits
          ∙ if_no_end (nat_lt i limit) (end_by_stop (outcome m.state) i) (stops_none (outcome m.state) i goes));
      exits = exit_next elf input i m at.stands ∙ exits_none (outcome m.state) m.state (i + 1) goes;
      begins = at.begins;
      spelled = at.spelled;
      lawful = rw (← entries_none (entries_before elf input limit i ++ mark_at limit i m)) (before_append 0 i (i + 1) (entries_before elf input limit i ++ mark_at limit i m) [] at.lawful (omega arith));
      room = at.room;
    })

-- a run doesn't end at a call
pub call_unended : (elf : Elf) (input : List ℕ) (limit i : ℕ) (m : Moment) → moment_at elf input i ≡ m → exit_end_at elf input i ≡ None
    → ((j : ℕ) → j < i → end_at elf input limit j ≡ None) → outcome m.state ≡ Call → (j : ℕ) → j < i + 1 → end_at elf input limit j ≡ None
call_unended elf input limit i m stands unexited before calls =
    none_ended elf input limit i before (end_here elf input limit i m stands unexited
    ∙ if_no_end (nat_lt i limit) (end_by_stop (outcome m.state) i) (ap (λ (o : Outcome). end_by_stop o i) calls))

-- the entries up to a call
pub call_logged : (elf : Elf) (input : List ℕ) (limit i : ℕ) (m : Moment) → moment_at elf input i ≡ m → outcome m.state ≡ Call → i < last_of elf input limit
    → entries_before elf input limit (i + 1) ≡ (entries_before elf input limit i ++ mark_at limit i m) ++ call_entry_at (start_of elf.segments) i m ∷ []
call_logged elf input limit i m stands calls early =
    below_next elf input limit (last_of elf input limit) i
    ∙ ap (λ (more : List Entry). entries_before elf input limit i ++ more) (at_call elf input limit (last_of elf input limit) i m stands calls early)
    ∙ sym (append_assoc (entries_before elf input limit i) (mark_at limit i m) (call_entry_at (start_of elf.segments) i m ∷ []))

-- it answered a call and logged it
pub at_served : (elf : Elf) (input : List ℕ) (limit i : ℕ) (m : Moment) (written later : Written)
    → IsAt elf input limit i m (entries_before elf input limit i ++ mark_at limit i m) written None → i < limit → outcome m.state ≡ Call
    → IsLogged written (call_entry_at (start_of elf.segments) i m ∷ []) later → AreBefore i (i + 1) (call_entry_at (start_of elf.segments) i m ∷ [])
    → IsAt elf input limit (i + 1) (served m (answer_to (start_of elf.segments) m.kernel m.state)) (entries_before elf input limit (i + 1)) later (exit_argument m.state)
at_served elf input limit i m written later at early calls is stand =
    let call = call_entry_at (start_of elf.segments) i m in
    let logged = entries_before elf input limit i ++ mark_at limit i m in
    let unended = call_unended elf input limit i m at.stands at.exits at.unended calls in
    let before_last : i < last_of elf input limit = omega (arith, at_most_last elf input limit (i + 1) (omega arith) unended) in
    rw (call_logged elf input limit i m at.stands calls before_last) (record {
      stands = moment_next elf input i m at.stands ∙ ap (λ (o : Outcome). after_moment (start_of elf.segments) o m) calls;
      within = omega arith;
      unended = unended;
      exits = exit_next elf input i m at.stands ∙ ap (λ (o : Outcome). end_by_exit o m.state (i + 1)) calls
          ∙ exits_call (is_exit (register m.state 17)) (i + 1) (register m.state 10);
      begins = ap (λ (w : Written). w.start) is.whole ∙ at.begins;
      spelled = ap (λ (w : Written). w.body) is.whole ∙ ap (λ (body : List ℕ). body ++ spellings (call ∷ [])) at.spelled ∙ sym (spellings_append logged (call ∷ []));
      lawful = before_append 0 i (i + 1) logged (call ∷ []) at.lawful stand;
      room = is.room;
    })

-- ---- a walk

and_false : (a b c : Bool) → b ≡ false → (a && b && c) ≡ false
and_false true b c is = ap (λ (x : Bool). x && c) is
and_false false b c is = refl

mark_none : (limit j : ℕ) (s : State) → nat_eq (j % 65_536) 0 ≡ false → mark_of limit j s ≡ []
mark_none limit j s unmarked =
    ap (λ (b : Bool). if b then entry.Mark j s.pc (sum_of s) ∷ [] else []) (and_false (nat_lt 0 j) (nat_eq (j % 65_536) 0) (nat_lt j limit) unmarked)

-- so many steps on from a step whose mark was logged: before the next mark the mark of the step is logged, and from there on the entries before it
record Walked (elf : Elf) (input : List ℕ) (limit until i n : ℕ) (s : State) (kernel : Kernel) (written : Written) : Type 0 where
  short : i + n < until → IsAt elf input limit (i + n) (moment s kernel) (entries_before elf input limit (i + n) ++ mark_of limit (i + n) s) written None
  long : 0 < n → IsAt elf input limit (i + n) (moment s kernel) (entries_before elf input limit (i + n)) written None

walked : (elf : Elf) (input : List ℕ) (limit until i : ℕ) (m : Moment) (written : Written)
    → IsAt elf input limit i m (entries_before elf input limit i ++ mark_at limit i m) written None
    → until ≤ limit → ((j : ℕ) → i < j → j < until → nat_eq (j % 65_536) 0 ≡ false)
    → (n : ℕ) → ((k : ℕ) → k < n → GoesOn (outcome (steps_on m.state k))) → i + n ≤ until
    → Walked elf input limit until i n (steps_on m.state n) m.kernel written
unfolding steps_on
walked elf input limit until i m written at within unmarked zero goes h = record {
  short = λ early. rw (add-zero i) at;
  long = λ some. absurd (omega arith);
}
walked elf input limit until i m written at within unmarked (suc n) goes h =
    let before = walked elf input limit until i m written at within unmarked n (λ k less. goes k (omega arith)) (omega arith) in
    let next_step : i + suc n ≡ (i + n) + 1 = omega arith in
    let on : IsAt elf input limit (i + suc n) (moment (next (steps_on m.state n)) m.kernel) (entries_before elf input limit (i + suc n)) written None =
    rw next_step (at_goes elf input limit (i + n) (moment (steps_on m.state n) m.kernel) written (before.short (omega arith)) (omega arith) (goes n (omega arith))) in
    record {
      short = λ early. rw (mark_none limit (i + suc n) (next (steps_on m.state n)) (unmarked (i + suc n) (omega arith) early), entries_none (entries_before elf input limit (i + suc n))) on;
      long = λ some. on;
    }

walked_to : (elf : Elf) (input : List ℕ) (limit until i j n : ℕ) (m : Moment) (s : State) (written : Written)
    → IsAt elf input limit i m (entries_before elf input limit i ++ mark_at limit i m) written None
    → until ≤ limit → ((k : ℕ) → i < k → k < until → nat_eq (k % 65_536) 0 ≡ false)
    → IsWalk m.state n s → j ≡ i + n → j ≤ until → Walked elf input limit until i n s m.kernel written
walked_to elf input limit until i j n m s written at within unmarked walk is h =
    rw walk.comes (walked elf input limit until i m written at within unmarked n walk.goes (omega arith))

short_to : (elf : Elf) (input : List ℕ) (limit until i j n : ℕ) (s : State) (kernel : Kernel) (written : Written)
    → Walked elf input limit until i n s kernel written → j ≡ i + n → j < until
    → IsAt elf input limit j (moment s kernel) (entries_before elf input limit j ++ mark_of limit j s) written None
short_to elf input limit until i j n s kernel written to is h = rw is (to.short (omega arith))

long_to : (elf : Elf) (input : List ℕ) (limit until i j n : ℕ) (s : State) (kernel : Kernel) (written : Written)
    → Walked elf input limit until i n s kernel written → j ≡ i + n → 0 < n
    → IsAt elf input limit j (moment s kernel) (entries_before elf input limit j) written None
long_to elf input limit until i j n s kernel written to is h = rw is (to.long h)

-- the recorder walked to a step before the next mark
pub at_walked : (elf : Elf) (input : List ℕ) (limit until i j : ℕ) (m : Moment) (s : State) (written : Written)
    → IsAt elf input limit i m (entries_before elf input limit i ++ mark_at limit i m) written None
    → until ≤ limit → ((k : ℕ) → i < k → k < until → nat_eq (k % 65_536) 0 ≡ false)
    → IsWalk m.state (j - i) s → i ≤ j → j < until
    → IsAt elf input limit j (moment s m.kernel) (entries_before elf input limit j ++ mark_of limit j s) written None
at_walked elf input limit until i j m s written at within unmarked walk later early =
    short_to elf input limit until i j (j - i) s m.kernel written
    (walked_to elf input limit until i j (j - i) m s written at within unmarked walk (omega arith) (omega arith)) (omega arith) early

-- the recorder walked to the next mark
pub at_reached : (elf : Elf) (input : List ℕ) (limit until i j : ℕ) (m : Moment) (s : State) (written : Written)
    → IsAt elf input limit i m (entries_before elf input limit i ++ mark_at limit i m) written None
    → until ≤ limit → ((k : ℕ) → i < k → k < until → nat_eq (k % 65_536) 0 ≡ false)
    → IsWalk m.state (j - i) s → i < until → j ≡ until
    → IsAt elf input limit j (moment s m.kernel) (entries_before elf input limit j) written None
at_reached elf input limit until i j m s written at within unmarked walk early reached =
    long_to elf input limit until i j (j - i) s m.kernel written
    (walked_to elf input limit until i j (j - i) m s written at within unmarked walk (omega arith) (omega arith)) (omega arith) (omega arith)

-- ---- as the recorder's steps tell it

-- it logged the mark of its step
pub at_marked : (elf : Elf) (input : List ℕ) (limit i step : ℕ) (m : Moment) (written later : Written) (exit : Option ℕ)
    → IsAt elf input limit i m (entries_before elf input limit i) written exit → step ≡ i
    → IsLogged written (mark_of limit step m.state) later → AreBefore step step (mark_of limit step m.state)
    → IsAt elf input limit i m (entries_before elf input limit i ++ mark_at limit i m) later exit
at_marked elf input limit i step m written later exit at is =
    rw is (λ (logged : IsLogged written (mark_of limit i m.state) later) (stand : AreBefore i i (mark_of limit i m.state)).
    at_logged elf input limit i m (entries_before elf input limit i) (mark_of limit i m.state) written later exit at logged stand)

-- it answered a call with these regions
pub at_served_by : (elf : Elf) (input : List ℕ) (limit i : ℕ) (m : Moment) (written later : Written)
    → IsAt elf input limit i m (entries_before elf input limit i ++ mark_at limit i m) written None → i < limit → outcome m.state ≡ Call
    → (start : Start) → start ≡ start_of elf.segments
    → IsLogged written (call_entry_at start i m ∷ []) later → AreBefore i (i + 1) (call_entry_at start i m ∷ [])
    → IsAt elf input limit (i + 1) (served m (answer_to start m.kernel m.state)) (entries_before elf input limit (i + 1)) later (exit_argument m.state)
at_served_by elf input limit i m written later at early calls start is =
    rw is (at_served elf input limit i m written later at early calls)
