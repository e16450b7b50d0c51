-- What the recorder made where it came to the end, or where the log was full.
use Rattle.std.proofs.Common.{◌≡◌, ℕ, zero, suc, ◌+◌, ◌^◌, ◌<◌, ◌≤◌, Bool, true, false, if◌then◌else◌, nat_lt, List, [], ◌∷◌, ◌++◌, length, map, filter, Option, Some, None, Result, Ok, Err, IfOk, IfErr, refl, ap, ◌∙◌, sym, subst, arith, inl, inr, append_assoc, length-append}
use Rattle.std.specs.Option.{option_or}
use Rattle.std.proofs.lemmas.Bool.{cases_lt, lt-ltb, le-ltb, ltb-false, ltb-true}
use Rattle.std.proofs.lemmas.List.{map-append}
use Rattle.om_base.specs.Limits.{most_bytes}
use Rattle.om_base.specs.Spans as spans
use Rattle.om_elf.specs.Image.{Image}
use Rattle.om_elf.specs.declared.elf.Elf.{Elf}
use Rattle.om_log.specs.Grammar.{Fits, HasCause, IsEnd as IsEndEntry, IsLog, MayStand, header, spelling, spellings, step_of}
use Rattle.om_log.specs.Regions.{FitsStart, HasRoom, heap_span, stack_span}
use Rattle.om_log.specs.Writing.{Written, file_of}
use Rattle.om_log.specs.declared.entry.Entry.{Entry}
use Rattle.om_log.specs.declared.start.Start.{Start}
use Rattle.om_log.proofs.RegionLemmas.{lawful_of}
use Rattle.om_mem.specs.Contents.{Filled, overlap_of}
use Rattle.om_mem.specs.declared.region.Region.{Region}
use Rattle.om_mem.proofs.OverlapLemmas.{overlap_from, overlap_of-from, overlap_parts, position_none, shares}
use Rattle.om_record.specs.Recording.{Makes, Moment, bytes_of, call_of, end_at, end_entry, ending_of, entries_at, entries_below, entries_of, log_of, mark_of, recorded_by, size_through, moment_at, start_of, end_by_stop, too_long, too_long_at}
use Rattle.om_record.specs.Progress.{IsAt, IsFull, known_ending, last_of, call_entry_at, entries_before}
use Rattle.om_record.specs.declared.recorded.Recorded.{Recorded}
use Rattle.om_record.specs.declared.recorded.RecordFault.{RecordFault}
use Rattle.om_record.specs.declared.recorded.RecordFault.TheVariants.{NoMemory, TooLong, NoRoom}
use Rattle.om_record.proofs.EndLemmas.{cut, ending_cut, ending_there, find_first, find_none, is_ending, one_more}
use Rattle.om_record.proofs.RunLemmas.{at_last, at_most_last, below_next, call_unended, end_here, entries_none, mark_at, none_ended, call_logged}
use Rattle.om_record.proofs.TellingLemmas.{before_end, end_there, spellings_append, spellings_one}
use Rattle.om_run.specs.declared.logged.RunEnd.{RunEnd}
use Rattle.om_step.specs.First.{filled_of, heap_of, regions_of, segment_of, stack_of}
use Rattle.om_step.specs.Step.{outcome, code_of}
use Rattle.om_step.specs.declared.cause.Cause.{Cause}
use Rattle.om_step.specs.declared.cause.Cause.TheVariants.{Fetch, Illegal, Misaligned, Load, Store, Break}
use Rattle.om_step.specs.declared.outcome.Outcome.{Outcome}
use Rattle.om_step.specs.declared.outcome.Outcome.TheVariants.{Call, Stop}

-- ---- sizes

-- how many bytes some entries have behind a header, with an END behind them
abbrev pub size_of : Start → List Entry → ℕ
size_of start entries = length (header start ++ spellings entries) + 14

size_more : (start : Start) (xs ys : List Entry) → size_of start xs ≤ size_of start (xs ++ ys)
size_more start xs ys = simp (spellings_append xs ys, length-append) (omega arith)

le_from : (a b c : ℕ) → a ≤ b → b ≡ c → a ≤ c
le_from a b c h e = omega arith

-- the entries of more steps have no fewer bytes
size_below : (elf : Elf) (input : List ℕ) (limit last j n : ℕ) → j ≤ n
    → size_of (start_of elf.segments) (entries_below elf input limit last j) ≤ size_of (start_of elf.segments) (entries_below elf input limit last n)
size_below elf input limit last j zero h =
    let is : j ≡ 0 = omega arith in le_from _ _ _ (omega arith) (ap (λ (n : ℕ). size_of (start_of elf.segments) (entries_below elf input limit last n)) is)
size_below elf input limit last j (suc n) h =
    let next : entries_below elf input limit last (suc n) ≡ entries_below elf input limit last n ++ entries_at elf input limit last n =
    ap (entries_below elf input limit last) (sym (one_more n)) ∙ below_next elf input limit last n in
    elim (cases_lt j (suc n)) [
      | inl lower ↦ rw next (omega (arith, size_below elf input limit last j n (omega arith), size_more (start_of elf.segments) (entries_below elf input limit last n) (entries_at elf input limit last n)))
      | inr same ↦ let is : j ≡ suc n = omega arith in le_from _ _ _ (omega arith) (ap (λ (k : ℕ). size_of (start_of elf.segments) (entries_below elf input limit last k)) is)
    ]

-- the file has as many bytes as the entries that were logged
file_size : (elf : Elf) (input : List ℕ) (limit i : ℕ) (m : Moment) (logged : List Entry) (written : Written) (exit : Option ℕ)
    → IsAt elf input limit i m logged written exit → file_of written ≡ header (start_of elf.segments) ++ spellings logged
file_size elf input limit i m logged written exit at =
    ap (λ (s : Start). header s ++ written.body) at.begins ∙ ap (λ (body : List ℕ). header (start_of elf.segments) ++ body) at.spelled

-- ---- a full log

too_long_first : (elf : Elf) (input : List ℕ) (limit i : ℕ) → i ≤ last_of elf input limit
    → most_bytes < size_of (start_of elf.segments) (entries_before elf input limit (i + 1))
    → size_of (start_of elf.segments) (entries_before elf input limit i) ≤ most_bytes → too_long_at elf input limit ≡ Some i
unfolding too_long_at
too_long_first elf input limit i h full before =
    find_first (λ k. nat_lt most_bytes (size_through elf input limit (last_of elf input limit) k)) (last_of elf input limit + 1) i (omega arith)
    (lt-ltb most_bytes (size_through elf input limit (last_of elf input limit) i) full)
    (λ k less. le-ltb most_bytes (size_through elf input limit (last_of elf input limit) k)
    (omega (arith, size_below elf input limit (last_of elf input limit) (k + 1) i (omega arith))))

too_long_none : (elf : Elf) (input : List ℕ) (limit : ℕ)
    → size_of (start_of elf.segments) (entries_before elf input limit (last_of elf input limit + 1)) ≤ most_bytes → too_long_at elf input limit ≡ None
unfolding too_long_at
too_long_none elf input limit short =
    find_none (λ k. nat_lt most_bytes (size_through elf input limit (last_of elf input limit) k)) (last_of elf input limit + 1)
    (λ k less. le-ltb most_bytes (size_through elf input limit (last_of elf input limit) k)
    (omega (arith, size_below elf input limit (last_of elf input limit) (k + 1) (last_of elf input limit + 1) (omega arith))))

full_size : (start : Start) (logged more rest : List Entry) (body : List ℕ) (first : Start)
    → first ≡ start → body ≡ spellings logged → most_bytes < length (header first ++ (body ++ spellings more)) + 14
    → most_bytes < size_of start ((logged ++ more) ++ rest)
full_size start logged more rest body first begins spelled full =
    let size : length (header first ++ (body ++ spellings more)) ≡ length (header start ++ spellings (logged ++ more)) =
    ap (λ (s : Start). length (header s ++ (body ++ spellings more))) begins
    ∙ ap (λ (b : List ℕ). length (header start ++ (b ++ spellings more))) spelled
    ∙ ap (λ (b : List ℕ). length (header start ++ b)) (sym (spellings_append logged more)) in
    omega (arith, size, full, size_more start (logged ++ more) rest)

-- no log with these entries is written: memory was wanting, or they are the first that make it too long
pub made_full : (elf : Elf) (input : List ℕ) (limit i : ℕ) (m : Moment) (extra more rest : List Entry) (written : Written) (exit : Option ℕ) (fault : RecordFault)
    → IsAt elf input limit i m (entries_before elf input limit i ++ extra) written exit
    → entries_before elf input limit (i + 1) ≡ ((entries_before elf input limit i ++ extra) ++ more) ++ rest
    → IsFull written more i fault → Makes (recorded_by (too_long_at elf input limit) (log_of elf input limit) (ending_of elf input limit)) (Err fault)
made_full elf input limit i m extra more rest written exit NoMemory at is full = tt
made_full elf input limit i m extra more rest written exit (NoRoom a b) at is full = absurd full
made_full elf input limit i m extra more rest written exit (TooLong j) at is full =
    let start = start_of elf.segments in
    let logged = entries_before elf input limit i ++ extra in
    let long : most_bytes < size_of start (entries_before elf input limit (i + 1)) =
    rw is (full_size start logged more rest written.body written.start at.begins at.spelled full.1) in
    let short : size_of start (entries_before elf input limit i) ≤ most_bytes =
    omega (arith, size_more start (entries_before elf input limit i) extra, ap length (file_size elf input limit i m logged written exit at), at.room) in
    rw (too_long_first elf input limit i (at_most_last elf input limit i at.within at.unended) long short) (ap too_long (sym full.0))

-- ---- the end

-- the end of a run where the recorder stands with the mark of its step logged
pub record IsEnd (elf : Elf) (input : List ℕ) (limit i : ℕ) (e : RunEnd) : Type 0 where
  pub ending : ending_of elf input limit ≡ e
  pub step : e.step ≡ i
  pub small : i < 2 ^ 64
  pub cause : e.cause ≤ 2
  pub value : e.value < 2 ^ 32
  pub cut : e.cause ≡ 1 → e.value ≡ 0

end_exit : (elf : Elf) (input : List ℕ) (limit i value : ℕ) (m : Moment) (logged : List Entry) (written : Written)
    → IsAt elf input limit i m logged written (Some value) → i < 2 ^ 64 → value < 2 ^ 32
    → IsEnd elf input limit i (record { step = i; cause = 0; value = value })
end_exit elf input limit i value m logged written at small value_small = record {
  ending = ending_there elf input limit i _ (ending_of elf input limit) (is_ending elf input limit) at.within at.unended
      (ap (λ (o : Option RunEnd). option_or o (if nat_lt i limit then end_by_stop (outcome (moment_at elf input i).state) i else None)) at.exits);
  step = refl;
  small = small;
  cause = omega arith;
  value = value_small;
  cut = λ h. absurd (omega arith);
}

end_cut : (elf : Elf) (input : List ℕ) (limit i : ℕ) (m : Moment) (logged : List Entry) (written : Written)
    → IsAt elf input limit i m logged written None → i < 2 ^ 64 → limit ≤ i → IsEnd elf input limit i (record { step = i; cause = 1; value = 0 })
end_cut elf input limit i m logged written at small late =
    let same : limit ≡ i = omega (arith, at.within) in
    let late_test : nat_lt i limit ≡ false = le-ltb i limit late in
    let here : end_at elf input limit i ≡ None =
    end_here elf input limit i m at.stands at.exits ∙ ap (λ (b : Bool). if b then end_by_stop (outcome m.state) i else None) late_test in
    record {
      ending = ending_cut elf input limit (ending_of elf input limit) (is_ending elf input limit) (λ j h. none_ended elf input limit i at.unended here j (omega arith)) ∙ ap cut same;
      step = refl;
      small = small;
      cause = omega arith;
      value = omega arith;
      cut = λ h. refl;
    }

late_end : (b : Bool) (x e : RunEnd) → (if b then None else Some x) ≡ Some e → (b ≡ false) × (x ≡ e)
late_end true x e is = cc
late_end false x e is = (refl, cc)

-- an end that is known before the machine goes on
pub end_known : (elf : Elf) (input : List ℕ) (limit i : ℕ) (m : Moment) (logged : List Entry) (written : Written) (exit : Option ℕ) (e : RunEnd)
    → IsAt elf input limit i m logged written exit → known_ending exit i limit ≡ Some e → i < 2 ^ 64 → e.value < 2 ^ 32 → IsEnd elf input limit i e
end_known elf input limit i m logged written None e at is small value =
    let late = late_end (nat_lt i limit) (record { step = i; cause = 1; value = 0 }) e is in
    subst (IsEnd elf input limit i) late.1 (end_cut elf input limit i m logged written at small (ltb-false i limit late.0))
end_known elf input limit i m logged written (Some v) e at is small value =
    let there : record { step = i; cause = 0; value = v } ≡ e = cc in
    let same = ap (λ (x : RunEnd). x.value) there in
    subst (IsEnd elf input limit i) there (end_exit elf input limit i v m logged written at small (omega (arith, same, value)))

none_late : (b : Bool) (x : RunEnd) → (if b then None else Some x) ≡ None → b ≡ true
none_late true x is = refl
none_late false x is = cc

-- where none is known, no exit was made, and the limit is behind
pub goes_on : (exit : Option ℕ) (i limit : ℕ) → known_ending exit i limit ≡ None → (exit ≡ None) × (i < limit)
goes_on None i limit is = (refl, ltb-true i limit (none_late (nat_lt i limit) (record { step = i; cause = 1; value = 0 }) is))
goes_on (Some v) i limit is = cc

code_small : (cause : Cause) → code_of cause < 2 ^ 32
code_small Fetch = omega arith
code_small Illegal = omega arith
code_small Misaligned = omega arith
code_small Load = omega arith
code_small Store = omega arith
code_small Break = omega arith

pub end_stop : (elf : Elf) (input : List ℕ) (limit i : ℕ) (m : Moment) (logged : List Entry) (written : Written) (cause : Cause)
    → IsAt elf input limit i m logged written None → i < limit → limit < 2 ^ 64 → outcome m.state ≡ Stop cause
    → IsEnd elf input limit i (record { step = i; cause = 2; value = code_of cause })
end_stop elf input limit i m logged written cause at early small stops =
    let early_test : nat_lt i limit ≡ true = lt-ltb i limit early in
    record {
      ending = ending_there elf input limit i _ (ending_of elf input limit) (is_ending elf input limit) at.within at.unended
          (end_here elf input limit i m at.stands at.exits
          ∙ ap (λ (b : Bool). if b then end_by_stop (outcome m.state) i else None) early_test ∙ ap (λ (o : Outcome). end_by_stop o i) stops);
      step = refl;
      small = omega arith;
      cause = omega arith;
      value = code_small cause;
      cut = λ h. absurd (omega arith);
    }

-- ---- the regions

-- of regions without an overlap the last two share no address
last_apart : (n : ℕ) (regions : List Region) (s h : Region) → overlap_from n (regions ++ s ∷ h ∷ []) ≡ None → shares s h ≡ false
last_apart n [] s h is = (position_none (shares s) h [] (overlap_parts n s (h ∷ []) is).0).0
last_apart n (r ∷ rs) s h is = last_apart (n + 1) rs s h (overlap_parts n r (rs ++ s ∷ h ∷ []) is).1

apart_start : (images : List Image) (start : Start) → overlap_of (regions_of images start) ≡ None → spans.shares (stack_span start) (heap_span start) ≡ false
unfolding filled_of
apart_start images start none =
    let segments = map segment_of (filter (λ (image : Image). nat_lt 0 image.memsz) images) in
    let regions = map (λ (f : Filled). f.region) segments in
    let split : regions_of images start ≡ regions ++ (stack_of start).region ∷ (heap_of start).region ∷ [] =
    map-append (λ (f : Filled). f.region) segments (stack_of start ∷ heap_of start ∷ []) in
    let last = regions ++ (stack_of start).region ∷ (heap_of start).region ∷ [] in
    last_apart 0 regions (stack_of start).region (heap_of start).region (sym (overlap_of-from last) ∙ ap overlap_of (sym split) ∙ none)

-- ---- the log

entries_end : (elf : Elf) (input : List ℕ) (limit i : ℕ) (m : Moment) (e : RunEnd) → moment_at elf input i ≡ m → IsEnd elf input limit i e
    → entries_before elf input limit (last_of elf input limit + 1) ≡ entries_before elf input limit i ++ mark_at limit i m
entries_end elf input limit i m e stands end =
    let last : last_of elf input limit ≡ i = ap (λ (x : RunEnd). x.step) end.ending ∙ end.step in
    ap (λ (n : ℕ). entries_before elf input limit (n + 1)) last ∙ below_next elf input limit (last_of elf input limit) i
    ∙ ap (λ (more : List Entry). entries_before elf input limit i ++ more) (at_last elf input limit (last_of elf input limit) i m stands (omega arith))

entries_are : (elf : Elf) (input : List ℕ) (limit i : ℕ) (m : Moment) (e : RunEnd) → moment_at elf input i ≡ m → IsEnd elf input limit i e
    → entries_of elf input limit ≡ (entries_before elf input limit i ++ mark_at limit i m) ++ end_entry e ∷ []
unfolding entries_of
entries_are elf input limit i m e stands end =
    ap (λ (x : RunEnd). entries_before elf input limit (last_of elf input limit + 1) ++ end_entry x ∷ []) end.ending
    ∙ ap (λ (logged : List Entry). logged ++ end_entry e ∷ []) (entries_end elf input limit i m e stands end)

bytes_are : (elf : Elf) (input : List ℕ) (limit i : ℕ) (m : Moment) (e : RunEnd) (written : Written) (exit : Option ℕ)
    → IsAt elf input limit i m (entries_before elf input limit i ++ mark_at limit i m) written exit → IsEnd elf input limit i e
    → file_of written ++ spelling (end_entry e) ≡ bytes_of (log_of elf input limit)
bytes_are elf input limit i m e written exit at end =
    let start = start_of elf.segments in
    let logged = entries_before elf input limit i ++ mark_at limit i m in
    ap (λ (file : List ℕ). file ++ spelling (end_entry e)) (file_size elf input limit i m logged written exit at)
    ∙ append_assoc (header start) (spellings logged) (spelling (end_entry e))
    ∙ ap (λ (last : List ℕ). header start ++ (spellings logged ++ last)) (sym (spellings_one (end_entry e)))
    ∙ ap (λ (body : List ℕ). header start ++ body) (sym (spellings_append logged (end_entry e ∷ [])))
    ∙ ap (λ (es : List Entry). header start ++ spellings es) (sym (entries_are elf input limit i m e at.stands end))

-- the log is made
pub made_end : (elf : Elf) (input : List ℕ) (limit i : ℕ) (m : Moment) (e : RunEnd) (written : Written) (exit : Option ℕ) (recorded : Recorded)
    → IsAt elf input limit i m (entries_before elf input limit i ++ mark_at limit i m) written exit → IsEnd elf input limit i e
    → recorded ≡ record { bytes = file_of written ++ spelling (end_entry e); steps = e.step; cause = e.cause; value = e.value }
    → Makes (recorded_by (too_long_at elf input limit) (log_of elf input limit) (ending_of elf input limit)) (Ok recorded)
made_end elf input limit i m e written exit recorded at end is =
    let start = start_of elf.segments in
    let logged = entries_before elf input limit i ++ mark_at limit i m in
    let short : size_of start (entries_before elf input limit (last_of elf input limit + 1)) ≤ most_bytes =
    rw (entries_end elf input limit i m e at.stands end) (omega (arith, ap length (file_size elf input limit i m logged written exit at), at.room)) in
    rw (too_long_none elf input limit short, end.ending, is, ← bytes_are elf input limit i m e written exit at end) refl

may_end : (elf : Elf) (input : List ℕ) (limit i : ℕ) (e : RunEnd) → IsEnd elf input limit i e → MayStand i (end_entry e)
unfolding Fits HasCause step_of
may_end elf input limit i e end = record {
  fits = (omega (arith, end.step, end.small), omega (arith, end.cause), end.value);
  cause = (end.cause, end.cut);
  step = omega (arith, end.step);
}

is_end : (e : RunEnd) → IsEndEntry (end_entry e)
unfolding IsEndEntry
is_end e = tt

-- the regions of the header are lawful
fits_start : (images : List Image) → HasRoom (start_of images) → FitsStart (start_of images)
unfolding start_of
fits_start images room = record {
  stack_low = omega arith;
  stack_size = omega arith;
  heap_low = omega (arith, room.heap_end);
  heap_size = omega arith;
}

-- and it is a log
pub log_end : (elf : Elf) (input : List ℕ) (limit i : ℕ) (m : Moment) (e : RunEnd) (written : Written) (exit : Option ℕ) (recorded : Recorded)
    → IsAt elf input limit i m (entries_before elf input limit i ++ mark_at limit i m) written exit → IsEnd elf input limit i e
    → recorded ≡ record { bytes = file_of written ++ spelling (end_entry e); steps = e.step; cause = e.cause; value = e.value }
    → (start : Start) → start ≡ start_of elf.segments → HasRoom start → overlap_of (regions_of elf.segments start) ≡ None
    → IsLog recorded.bytes (log_of elf input limit)
log_end elf input limit i m e written exit recorded at end is start begins room apart =
    let logged = entries_before elf input limit i ++ mark_at limit i m in
    record {
      lawful = record {
        fits = fits_start elf.segments (rw begins at room);
        start = lawful_of (start_of elf.segments) (rw begins at room) (rw begins at (apart_start elf.segments start apart));
        entries = rw (entries_are elf input limit i m e at.stands end) (before_end 0 i logged (end_entry e) at.lawful (is_end e) (may_end elf input limit i e end));
        ended = rw (entries_are elf input limit i m e at.stands end) (end_there logged (end_entry e) (is_end e));
      };
      spelled = ap (λ (r : Recorded). r.bytes) is ∙ bytes_are elf input limit i m e written exit at end;
    }

-- ---- as the recorder's steps tell it

-- the mark of a step doesn't fit
pub mark_full : (elf : Elf) (input : List ℕ) (limit i step : ℕ) (m : Moment) (written : Written) (exit : Option ℕ) (fault : RecordFault)
    → IsAt elf input limit i m (entries_before elf input limit i) written exit → step ≡ i → IsFull written (mark_of limit step m.state) step fault
    → Makes (recorded_by (too_long_at elf input limit) (log_of elf input limit) (ending_of elf input limit)) (Err fault)
unfolding entries_at
mark_full elf input limit i step m written exit fault at is =
    rw is (λ (full : IsFull written (mark_of limit i m.state) i fault).
    let logged = entries_before elf input limit i in
    let last = last_of elf input limit in
    let calls = if nat_lt i last then call_of (start_of elf.segments) (outcome m.state) i m else [] in
    let split : entries_before elf input limit (i + 1) ≡ ((logged ++ []) ++ mark_of limit i m.state) ++ calls =
    below_next elf input limit last i
    ∙ ap (λ (n : Moment). logged ++ (mark_of limit i n.state ++ (if nat_lt i last then call_of (start_of elf.segments) (outcome n.state) i n else []))) at.stands
    ∙ sym (append_assoc logged (mark_of limit i m.state) calls)
    ∙ ap (λ (es : List Entry). (es ++ mark_of limit i m.state) ++ calls) (sym (entries_none logged)) in
    made_full elf input limit i m [] (mark_of limit i m.state) calls written exit fault (rw (entries_none logged) at) split full)

-- a call doesn't fit
pub call_full : (elf : Elf) (input : List ℕ) (limit i : ℕ) (m : Moment) (written : Written) (fault : RecordFault)
    → IsAt elf input limit i m (entries_before elf input limit i ++ mark_at limit i m) written None → i < limit → outcome m.state ≡ Call
    → (start : Start) → start ≡ start_of elf.segments → IsFull written (call_entry_at start i m ∷ []) i fault
    → Makes (recorded_by (too_long_at elf input limit) (log_of elf input limit) (ending_of elf input limit)) (Err fault)
call_full elf input limit i m written fault at early calls start is =
    rw is (λ (full : IsFull written (call_entry_at (start_of elf.segments) i m ∷ []) i fault).
    let logged = entries_before elf input limit i ++ mark_at limit i m in
    let call = call_entry_at (start_of elf.segments) i m in
    let unended = call_unended elf input limit i m at.stands at.exits at.unended calls in
    let before_last : i < last_of elf input limit = omega (arith, at_most_last elf input limit (i + 1) (omega arith) unended) in
    made_full elf input limit i m (mark_at limit i m) (call ∷ []) [] written None fault at
    (call_logged elf input limit i m at.stands calls before_last ∙ sym (entries_none (logged ++ call ∷ []))) full)

-- what finishing gives is made
pub made_finish : (elf : Elf) (input : List ℕ) (limit i : ℕ) (m : Moment) (e : RunEnd) (written : Written) (exit : Option ℕ) (result : Result Recorded RecordFault)
    → IsAt elf input limit i m (entries_before elf input limit i ++ mark_at limit i m) written exit → IsEnd elf input limit i e
    → IfOk result (λ (r : Recorded). r ≡ record { bytes = file_of written ++ spelling (end_entry e); steps = e.step; cause = e.cause; value = e.value })
    → IfErr result (λ (fault : RecordFault). fault ≡ NoMemory)
    → Makes (recorded_by (too_long_at elf input limit) (log_of elf input limit) (ending_of elf input limit)) result
made_finish elf input limit i m e written exit (Ok recorded) at end ok err = made_end elf input limit i m e written exit recorded at end ok
made_finish elf input limit i m e written exit (Err fault) at end ok err = rw err tt

pub log_finish : (elf : Elf) (input : List ℕ) (limit i : ℕ) (m : Moment) (e : RunEnd) (written : Written) (exit : Option ℕ) (result : Result Recorded RecordFault)
    → IsAt elf input limit i m (entries_before elf input limit i ++ mark_at limit i m) written exit → IsEnd elf input limit i e
    → IfOk result (λ (r : Recorded). r ≡ record { bytes = file_of written ++ spelling (end_entry e); steps = e.step; cause = e.cause; value = e.value })
    → (start : Start) → start ≡ start_of elf.segments → HasRoom start → overlap_of (regions_of elf.segments start) ≡ None
    → IfOk result (λ (r : Recorded). IsLog r.bytes (log_of elf input limit))
log_finish elf input limit i m e written exit (Ok recorded) at end ok start begins room apart =
    log_end elf input limit i m e written exit recorded at end ok start begins room apart
log_finish elf input limit i m e written exit (Err fault) at end ok start begins room apart = tt
