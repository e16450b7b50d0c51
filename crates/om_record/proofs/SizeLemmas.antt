-- How many bytes a log that was made has.
use Rattle.std.proofs.Common.{◌≡◌, ℕ, suc, ◌+◌, ◌^◌, ◌≤◌, Bool, true, false, if◌then◌else◌, nat_lt, List, [], ◌∷◌, length, find, Option, Some, None, refl, ap, ◌∙◌, sym, arith, length-append}
use Rattle.std.specs.Option.{option_or}
use Rattle.std.proofs.lemmas.Bool.{ltb-false}
use Rattle.std.proofs.lemmas.List.Folds.{find-append}
use Rattle.om_base.specs.Limits.{most_bytes}
use Rattle.om_elf.specs.declared.elf.Elf.{Elf}
use Rattle.om_log.specs.Grammar.{spelling}
use Rattle.om_log.specs.LittleEndian.{le_bytes}
use Rattle.om_mem.specs.Contents.{overlap_of}
use Rattle.om_record.specs.Recording.{bytes_of, end_entry, ending_of, entries_below, entries_of, heap_place, log_of, made, no_room, recorded_by, recorded_in, recording, size_through, start_of, too_long_at}
use Rattle.om_record.specs.Progress.{last_of}
use Rattle.om_record.specs.declared.recorded.Recorded.{Recorded}
use Rattle.om_record.proofs.EndLemmas.{one_more}
use Rattle.om_record.proofs.TellingLemmas.{spellings_append, spellings_one}
use Rattle.om_run.specs.Run.{below}
use Rattle.om_run.specs.declared.logged.RunEnd.{RunEnd}
use Rattle.om_step.specs.First.{regions_of}

end_bytes : (e : RunEnd) → length (spelling (end_entry e)) ≡ 14
unfolding spelling le_bytes
end_bytes e = refl

second_none : (a b : Option ℕ) → option_or a b ≡ None → b ≡ None
second_none None b is = is
second_none (Some a) b is = cc

passes_none : (b : Bool) (n : ℕ) → (if b then Some n else None) ≡ None → b ≡ false
passes_none true n is = cc
passes_none false n is = refl

last_fails : (p : ℕ → Bool) (n : ℕ) → find p (below (suc n)) ≡ None → p n ≡ false
last_fails p n none =
    passes_none (p n) n (second_none (find p (below n)) (find p (n ∷ [])) (sym (find-append p (below n) (n ∷ [])) ∙ none))

short_last : (elf : Elf) (input : List ℕ) (limit : ℕ) → too_long_at elf input limit ≡ None
    → size_through elf input limit (last_of elf input limit) (last_of elf input limit) ≤ most_bytes
unfolding too_long_at
short_last elf input limit none =
    let last = last_of elf input limit in
    let p = λ (i : ℕ). nat_lt most_bytes (size_through elf input limit last i) in
    let fails = ltb-false most_bytes (size_through elf input limit last last)
    (last_fails p last (ap (λ (n : ℕ). find p (below n)) (sym (one_more last)) ∙ none)) in
    omega (arith, fails)

size_is : (elf : Elf) (input : List ℕ) (limit : ℕ) → length (bytes_of (log_of elf input limit))
    ≡ size_through elf input limit (last_of elf input limit) (last_of elf input limit)
unfolding entries_of
size_is elf input limit =
    let logged = entries_below elf input limit (last_of elf input limit) (last_of elf input limit + 1) in
    let e = ending_of elf input limit in
    simp (spellings_append logged (end_entry e ∷ []), spellings_one (end_entry e), length-append) (omega (arith, end_bytes e))

by_size : (o : Option ℕ) (elf : Elf) (input : List ℕ) (limit : ℕ) (recorded : Recorded) → too_long_at elf input limit ≡ o
    → recorded_by o (log_of elf input limit) (ending_of elf input limit) ≡ made recorded → length recorded.bytes ≤ most_bytes
by_size (Some i) elf input limit recorded is by = cc
by_size None elf input limit recorded is by =
    let same : recorded.bytes ≡ bytes_of (log_of elf input limit) = cc in
    omega (arith, ap length same, size_is elf input limit, short_last elf input limit is)

in_size : (o : Option (ℕ × ℕ)) (elf : Elf) (input : List ℕ) (limit : ℕ) (recorded : Recorded)
    → recorded_in o elf input limit ≡ made recorded → length recorded.bytes ≤ most_bytes
in_size None elf input limit recorded is = by_size (too_long_at elf input limit) elf input limit recorded refl is
in_size (Some pair) elf input limit recorded is = cc

if_size : (b : Bool) (place : ℕ) (o : Option (ℕ × ℕ)) (elf : Elf) (input : List ℕ) (limit : ℕ) (recorded : Recorded)
    → (if b then no_room place place else recorded_in o elf input limit) ≡ made recorded → length recorded.bytes ≤ most_bytes
if_size true place o elf input limit recorded is = cc
if_size false place o elf input limit recorded is = in_size o elf input limit recorded is

pub made_short : (elf : Elf) (input : List ℕ) (limit : ℕ) (recorded : Recorded) → recording elf input limit ≡ made recorded
    → length recorded.bytes ≤ most_bytes
unfolding recording
made_short elf input limit recorded is =
    if_size (nat_lt (2 ^ 32) ((start_of elf.segments).heap_low + (start_of elf.segments).heap_size)) (heap_place elf.segments)
    (overlap_of (regions_of elf.segments (start_of elf.segments))) elf input limit recorded is
