-- The bounds of a log that was made.
use Rattle.std.proofs.Common.{◌≡◌, ℕ, ◌+◌, ◌^◌, ◌≤◌, Bool, true, false, if◌then◌else◌, nat_lt, List, Option, Some, None, refl}
use Rattle.om_elf.specs.declared.elf.Elf.{Elf}
use Rattle.om_mem.specs.Contents.{overlap_of}
use Rattle.om_record.specs.Recording.{ending_of, heap_place, made, no_room, recorded_in, recording, start_of}
use Rattle.om_record.specs.declared.recorded.Recorded.{Recorded}
use Rattle.om_record.proofs.EndLemmas.{end_within, is_ending}
use Rattle.om_step.specs.First.{regions_of}

pub within_limit : (elf : Elf) (input : List ℕ) (limit : ℕ) → (ending_of elf input limit).step ≤ limit
within_limit elf input limit = end_within elf input limit (ending_of elf input limit) (is_ending elf input limit)

made_in : (o : Option (ℕ × ℕ)) (elf : Elf) (input : List ℕ) (limit : ℕ) (recorded : Recorded)
    → recorded_in o elf input limit ≡ made recorded → o ≡ None
made_in None elf input limit recorded is = refl
made_in (Some pair) elf input limit recorded is = cc

made_by : (b : Bool) (place : ℕ) (o : Option (ℕ × ℕ)) (elf : Elf) (input : List ℕ) (limit : ℕ) (recorded : Recorded)
    → (if b then no_room place place else recorded_in o elf input limit) ≡ made recorded → o ≡ None
made_by true place o elf input limit recorded is = cc
made_by false place o elf input limit recorded is = made_in o elf input limit recorded is

pub made_apart : (elf : Elf) (input : List ℕ) (limit : ℕ) (recorded : Recorded) → recording elf input limit ≡ made recorded
    → overlap_of (regions_of elf.segments (start_of elf.segments)) ≡ None
unfolding recording
made_apart elf input limit recorded is =
    made_by (nat_lt (2 ^ 32) ((start_of elf.segments).heap_low + (start_of elf.segments).heap_size)) (heap_place elf.segments)
    (overlap_of (regions_of elf.segments (start_of elf.segments))) elf input limit recorded is
