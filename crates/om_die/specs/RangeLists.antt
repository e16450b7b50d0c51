-- Range lists: DWARF 4, section 2.17.3 "Non-Contiguous Address Ranges".
use Rattle.std.specs.Prelude.{ℕ, ◌+◌, ◌-◌, ◌*◌, ◌%◌, ◌/◌, ◌^◌, ◌≡◌, Bool, ◌&&◌, nat_eq, nat_le, if◌then◌else◌, List, [], ◌∷◌, length, take, drop, map, position, Option, Some, None, Result, Ok, Err}
use Rattle.std.specs.List.{range_with_len}
use Rattle.std.specs.Option.{option_map}
use Rattle.om_base.specs.Numbers.{le}
use Rattle.om_base.specs.declared.span.Span.{Span}
use Rattle.om_die.specs.declared.fault.DieFault.{DieFault}
use Rattle.om_die.specs.declared.fault.DieFault.TheVariants as fault

-- the number of the four bytes at a place
abbrev pub word : List ℕ → ℕ → ℕ
word bytes at = le (take 4 (drop at bytes))

-- the whole entries of some bytes, each of two words
abbrev pub entries_in : List ℕ → List (ℕ × ℕ)
entries_in bytes = map (λ place. (word bytes (8 * place), word bytes (8 * place + 4))) (range_with_len 0 (length bytes / 8))

-- the entry in front of some bytes and the bytes behind it, if it is whole
unfoldable pub first_entry : List ℕ → Option ((ℕ × ℕ) × List ℕ)
first_entry bytes = if nat_le 8 (length bytes) then Some ((word bytes 0, word bytes 4), drop 8 bytes) else None

-- an entry ends a list
abbrev pub is_end : ℕ × ℕ → Bool
is_end entry = nat_eq entry.0 0 && nat_eq entry.1 0

-- the ranges of some entries, from a base address on, which an entry may choose anew; addresses are modulo 2^32, so that a range
-- up to the last address ends at 0 and is empty
unfoldable pub ranges_of : ℕ → List (ℕ × ℕ) → List Span
ranges_of base [] = []
ranges_of base (entry ∷ entries) =
    if nat_eq entry.0 (2 ^ 32 - 1) then ranges_of entry.1 entries
    else record { lo = (entry.0 + base) % 2 ^ 32; hi = (entry.1 + base) % 2 ^ 32 } ∷ ranges_of base entries

-- the list in front of some bytes, if it has an end
unfoldable pub range_list : ℕ → List ℕ → Option (List Span)
range_list base bytes = option_map (λ place. ranges_of base (take place (entries_in bytes))) (position is_end (entries_in bytes))

-- the answer for a list that begins at a place: its ranges, or that it has no end, or want of memory
abbrev pub IsRangesAnswer : ℕ → Option (List Span) → Result (List Span) DieFault → Type 0
IsRangesAnswer at list (Ok ranges) = list ≡ Some ranges
IsRangesAnswer at list (Err fault.NoMemory) = Unit {0}
IsRangesAnswer at list (Err told) = (list ≡ None) × (told ≡ fault.Short at)
