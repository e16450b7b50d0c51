-- Where range lists end: the last entries of zeros, by the remainders of their places.
use Rattle.std.specs.Prelude.{◌≡◌, ℕ, ◌+◌, ◌%◌, ◌≤◌, ◌<◌, Bool, false, true, ◌&&◌, nat_eq, nat_le, List, length, slice_index_or, Option, Some, None, MatchOption, IfSome}
use Rattle.om_die.specs.RangeLists.{word}
use Rattle.om_names.specs.declared.list_ends.ListEnds.{ListEnds}

-- the four bytes at a place are there and zero
abbrev pub is_zero_at : List ℕ → ℕ → Bool
is_zero_at section at = nat_le (at + 4) (length section) && nat_eq (word section at) 0

-- a whole entry stands at a place, and ends a list
abbrev pub is_end_at : List ℕ → ℕ → Bool
is_end_at section at = is_zero_at section at && is_zero_at section (at + 4)

-- an entry ends a list at the place, if there is one
abbrev pub IsEnd : List ℕ → ℕ → Option ℕ → Type 0
IsEnd section remainder place = IfSome place (λ at. (at % 8 ≡ remainder) × (is_end_at section at ≡ true))

-- of the places with a remainder by 8 and below a bound at which an entry ends a list, the last, if there is one
pub record IsLastBelow (section : List ℕ) (remainder bound : ℕ) (place : Option ℕ) : Type 0 where
  pub is : IsEnd section remainder place
  pub last : (at : ℕ) → at % 8 ≡ remainder → at < bound → is_end_at section at ≡ true → MatchOption place ⊥ (λ p. at ≤ p)

-- ... of all places
pub record IsLastEnd (section : List ℕ) (remainder : ℕ) (place : Option ℕ) : Type 0 where
  pub is : IsEnd section remainder place
  pub last : (at : ℕ) → at % 8 ≡ remainder → is_end_at section at ≡ true → MatchOption place ⊥ (λ p. at ≤ p)

-- the last places for the remainders below a number
abbrev pub AreLast : List ℕ → ℕ → List (Option ℕ) → Type 0
AreLast section count places = (length places ≡ count) × ((remainder : ℕ) → remainder < count → IsLastEnd section remainder (slice_index_or places remainder None))

-- the last places for all remainders
abbrev pub AreEnds : List ℕ → ListEnds → Type 0
AreEnds section ends = AreLast section 8 ends.last

-- the last place, if there is one, isn't before an offset
abbrev pub reaches : ℕ → Option ℕ → Bool
reaches offset None = false
reaches offset (Some at) = nat_le offset at
