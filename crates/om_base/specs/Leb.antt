-- LEB128, numbers of as many bytes as they need: DWARF 4, section 7.6.
use Rattle.std.specs.Prelude.{◌≡◌, ℕ, ◌+◌, ◌*◌, ◌%◌, ◌^◌, ◌<◌, ◌≤◌, nat_le, nat_lt, Bool, ◌&&◌, List, [], ◌∷◌, length, take, ℤ, pos, neg_ℤ, ◌-ℤ◌, ◌≤ℤ◌, ◌<ℤ◌, int_le, int_lt, Result, Ok, Err, if◌then◌else◌}
use Rattle.std.specs.List.{position_or_len}
use Rattle.std.specs.Result.{result_map_both}
use Rattle.om_base.specs.declared.numbers.Num.{Num}
use Rattle.om_base.specs.declared.numbers.Num.TheVariants.{LebLong, Short}

-- ---- the bytes

-- a byte that ends a number: bit 7 is clear
abbrev pub is_last : ℕ → Bool
is_last byte = nat_lt byte 128

-- the bytes of the number in front, up to the first byte that ends one, which is among the first ten
unfoldable pub leb_of : List ℕ → Result (List ℕ) Num
leb_of bytes =
    let last = position_or_len is_last bytes in
    if nat_le 10 last then Err LebLong
    else if nat_le (length bytes) last then Err Short
    else Ok (take (last + 1) bytes)

-- some bytes end with the only one of them that ends a number
abbrev pub IsLeb : List ℕ → Type 0
IsLeb [] = ⊥
IsLeb (b ∷ []) = b < 128
IsLeb (b ∷ c ∷ bs) = (128 ≤ b) × IsLeb (c ∷ bs)

-- ---- the values

-- the number in the low seven bits of each byte, the first byte the lowest
unfoldable pub sum_of : List ℕ → ℕ
sum_of [] = 0
sum_of (b ∷ bs) = b % 128 + 128 * sum_of bs

-- the last byte
unfoldable pub last_of : List ℕ → ℕ
last_of [] = 0
last_of (b ∷ []) = b
last_of (b ∷ c ∷ bs) = last_of (c ∷ bs)

-- the same bits in two's complement: bit 6 of the last byte, which ends a number, is the sign
unfoldable pub signed_of : List ℕ → ℤ
signed_of bytes =
    if nat_lt (last_of bytes) 64 then pos (sum_of bytes)
    else pos (sum_of bytes) -ℤ pos (128 ^ length bytes)

-- ---- what stands in front of some bytes, and in how many bytes

-- a second step, unless the first failed
abbrev pub result_then : {A B E : Type 0} → (A → Result B E) → Result A E → Result B E
result_then f (Ok x) = f x
result_then f (Err e) = Err e

-- of the bytes of a number, the number and how many bytes, if it has 64 bits
abbrev pub unsigned_in : List ℕ → Result (ℕ × ℕ) Num
unsigned_in text = if nat_lt (sum_of text) (2 ^ 64) then Ok (sum_of text, length text) else Err LebLong

-- the same with a sign
abbrev pub signed_in : List ℕ → Result (ℤ × ℕ) Num
signed_in text =
    if int_le (neg_ℤ (pos (2 ^ 63))) (signed_of text) && int_lt (signed_of text) (pos (2 ^ 63))
    then Ok (signed_of text, length text) else Err LebLong

-- the unsigned number in front, and how many bytes it has
unfoldable pub uleb_of : List ℕ → Result (ℕ × ℕ) Num
uleb_of bytes = result_then unsigned_in (leb_of bytes)

-- the signed number in front, and how many bytes it has
unfoldable pub sleb_of : List ℕ → Result (ℤ × ℕ) Num
sleb_of bytes = result_then signed_in (leb_of bytes)

-- what was read from a place on: the value, and the place after it
abbrev pub from_place : {A E : Type 0} → ℕ → Result (A × ℕ) E → Result (A × ℕ) E
from_place at read = result_map_both (λ x. (x.0, at + x.1)) (λ e. e) read

-- ---- relations

-- some bytes are an unsigned number, of this value
pub record IsUleb (text : List ℕ) (n : ℕ) : Type 0 where
  pub leb : IsLeb text
  pub few : length text ≤ 10
  pub value : n ≡ sum_of text
  pub fits : n < 2 ^ 64

-- some bytes are a signed number, of this value
pub record IsSleb (text : List ℕ) (z : ℤ) : Type 0 where
  pub leb : IsLeb text
  pub few : length text ≤ 10
  pub value : z ≡ signed_of text
  pub low : neg_ℤ (pos (2 ^ 63)) ≤ℤ z
  pub high : z <ℤ pos (2 ^ 63)
