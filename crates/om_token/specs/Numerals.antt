-- Numerals: decimal digits, or `0x` or `0X` and hexadecimal digits.
use Rattle.std.specs.Prelude.{ℕ, ◌+◌, ◌*◌, ◌^◌, Bool, false, ◌&&◌, ◌||◌, List, [], ◌∷◌, fold, nat_lt, Option, Some, None, if◌then◌else◌, ◌==◌}
use Rattle.std.specs.Char.{digit_value, is_digit}
use Rattle.std.specs.List.{list_all}

-- the number that digits in a base write, the highest first
abbrev pub positional : ℕ → List ℕ → ℕ
positional base digits = fold (λ value digit. value * base + digit_value digit) 0 digits

-- there are digits in a base, and nothing else, and their number is below 2 ^ 64
abbrev pub is_number : ℕ → List ℕ → Bool
is_number base [] = false
is_number base (digit ∷ digits) =
    list_all (λ byte. is_digit byte base) (digit ∷ digits) && nat_lt (positional base (digit ∷ digits)) (2 ^ 64)

-- the number that these bytes write in a base
abbrev pub number_in : ℕ → List ℕ → Option ℕ
number_in base digits = if is_number base digits then Some (positional base digits) else None

-- the value of a numeral
unfoldable pub numeral_value : List ℕ → Option ℕ
numeral_value [] = None
numeral_value (first ∷ []) = number_in 10 (first ∷ [])
numeral_value (first ∷ second ∷ rest) =
    if first == 48 && (second == 120 || second == 88) then number_in 16 rest else number_in 10 (first ∷ second ∷ rest)
