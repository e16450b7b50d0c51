-- Bytes that are printed in a line of text.
use Rattle.std.specs.Prelude.{ℕ, ◌+◌, ◌/◌, ◌%◌, List, [], ◌∷◌, flat_map, nat_lt, nat_eq, ◌||◌, if◌then◌else◌, Option, Some, None}

-- a hexadecimal digit, in lower case
abbrev pub hex_digit : ℕ → ℕ
hex_digit n = if nat_lt n 10 then 48 + n else 87 + n

-- the three bytes for a byte that isn't printed as it stands: a backslash and two digits
abbrev pub escape_of : ℕ → List ℕ
escape_of b = 92 ∷ hex_digit (b / 16) ∷ hex_digit (b % 16) ∷ []

-- a control character, DEL and the backslash aren't printed as they stand
abbrev pub escape_in : ℕ → Option (List ℕ)
escape_in b = if nat_lt b 32 || nat_eq b 127 || nat_eq b 92 then Some (escape_of b) else None

-- a byte as it is printed
abbrev pub escaped_byte : ℕ → List ℕ
escaped_byte b = if nat_lt b 32 || nat_eq b 127 || nat_eq b 92 then escape_of b else b ∷ []

-- bytes as they are printed, one after another
abbrev pub escaped : List ℕ → List ℕ
escaped bytes = flat_map escaped_byte bytes
