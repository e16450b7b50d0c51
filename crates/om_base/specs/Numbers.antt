-- Numbers of a fixed width in a file, lowest byte first.
use Rattle.std.specs.Prelude.{ℕ, ◌+◌, ◌*◌, List, [], ◌∷◌, length, take, drop, nat_le, Option, Some, None, if◌then◌else◌, unwrap_or}
use Rattle.std.specs.Option.{option_map}

-- the little-endian number of some bytes
unfoldable pub le : List ℕ → ℕ
le [] = 0
le (b ∷ bs) = b + 256 * le bs

-- so many bytes from a place, if they are there
abbrev pub bytes_at : ℕ → List ℕ → ℕ → Option (List ℕ)
bytes_at count bytes at = if nat_le (at + count) (length bytes) then Some (take count (drop at bytes)) else None

-- the number in so many bytes from a place, if they are there
unfoldable pub number_at : ℕ → List ℕ → ℕ → Option ℕ
number_at count bytes at = option_map le (bytes_at count bytes at)

-- the number of two bytes from a place, 0 where the bytes end before
abbrev pub half : List ℕ → ℕ → ℕ
half bytes at = unwrap_or (number_at 2 bytes at) 0

-- the number of four bytes from a place, 0 where the bytes end before
abbrev pub word : List ℕ → ℕ → ℕ
word bytes at = unwrap_or (number_at 4 bytes at) 0
