-- What stands at the front of some bytes.
use Rattle.std.specs.Prelude.{ℕ, ℤ, nat_le, if◌then◌else◌, List, length, drop, Ok, Err}
use Rattle.std.specs.Result.{result_map_both}
use Rattle.om_base.specs.Leb.{uleb_of, sleb_of}
use Rattle.om_base.specs.Reading.{Reader, first_then, number_of, text_of, with_rest}
use Rattle.om_base.specs.declared.numbers.Num.{Num}
use Rattle.om_cfi.specs.declared.fields.Short.{Short}

abbrev pub short : Short
short = record {}

-- a reader that fails for one reason
abbrev pub failing : {A : Type 0} → Reader A Num → Reader A Short
failing read bytes = result_map_both (λ x. x) (λ _. short) (read bytes)

-- the number in so many bytes
unfoldable pub fixed : ℕ → Reader ℕ Short
fixed width = failing (with_rest (number_of width))

unfoldable pub unsigned : Reader ℕ Short
unsigned = failing (with_rest uleb_of)

unfoldable pub signed : Reader ℤ Short
signed = failing (with_rest sleb_of)

-- the bytes before the first zero
unfoldable pub text : Reader (List ℕ) Short
text = failing (with_rest text_of)

-- so many bytes, which aren't looked at
unfoldable pub skip_of : ℕ → Reader ℕ Short
skip_of size bytes = if nat_le size (length bytes) then Ok (size, drop size bytes) else Err short

-- a length, and then so many bytes
unfoldable pub block : Reader ℕ Short
block = first_then unsigned skip_of

-- a value of what is read
abbrev pub by : {A B : Type 0} → (A → B) → Reader A Short → Reader B Short
by value read bytes = result_map_both (λ x. (value x.0, x.1)) (λ e. e) (read bytes)
