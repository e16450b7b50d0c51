-- What stands at the front of some bytes.
use Rattle.std.specs.Prelude.{ℕ, zero, suc, ℤ, List, Result, Ok}
use Rattle.std.specs.Result.{result_map_both}
use Rattle.om_base.specs.Leb.{result_then, sleb_of, uleb_of}
use Rattle.om_base.specs.Reading.{Reader, number_of, text_of, with_rest}
use Rattle.om_base.specs.declared.numbers.Num.{Num}
use Rattle.om_line.specs.declared.fields.Broken.{Broken}

abbrev pub broken : Broken
broken = record {}

-- a reader that fails for one reason
abbrev pub failing : {A : Type 0} → Reader A Num → Reader A Broken
failing read bytes = result_map_both (λ x. x) (λ _. broken) (read bytes)

-- the number in so many bytes
unfoldable pub fixed : ℕ → Reader ℕ Broken
fixed width = failing (with_rest (number_of width))

unfoldable pub unsigned : Reader ℕ Broken
unsigned = failing (with_rest uleb_of)

unfoldable pub signed : Reader ℤ Broken
signed = failing (with_rest sleb_of)

-- the bytes before the first zero
unfoldable pub text : Reader (List ℕ) Broken
text = failing (with_rest text_of)

-- a value of what is read
abbrev pub by : {A B : Type 0} → (A → B) → Reader A Broken → Reader B Broken
by value read bytes = result_map_both (λ x. (value x.0, x.1)) (λ e. e) (read bytes)

-- the bytes behind so many unsigned numbers
unfoldable pub behind_numbers : ℕ → List ℕ → Result (List ℕ) Broken
behind_numbers zero bytes = Ok bytes
behind_numbers (suc count) bytes = result_then (λ x. behind_numbers count x.1) (unsigned bytes)
