-- Fields that are read from the front of some bytes, each with the bytes after it. They know no format.
use Rattle.std.specs.Prelude.{◌≡◌, ℕ, zero, suc, List, [], ◌∷◌, length, take, drop, Option, Some, None, nat_lt, if◌then◌else◌, option_and_then}
use Rattle.std.specs.Option.{option_map}
use Rattle.om_base.specs.Numbers.{le}

-- what stands in front and the bytes after it, or nothing where it isn't whole
abbrev pub Field : Type 0 → Type 0
Field A = List ℕ → Option (A × List ℕ)

infixl 10 ◌>>=◌
abbrev pub ◌>>=◌ : {A B : Type 0} → Option A → (A → Option B) → Option B
o >>= f = option_and_then f o

-- what a function returned, seen by view, is what reading gives
abbrev pub Reads : {X Y : Type 0} → (X → Y) → Option X → Option Y → Type 0
Reads view None read = read ≡ None
Reads view (Some x) read = read ≡ Some (view x)

-- so many bytes
unfoldable pub some_bytes : ℕ → Field (List ℕ)
some_bytes count bytes = if nat_lt (length bytes) count then None else Some (take count bytes, drop count bytes)

-- the number in so many bytes
unfoldable pub number : ℕ → Field ℕ
number width bytes = if nat_lt (length bytes) width then None else Some (le (take width bytes), drop width bytes)

-- a field, seen by a function
abbrev pub mapped : {A B : Type 0} → (A → B) → Field A → Field B
mapped f field bytes = do
  a ← field bytes
  Some (f a.0, a.1)

-- a field after another
abbrev pub both : {A B : Type 0} → Field A → Field B → Field (A × B)
both first second bytes = do
  a ← first bytes
  b ← second a.1
  Some ((a.0, b.0), b.1)

-- so many times one field
unfoldable pub times : {A : Type 0} → ℕ → Field A → Field (List A)
times zero field bytes = Some ([], bytes)
times (suc count) field bytes = do
  first ← field bytes
  others ← times count field first.1
  Some (first.0 ∷ others.0, others.1)

-- what stands behind so many times one field
abbrev pub behind : {A : Type 0} → ℕ → Field A → List ℕ → Option (List ℕ)
behind count field bytes = option_map (λ x. x.1) (times count field bytes)

-- a number in so many bytes, and the field of that size
abbrev pub led : {A : Type 0} → ℕ → (ℕ → Field A) → Field A
led width field bytes = do
  size ← number width bytes
  field size.0 size.1
