-- What it is to read a thing from the front of some bytes, where a thing may have more than one spelling. It knows no format.
use Rattle.std.specs.Prelude.{◌≡◌, ◌≢◌, ℕ, ◌+◌, List, [], ◌∷◌, ◌++◌, length, take, drop, All, Result, Ok, Err, ok_or}
use Rattle.std.specs.Option.{option_map}
use Rattle.std.specs.Result.{result_map_both}
use Rattle.om_base.specs.Numbers.{le, number_at}
use Rattle.om_base.specs.Nul.{nul_from}
use Rattle.om_base.specs.declared.numbers.Num.{Num}
use Rattle.om_base.specs.declared.numbers.Num.TheVariants.{NoNul, Short}

-- ---- readers

-- what stands in front and the bytes after it, or why nothing could be read
abbrev pub Reader : Type 0 → Type 0 → Type 0
Reader A E = List ℕ → Result (A × List ℕ) E

-- what a function returned, seen by view, is what reading gives
abbrev pub Gives : {X Y E : Type 0} → (X → Y) → Result X E → Result Y E → Type 0
Gives view (Ok x) read = read ≡ Ok (view x)
Gives view (Err e) read = read ≡ Err e

-- a reader that tells how many bytes it took, as one that gives the bytes after them
abbrev pub with_rest : {A E : Type 0} → (List ℕ → Result (A × ℕ) E) → Reader A E
with_rest read bytes = result_map_both (λ x. (x.0, drop x.1 bytes)) (λ e. e) (read bytes)

-- one reader after another, which may depend on what the first read
abbrev pub second_after : {A B E : Type 0} → (A → Reader B E) → Result (A × List ℕ) E → Result (B × List ℕ) E
second_after second (Ok x) = second x.0 x.1
second_after second (Err e) = Err e

abbrev pub first_then : {A B E : Type 0} → Reader A E → (A → Reader B E) → Reader B E
first_then first second bytes = second_after second (first bytes)

-- ---- readers against relations

-- what is read stands in front, and what stands in front is read, whatever follows it
pub record IsReading {A E : Type 0} (read : Reader A E) (R : List ℕ → A → Type 0) : Type 0 where
  pub takes : (bytes : List ℕ) (x : A) (rest : List ℕ) → read bytes ≡ Ok (x, rest) → (text : List ℕ) × (bytes ≡ text ++ rest) × R text x
  pub again : (text : List ℕ) (x : A) (rest : List ℕ) → R text x → read (text ++ rest) ≡ Ok (x, rest)

-- a text is a thing and another after it, which may depend on the first
pub record InTurn {A B : Type 0} (R : List ℕ → A → Type 0) (S : A → List ℕ → B → Type 0) (text : List ℕ) (y : B) : Type 0 where
  pub first : A
  pub front : List ℕ
  pub back : List ℕ
  pub parts : text ≡ front ++ back
  pub is_first : R front first
  pub is_second : S first back y

-- from a place on, a text is these things one after another, each with the place where it begins
abbrev pub EachFrom : {X : Type 0} → (ℕ → List ℕ → X → Type 0) → ℕ → List X → List ℕ → Type 0
EachFrom R at [] text = text ≡ []
EachFrom R at (x ∷ xs) text = (front back : List ℕ) × (text ≡ front ++ back) × R at front x × EachFrom R (at + length front) xs back

-- no thing stands at a place in front of these bytes
abbrev pub NoMore : {X : Type 0} → (ℕ → List ℕ → X → Type 0) → ℕ → List ℕ → Type 0
NoMore {X} R at bytes = (x : X) (text tail : List ℕ) → bytes ≡ text ++ tail → R at text x → ⊥

-- two lists of things begin at one place, before u and before v: the second goes on where the first ends, or is the same
pub record GoesOn {X : Type 0} (R : ℕ → List ℕ → X → Type 0) (at : ℕ) (xs : List X) (s u : List ℕ) (ys : List X) (t v : List ℕ) : Type 0 where
  pub others : List X
  pub between : List ℕ
  pub things : ys ≡ xs ++ others
  pub text : t ≡ s ++ between
  pub rest : u ≡ between ++ v
  pub each : EachFrom R (at + length s) others between

-- ---- the least things

-- a text is a number of so many bytes, the lowest first
pub record IsNumber (width : ℕ) (text : List ℕ) (n : ℕ) : Type 0 where
  pub size : length text ≡ width
  pub value : n ≡ le text

-- a text is some bytes that aren't zero, and a zero after them
pub record IsText (text : List ℕ) (bytes : List ℕ) : Type 0 where
  pub no_zero : All (λ b. b ≢ 0) bytes
  pub ends : text ≡ bytes ++ 0 ∷ []

-- the number of so many bytes in front, and how many they are
abbrev pub number_of : ℕ → List ℕ → Result (ℕ × ℕ) Num
number_of width bytes = ok_or (option_map (λ n. (n, width)) (number_at width bytes 0)) Short

-- the bytes before the first zero in front, and how many bytes they are with it
abbrev pub text_of : List ℕ → Result (List ℕ × ℕ) Num
text_of bytes = ok_or (option_map (λ k. (take k bytes, k + 1)) (nul_from 0 bytes)) NoNul
