-- What a reader takes, if it takes all of some bytes.
use Rattle.std.proofs.Common.{◌≡◌, ◌≢◌, ℕ, ◌<◌, List, [], ◌∷◌, length, drop, Option, Some, None, Ok, Err, refl, sym, ap, subst, ◌∙◌, arith, length-drop}
use Rattle.std.specs.Prelude.{Result}
use Rattle.om_base.specs.Reading.{IsReading, number_of, with_rest}
use Rattle.om_base.specs.declared.numbers.Num.{Num}
use Rattle.om_base.proofs.FieldLaws.{number_reads}
use Rattle.om_base.proofs.ReadingLaws.{append-nil}
use Rattle.om_loc.specs.Places.{all_of, filling}

all_read : {A : Type 0} (o : Result (A × List ℕ) Num) (x : A) → all_of o ≡ Some x → o ≡ Ok (x, [])
all_read (Ok (y, [])) x is = cc
all_read (Ok (y, (byte ∷ bytes))) x is = absurd cc
all_read (Err why) x is = absurd cc

module _ {A : Type 0} (read : List ℕ → Result (A × ℕ) Num) {R : List ℕ → A → Type 0} (law : IsReading (with_rest read) R) where
  -- what fills some bytes is what they are
  pub fills : (text : List ℕ) (x : A) → filling read text ≡ Some x → R text x
  unfolding filling
  fills text x is =
      let stands = law.takes text x [] (all_read (with_rest read text) x is) in
      subst (λ bytes. R bytes x) (sym (stands.1 ∙ append-nil stands.0)) stands.2

  -- what some bytes are fills them
  pub filled : (text : List ℕ) (x : A) → R text x → filling read text ≡ Some x
  unfolding filling
  filled text x is =
      let told : with_rest read text ≡ Ok (x, []) = ap (with_rest read) (sym (append-nil text)) ∙ law.again text x [] is in
      ap all_of told

-- ---- what fills no bytes

some_behind : {A : Type 0} (x : A) (rest : List ℕ) → 0 < length rest → ◌≡◌ {A = Option A} (all_of (Ok (x, rest))) None
some_behind x [] more = absurd (omega (arith, more))
some_behind x (byte ∷ bytes) more = cc

-- what leaves bytes behind it
pub not_all : {A : Type 0} (read : List ℕ → Result (A × ℕ) Num) (bytes : List ℕ) (x : A) (size : ℕ) → read bytes ≡ Ok (x, size) → size < length bytes → filling read bytes ≡ None
unfolding filling
not_all read bytes x size is less = rw is (some_behind x (drop size bytes) (omega (arith, length-drop size bytes, less)))

no_number : (bytes : List ℕ) → length bytes ≢ 4 → (o : Option ℕ) → filling (number_of 4) bytes ≡ o → filling (number_of 4) bytes ≡ None
no_number bytes other None is = is
no_number bytes other (Some n) is = absurd (other ((fills (number_of 4) (number_reads 4) bytes n is).size))

-- a number of 4 bytes, where there are more or fewer
pub not_four : (bytes : List ℕ) → length bytes ≢ 4 → filling (number_of 4) bytes ≡ None
not_four bytes other = no_number bytes other (filling (number_of 4) bytes) refl
