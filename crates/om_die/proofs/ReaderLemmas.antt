-- What follows where a reader fails or goes on. Free of any format.
use Rattle.std.proofs.Common.{◌≡◌, ℕ, List, [], ◌∷◌, ◌++◌, Ok, Err, refl, sym, ap, ◌∙◌, ◌⊎◌, inl, inr, append_assoc}
use Rattle.std.specs.Prelude.{Result}
use Rattle.std.specs.Result.{result_ok}
use Rattle.om_base.specs.Reading.{IsReading, NoMore, Reader, second_after}
use Rattle.om_base.proofs.ReadingLaws.{ok_is, one_text, one_value}
use Rattle.om_die.specs.Declarations.{IsFront}
use Rattle.om_die.specs.Laws.{HasOneReading}

-- ---- one thing

-- a reader of one relation reads another that says the same
pub same_reads : {A E : Type 0} {read : Reader A E} {R S : List ℕ → A → Type 0}
    → ((bytes : List ℕ) (x : A) → R bytes x → S bytes x) → ((bytes : List ℕ) (x : A) → S bytes x → R bytes x) → IsReading read R → IsReading read S
same_reads there back law = record {
  takes = λ bytes x rest e. let p = law.takes bytes x rest e in (p.0, p.1, there p.0 x p.2);
  again = λ front x rest is. law.again front x rest (back front x is);
}

module _ {A E : Type 0} {read : Reader A E} {R : List ℕ → A → Type 0} (law : IsReading read R) where
  pub reading_once : HasOneReading R
  reading_once s t u v x y one other same =
      let values = one_value law s u t v x y one other same in
      (values.0, one_text law s u t v x y one other same, values.1)

  -- nothing stands where a reader fails
  pub absent : (bytes : List ℕ) (why : E) → read bytes ≡ Err why → (front back : List ℕ) (x : A) → bytes ≡ front ++ back → R front x → ⊥
  absent bytes why e front back x parts is =
      let both = sym e ∙ ap read parts ∙ law.again front x back is in
      absurd cc

  front_none : (bytes : List ℕ) (why : E) → read bytes ≡ Err why → NoMore (λ _. R) 0 bytes
  front_none bytes why e = λ x front back parts is. absent bytes why e front back x parts is

  -- what a reader answers is what stands in front
  pub front_is : (bytes : List ℕ) (r : Result (A × List ℕ) E) → read bytes ≡ r → IsFront R bytes (result_ok r)
  front_is bytes (Ok x) e = law.takes bytes x.0 x.1 e
  front_is bytes (Err why) e = front_none bytes why e

  none_by : (bytes : List ℕ) (r : Result (A × List ℕ) E) → read bytes ≡ r → NoMore (λ _. R) 0 bytes → (why : E) × (r ≡ Err why)
  none_by bytes (Ok x) e none = let is = law.takes bytes x.0 x.1 e in absurd (none x.0 is.0 x.1 is.1 is.2)
  none_by bytes (Err why) e none = (why, refl)

  -- and where nothing stands, it fails
  pub none_fails : (bytes : List ℕ) → NoMore (λ _. R) 0 bytes → (why : E) × (read bytes ≡ Err why)
  none_fails bytes none = none_by bytes (read bytes) refl none

  pub some_reads : (bytes front rest : List ℕ) (x : A) → bytes ≡ front ++ rest → R front x → read bytes ≡ Ok (x, rest)
  some_reads bytes front rest x parts is = ap read parts ∙ law.again front x rest is

-- ---- one thing after another

pub second_ok : {A B E : Type 0} (second : A → Reader B E) (r : Result (A × List ℕ) E) (y : B × List ℕ) → second_after second r ≡ Ok y
    → (x : A × List ℕ) × (r ≡ Ok x) × (second x.0 x.1 ≡ Ok y)
second_ok second (Ok x) y e = (x, refl, e)
second_ok second (Err why) y e = absurd cc

pub second_why : {A B E : Type 0} (second : A → Reader B E) (r : Result (A × List ℕ) E) (why : E) → second_after second r ≡ Err why
    → (r ≡ Err why) ⊎ ((x : A × List ℕ) × (r ≡ Ok x) × (second x.0 x.1 ≡ Err why))
second_why second (Ok x) why e = inr (x, refl, e)
second_why second (Err other) why e = inl cc

-- ---- things behind others

-- what is read, behind other things
abbrev pub behind : {X E : Type 0} → List X → Result (List X × List ℕ) E → Result (List X × List ℕ) E
behind xs (Ok read) = Ok (xs ++ read.0, read.1)
behind xs (Err why) = Err why

pub behind_ok : {X E : Type 0} (xs : List X) (r : Result (List X × List ℕ) E) (ys : List X) (rest : List ℕ) → behind xs r ≡ Ok (ys, rest)
    → (zs : List X) × (r ≡ Ok (zs, rest)) × (ys ≡ xs ++ zs)
behind_ok xs (Ok read) ys rest e =
    let pairs : (xs ++ read.0, read.1) ≡ (ys, rest) = ok_is (xs ++ read.0, read.1) (ys, rest) e in
    (read.0, ap (λ back. Ok (read.0, back)) (ap (λ p. p.1) pairs), sym (ap (λ p. p.0) pairs))
behind_ok xs (Err why) ys rest e = absurd cc

pub behind_why : {X E : Type 0} (xs : List X) (r : Result (List X × List ℕ) E) (why : E) → behind xs r ≡ Err why → r ≡ Err why
behind_why xs (Ok read) why e = absurd cc
behind_why xs (Err other) why e = cc

pub behind_none : {X E : Type 0} (r : Result (List X × List ℕ) E) → behind [] r ≡ r
behind_none (Ok read) = refl
behind_none (Err why) = refl

pub behind_more : {X E : Type 0} (xs : List X) (x : X) (r : Result (List X × List ℕ) E) → behind xs (behind (x ∷ []) r) ≡ behind (xs ++ x ∷ []) r
behind_more xs x (Ok read) = ap (λ ys. Ok (ys, read.1)) (sym (append_assoc xs (x ∷ []) read.0))
behind_more xs x (Err why) = refl
