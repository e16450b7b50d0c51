-- What follows where a reader is a reading of a relation. Free of any format.
use Rattle.std.proofs.Common.{◌≡◌, ℕ, ◌+◌, List, [], ◌∷◌, ◌++◌, length, take, drop, Ok, Err, refl, sym, ap, subst, ◌∙◌, ◌⊎◌, inl, inr, append_assoc, length-append, arith}
use Rattle.std.specs.Prelude.{Result}
use Rattle.std.specs.Result.{result_map_both}
use Rattle.std.proofs.lemmas.List.{take-append-drop, drop_at}
use Rattle.std.proofs.Math.Seq.{take-append_seam}
use Rattle.om_base.specs.Reading.{EachFrom, GoesOn, InTurn, IsReading, NoMore, Reader, first_then, second_after, with_rest}

pub append-nil : {A : Type 0} (xs : List A) → xs ++ [] ≡ xs
append-nil [] = refl
append-nil (x ∷ xs) = ap (λ ys. x ∷ ys) (append-nil xs)

-- what stands before the same bytes is the same
pub same_text : (s u t v : List ℕ) → s ++ u ≡ t ++ v → u ≡ v → s ≡ t
same_text s u t v same rest =
    let size : length s ≡ length t = omega (arith, length-append s u, length-append t v, ap length same, ap length rest) in
    sym (take-append_seam s u) ∙ ap (take (length s)) same ∙ ap (λ n. take n (t ++ v)) size ∙ take-append_seam t v

pub ok_is : {A E : Type 0} (x y : A) → ◌≡◌ {A = Result A E} (Ok x) (Ok y) → x ≡ y
ok_is x y e = cc

size_ok : {A E : Type 0} (bytes : List ℕ) (r : Result (A × ℕ) E) (x : A) (rest : List ℕ)
    → result_map_both {U = A × List ℕ} (λ (y : A × ℕ). (y.0, drop y.1 bytes)) (λ e. e) r ≡ Ok (x, rest) → (size : ℕ) × (r ≡ Ok (x, size)) × (rest ≡ drop size bytes)
size_ok bytes (Ok y) x rest e =
    let pairs : (y.0, drop y.1 bytes) ≡ (x, rest) = ok_is (y.0, drop y.1 bytes) (x, rest) e in
    (y.1, ap (λ z. Ok (z, y.1)) (ap (λ p. p.0) pairs), sym (ap (λ p. p.1) pairs))
size_ok bytes (Err fault) x rest e = absurd cc

-- ---- one thing

module _ {A E : Type 0} {read : Reader A E} {R : List ℕ → A → Type 0} (law : IsReading read R) where
  -- what stands in front of the same bytes is one thing, before the same rest
  pub one_value : (s u t v : List ℕ) (x y : A) → R s x → R t y → s ++ u ≡ t ++ v → (x ≡ y) × (u ≡ v)
  one_value s u t v x y one other same =
      let pairs : (x, u) ≡ (y, v) = ok_is (x, u) (y, v) (sym (law.again s x u one) ∙ ap read same ∙ law.again t y v other) in
      (ap (λ p. p.0) pairs, ap (λ p. p.1) pairs)

  -- and in the same bytes
  pub one_text : (s u t v : List ℕ) (x y : A) → R s x → R t y → s ++ u ≡ t ++ v → s ≡ t
  one_text s u t v x y one other same = same_text s u t v same ((one_value s u t v x y one other same).1)

-- a reader that tells how many bytes it took, from what those bytes are and from what it answers in front of others
pub counted : {A E : Type 0} {read : List ℕ → Result (A × ℕ) E} {R : List ℕ → A → Type 0}
    → ((bytes : List ℕ) (x : A) (size : ℕ) → read bytes ≡ Ok (x, size) → R (take size bytes) x)
    → ((text rest : List ℕ) (x : A) → R text x → read (text ++ rest) ≡ Ok (x, length text))
    → IsReading (with_rest read) R
counted {A} {E} {read} {R} taken told = record {
  takes = λ bytes x rest e.
      let size = size_ok bytes (read bytes) x rest e in
      let whole : bytes ≡ take size.0 bytes ++ rest = sym (take-append-drop size.0 bytes) ∙ ap (λ back. take size.0 bytes ++ back) (sym size.2) in
      (take size.0 bytes, whole, taken bytes x size.0 size.1);
  again = λ text x rest is.
      rw (told text rest x is, drop_at text rest (length text) refl) refl;
}

-- ---- one thing after another

second_ok : {A B E : Type 0} (second : A → Reader B E) (o : Result (A × List ℕ) E) (y : B × List ℕ) → second_after second o ≡ Ok y
    → (x : A × List ℕ) × (o ≡ Ok x) × (second x.0 x.1 ≡ Ok y)
second_ok second (Ok x) y e = (x, refl, e)
second_ok second (Err fault) y e = absurd cc

pub in_turn : {A B E : Type 0} {first : Reader A E} {second : A → Reader B E} {R : List ℕ → A → Type 0} {S : A → List ℕ → B → Type 0}
    → IsReading first R → ((x : A) → IsReading (second x) (S x)) → IsReading (first_then first second) (InTurn R S)
in_turn {A} {B} {E} {first} {second} {R} {S} one other = record {
  takes = λ bytes y rest e.
      let x = second_ok second (first bytes) (y, rest) e in
      let p = one.takes bytes x.0.0 x.0.1 x.1 in
      let q = (other x.0.0).takes x.0.1 y rest x.2 in
      let whole : bytes ≡ (p.0 ++ q.0) ++ rest = p.1 ∙ ap (λ back. p.0 ++ back) q.1 ∙ sym (append_assoc p.0 q.0 rest) in
      (p.0 ++ q.0, whole, record { first = x.0.0; front = p.0; back = q.0; parts = refl; is_first = p.2; is_second = q.2 });
  again = λ text y rest it.
      let split : text ++ rest ≡ it.front ++ (it.back ++ rest) = ap (λ bytes. bytes ++ rest) it.parts ∙ append_assoc it.front it.back rest in
      let left : first (text ++ rest) ≡ Ok (it.first, it.back ++ rest) = ap first split ∙ one.again it.front it.first (it.back ++ rest) it.is_first in
      ap (second_after second) left ∙ (other it.first).again it.back y rest it.is_second;
}

-- ---- lists of things

module _ {X : Type 0} (R : ℕ → List ℕ → X → Type 0) where
  -- none are no bytes
  pub each_none : (at : ℕ) → EachFrom R at [] []
  each_none at = refl

  -- one thing more behind a list of them
  pub each_more : (at : ℕ) (xs : List X) (front text : List ℕ) (x : X) → EachFrom R at xs front → R (at + length front) text x → EachFrom R at (xs ++ x ∷ []) (front ++ text)
  each_more at [] front text x none one =
      let size : at + length front ≡ at = omega (arith, ap length none) in
      (text, [], ap (λ bytes. bytes ++ text) none ∙ sym (append-nil text), subst (λ place. R place text x) size one, refl)
  each_more at (w ∷ xs) front text x each one =
      let place : at + length front ≡ at + length each.0 + length each.1 = omega (arith, length-append each.0 each.1, ap length each.2) in
      let others = each_more (at + length each.0) xs each.1 text x each.4 (subst (λ place. R place text x) place one) in
      (each.0, each.1 ++ text, ap (λ bytes. bytes ++ text) each.2 ∙ append_assoc each.0 each.1 text, each.3, others)

  behind : (at : ℕ) (x y : X) (f g s b u t c v : List ℕ) (xs ys : List X) → x ≡ y → f ≡ g → s ≡ f ++ b → t ≡ g ++ c
      → GoesOn R (at + length f) xs b u ys c v → GoesOn R at (x ∷ xs) s u (y ∷ ys) t v
  behind at x y f g s b u t c v xs ys one same s_is t_is on =
      let things : y ∷ ys ≡ x ∷ (xs ++ on.others) = ap (λ z. z ∷ ys) (sym one) ∙ ap (λ zs. x ∷ zs) on.things in
      let text : t ≡ s ++ on.between =
      t_is ∙ ap (λ h. h ++ c) (sym same) ∙ ap (λ d. f ++ d) on.text ∙ sym (append_assoc f b on.between) ∙ ap (λ h. h ++ on.between) (sym s_is) in
      let place : at + length f + length b ≡ at + length s = omega (arith, length-append f b, ap length s_is) in
      record { others = on.others; between = on.between; things = things; text = text; rest = on.rest; each = subst (λ n. EachFrom R n on.others on.between) place on.each }

  none_first : (at : ℕ) (s u t v : List ℕ) (ys : List X) → s ≡ [] → EachFrom R at ys t → s ++ u ≡ t ++ v → GoesOn R at [] s u ys t v
  none_first at s u t v ys none each same =
      let place : at ≡ at + length s = omega (arith, ap length none) in
      let rest : u ≡ t ++ v = ap (λ h. h ++ u) (sym none) ∙ same in
      record { others = ys; between = t; things = refl; text = ap (λ h. h ++ t) (sym none); rest = rest; each = subst (λ n. EachFrom R n ys t) place each }

module _ {X E : Type 0} {read : ℕ → Reader X E} {R : ℕ → List ℕ → X → Type 0} (law : (at : ℕ) → IsReading (read at) (R at)) where
  -- of two lists of things in front of the same bytes, one goes on where the other ends, or they are the same
  pub same_front : (at : ℕ) (xs ys : List X) (s u t v : List ℕ) → EachFrom R at xs s → EachFrom R at ys t → s ++ u ≡ t ++ v
      → GoesOn R at xs s u ys t v ⊎ GoesOn R at ys t v xs s u
  same_front at [] ys s u t v one other same = inl (none_first R at s u t v ys one other same)
  same_front at (x ∷ xs) [] s u t v one other same = inr (none_first R at t v s u (x ∷ xs) other one (sym same))
  same_front at (x ∷ xs) (y ∷ ys) s u t v one other same =
      let apart : one.0 ++ (one.1 ++ u) ≡ other.0 ++ (other.1 ++ v) =
      sym (append_assoc one.0 one.1 u) ∙ ap (λ h. h ++ u) (sym one.2) ∙ same ∙ ap (λ h. h ++ v) other.2 ∙ append_assoc other.0 other.1 v in
      let firsts = one_value (law at) one.0 (one.1 ++ u) other.0 (other.1 ++ v) x y one.3 other.3 apart in
      let fronts = one_text (law at) one.0 (one.1 ++ u) other.0 (other.1 ++ v) x y one.3 other.3 apart in
      let place : at + length other.0 ≡ at + length one.0 = omega (arith, ap length fronts) in
      let back : EachFrom R (at + length one.0) ys other.1 = subst (λ n. EachFrom R n ys other.1) place other.4 in
      elim (same_front (at + length one.0) xs ys one.1 u other.1 v one.4 back firsts.1) [
        | inl on ↦ inl (behind R at x y one.0 other.0 s one.1 u t other.1 v xs ys firsts.0 fronts one.2 other.2 on)
        | inr on ↦ inr (behind R at y x other.0 one.0 t other.1 v s one.1 u ys xs (sym firsts.0) (sym fronts) other.2 one.2
            (subst (λ n. GoesOn R n ys other.1 v xs one.1 u) (sym place) on))
      ]

  alike : (place : ℕ) (xs ys others : List X) (between u v : List ℕ) → NoMore R place u → ys ≡ xs ++ others → u ≡ between ++ v → EachFrom R place others between
      → (xs ≡ ys) × (u ≡ v)
  alike place xs ys [] between u v no_more things rest none = (sym (things ∙ append-nil xs), rest ∙ ap (λ h. h ++ v) none)
  alike place xs ys (z ∷ zs) between u v no_more things rest each =
      absurd (no_more z each.0 (each.1 ++ v) (rest ∙ ap (λ h. h ++ v) each.2 ∙ append_assoc each.0 each.1 v) each.3)

  ends : (at : ℕ) (xs ys : List X) (s u t v : List ℕ) → NoMore R (at + length s) u → GoesOn R at xs s u ys t v → (xs ≡ ys) × (u ≡ v)
  ends at xs ys s u t v no_more on = alike (at + length s) xs ys on.others on.between u v no_more on.things on.rest on.each

  -- a list of things after which no thing stands is the only one in front of its bytes
  pub longest_once : (at : ℕ) (xs ys : List X) (s u t v : List ℕ) → EachFrom R at xs s → NoMore R (at + length s) u
      → EachFrom R at ys t → NoMore R (at + length t) v → s ++ u ≡ t ++ v → (xs ≡ ys) × (u ≡ v)
  longest_once at xs ys s u t v one no_more other no_other same =
      elim (same_front at xs ys s u t v one other same) [
        | inl on ↦ ends at xs ys s u t v no_more on
        | inr on ↦ (let turned = ends at ys xs t v s u no_other on in (sym turned.0, sym turned.1))
      ]
