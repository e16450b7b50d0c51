-- Lists of things in bytes, where each thing has one reading. Free of any format.
use Rattle.std.proofs.Common.{◌≡◌, ℕ, ◌+◌, ◌<◌, List, [], ◌∷◌, ◌++◌, length, refl, sym, ap, subst, ◌∙◌, ◌⊎◌, arith, inl, inr, length-append, append_assoc}
use Rattle.om_base.specs.Reading.{EachFrom}
use Rattle.om_die.specs.Laws.{HasOneReading}

-- ys goes on behind xs, with a thing at a place, in front of some bytes
pub record HasNext {X : Type 0} (R : ℕ → List ℕ → X → Type 0) (place : ℕ) (xs : List X) (bytes : List ℕ) (ys : List X) : Type 0 where
  pub next : X
  pub others : List X
  pub text : List ℕ
  pub rest : List ℕ
  pub things : ys ≡ xs ++ next ∷ others
  pub parts : bytes ≡ text ++ rest
  pub is : R place text next

pub record AreSame {X : Type 0} (xs ys : List X) (s t u v : List ℕ) : Type 0 where
  pub things : xs ≡ ys
  pub front : s ≡ t
  pub back : u ≡ v

module _ {X : Type 0} (R : ℕ → List ℕ → X → Type 0) (once : (at : ℕ) → HasOneReading (R at)) where
  next_behind : (at : ℕ) (x y : X) (f s b u : List ℕ) (xs ys : List X) → x ≡ y → s ≡ f ++ b → HasNext R (at + length f + length b) xs u ys → HasNext R (at + length s) (x ∷ xs) u (y ∷ ys)
  next_behind at x y f s b u xs ys one s_is on =
      let place : at + length f + length b ≡ at + length s = omega (arith, length-append f b, ap length s_is) in
      record {
        next = on.next;
        others = on.others;
        text = on.text;
        rest = on.rest;
        things = ap (λ z. z ∷ ys) (sym one) ∙ ap (λ zs. x ∷ zs) on.things;
        parts = on.parts;
        is = subst (λ n. R n on.text on.next) place on.is;
      }

  next_first : (at : ℕ) (s u t v : List ℕ) (y : X) (ys : List X) → s ≡ [] → EachFrom R at (y ∷ ys) t → s ++ u ≡ t ++ v → HasNext R (at + length s) [] u (y ∷ ys)
  next_first at s u t v y ys none each same =
      let place : at ≡ at + length s = omega (arith, ap length none) in
      let bytes : u ≡ each.0 ++ (each.1 ++ v) = ap (λ h. h ++ u) (sym none) ∙ same ∙ ap (λ h. h ++ v) each.2 ∙ append_assoc each.0 each.1 v in
      record { next = y; others = ys; text = each.0; rest = each.1 ++ v; things = refl; parts = bytes; is = subst (λ n. R n each.0 y) place each.3 }

  -- two lists of things in front of the same bytes are the same, or one goes on where the other ends
  pub compare : (at : ℕ) (xs ys : List X) (s u t v : List ℕ) → EachFrom R at xs s → EachFrom R at ys t → s ++ u ≡ t ++ v
      → AreSame xs ys s t u v ⊎ (HasNext R (at + length s) xs u ys ⊎ HasNext R (at + length t) ys v xs)
  compare at [] [] s u t v one other same =
      inl (record { things = refl; front = one ∙ sym other; back = ap (λ h. h ++ u) (sym one) ∙ same ∙ ap (λ h. h ++ v) other })
  compare at [] (y ∷ ys) s u t v one other same = inr (inl (next_first at s u t v y ys one other same))
  compare at (x ∷ xs) [] s u t v one other same = inr (inr (next_first at t v s u x xs other one (sym same)))
  compare at (x ∷ xs) (y ∷ ys) s u t v one other same =
      let apart : one.0 ++ (one.1 ++ u) ≡ other.0 ++ (other.1 ++ v) =
      sym (append_assoc one.0 one.1 u) ∙ ap (λ h. h ++ u) (sym one.2) ∙ same ∙ ap (λ h. h ++ v) other.2 ∙ append_assoc other.0 other.1 v in
      let firsts = once at one.0 other.0 (one.1 ++ u) (other.1 ++ v) x y one.3 other.3 apart in
      let place : at + length other.0 ≡ at + length one.0 = omega (arith, ap length firsts.1) in
      let back : EachFrom R (at + length one.0) ys other.1 = subst (λ n. EachFrom R n ys other.1) place other.4 in
      elim (compare (at + length one.0) xs ys one.1 u other.1 v one.4 back firsts.2) [
        | inl are ↦ inl (record {
          things = ap (λ z. z ∷ xs) firsts.0 ∙ ap (λ zs. y ∷ zs) are.things;
          front = one.2 ∙ ap (λ f. f ++ one.1) firsts.1 ∙ ap (λ b. other.0 ++ b) are.front ∙ sym other.2;
          back = are.back;
        })
        | inr (inl on) ↦ inr (inl (next_behind at x y one.0 s one.1 u xs ys firsts.0 one.2 on))
        | inr (inr on) ↦ inr (inr (next_behind at y x other.0 t other.1 v ys xs (sym firsts.0) other.2
            (subst (λ n. HasNext R (n + length other.1) ys v xs) (sym place) on)))
      ]

  module _ (some : (at : ℕ) (text : List ℕ) (x : X) → R at text x → 0 < length text) where
    pub nothing_next : (place : ℕ) (xs ys : List X) (bytes : List ℕ) → bytes ≡ [] → HasNext R place xs bytes ys → ⊥
    nothing_next place xs ys bytes none on = omega (arith, some place on.text on.next on.is, ap length on.parts, ap length none, length-append on.text on.rest)

    -- some bytes are one list of things
    pub one_list_of : (at : ℕ) (xs ys : List X) (text : List ℕ) → EachFrom R at xs text → EachFrom R at ys text → xs ≡ ys
    one_list_of at xs ys text one other =
        elim (compare at xs ys text [] text [] one other refl) [
          | inl are ↦ are.things
          | inr (inl on) ↦ absurd (nothing_next _ xs ys [] refl on)
          | inr (inr on) ↦ absurd (nothing_next _ ys xs [] refl on)
        ]
