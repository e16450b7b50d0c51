-- Bytes in pieces are compared by as many at once as both first pieces have.
use Rattle.std.proofs.Common.{◌≡◌, ◌≢◌, ◌≤◌, ◌⊎◌, ℕ, zero, suc, List, [], ◌∷◌, ◌++◌, length, take, drop, refl, sym, ap, ◌∙◌, arith}
use Rattle.std.specs.Ordering.{nat_cmp, ordering_then}
use Rattle.std.specs.Cmp.Lexicographic.{slice_cmp}
use Rattle.std.specs.declared.cmp.Ordering.{Ordering}
use Rattle.std.specs.declared.cmp.Ordering.TheVariants.{Less, Equal, Greater}

then_then : (first second third : Ordering) → ordering_then first (ordering_then second third) ≡ ordering_then (ordering_then first second) third
then_then Less second third = refl
then_then Equal second third = refl
then_then Greater second third = refl

-- the first bytes of both decide, and those behind them where the first are the same
front_decides : (count : ℕ) (left right more_left more_right : List ℕ) → count ≤ length left → count ≤ length right
    → slice_cmp nat_cmp (left ++ more_left) (right ++ more_right) ≡ ordering_then (slice_cmp nat_cmp (take count left) (take count right)) (slice_cmp nat_cmp (drop count (left ++ more_left)) (drop count (right ++ more_right)))
front_decides zero left right more_left more_right fits also = refl
front_decides (suc count) [] right more_left more_right fits also = absurd (omega (arith, fits))
front_decides (suc count) (byte ∷ left) [] more_left more_right fits also = absurd (omega (arith, also))
front_decides (suc count) (byte ∷ left) (other ∷ right) more_left more_right fits also =
    ap (ordering_then (nat_cmp byte other)) (front_decides count left right more_left more_right (omega (arith, fits)) (omega (arith, also)))
    ∙ then_then (nat_cmp byte other) (slice_cmp nat_cmp (take count left) (take count right)) (slice_cmp nat_cmp (drop count (left ++ more_left)) (drop count (right ++ more_right)))

settled : (first second : Ordering) → first ≢ Equal → ordering_then first second ≡ first
settled Less second apart = refl
settled Equal second apart = absurd (apart refl)
settled Greater second apart = refl

-- the first pieces decide
pub front_apart : (count : ℕ) (left right more_left more_right : List ℕ) (order : Ordering) → count ≤ length left → count ≤ length right
    → order ≡ slice_cmp nat_cmp (take count left) (take count right) → order ≢ Equal → order ≡ slice_cmp nat_cmp (left ++ more_left) (right ++ more_right)
front_apart count left right more_left more_right order fits also is apart =
    sym (settled order (slice_cmp nat_cmp (drop count (left ++ more_left)) (drop count (right ++ more_right))) apart)
    ∙ ap (λ o. ordering_then o (slice_cmp nat_cmp (drop count (left ++ more_left)) (drop count (right ++ more_right)))) is
    ∙ sym (front_decides count left right more_left more_right fits also)

-- the first pieces are the same, and what is behind them decides
pub front_same : (count : ℕ) (left right more_left more_right : List ℕ) → count ≤ length left → count ≤ length right
    → Equal ≡ slice_cmp nat_cmp (take count left) (take count right)
    → slice_cmp nat_cmp (drop count (left ++ more_left)) (drop count (right ++ more_right)) ≡ slice_cmp nat_cmp (left ++ more_left) (right ++ more_right)
front_same count left right more_left more_right fits also is =
    ap (λ o. ordering_then o (slice_cmp nat_cmp (drop count (left ++ more_left)) (drop count (right ++ more_right)))) is
    ∙ sym (front_decides count left right more_left more_right fits also)

-- where one has no byte, their lengths decide
pub lengths_decide : (left right : List ℕ) → (length left ≡ 0) ⊎ (length right ≡ 0) → nat_cmp (length left) (length right) ≡ slice_cmp nat_cmp left right
lengths_decide [] [] none = refl
lengths_decide [] (byte ∷ right) none = grind (arith, none)
lengths_decide (byte ∷ left) [] none = grind (arith, none)
lengths_decide (byte ∷ left) (other ∷ right) none = absurd (omega (arith, none))
