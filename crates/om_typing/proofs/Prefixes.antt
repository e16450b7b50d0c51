-- Whether bytes are others, of which the first are there.
use Rattle.std.proofs.Common.{◌≡◌, ◌≢◌, ℕ, true, false, List, [], ◌∷◌, ◌++◌, ◌&&◌, Option, Some, None, refl, ap, ◌∙◌, ◌==◌, arith}
use Rattle.std.specs.Option.{MatchOption, option_map_or}
use Rattle.std.specs.Str.{bytes_eq}
use Rattle.std.proofs.lemmas.Bool.{false_from_ne_true}
use Rattle.std.proofs.lemmas.Bool.Decides.{nat_tests}
use Rattle.std.proofs.lemmas.Slice.Eq.{bytes_eq-Decides}
use denote.Ref.{Bor}

same_byte : (byte : ℕ) → (byte == byte) ≡ true
same_byte byte = grind (arith, nat_tests)

-- behind the same bytes the rest decides
behind_same : (front xs ys : List ℕ) → bytes_eq (front ++ xs) (front ++ ys) ≡ bytes_eq xs ys
behind_same [] xs ys = refl
behind_same (byte ∷ front) xs ys = ap (λ b. b && bytes_eq (front ++ xs) (front ++ ys)) (same_byte byte) ∙ behind_same front xs ys

pub behind_is : (whole front : List ℕ) (r : Option (Bor (List ℕ))) → MatchOption r ((rest : List ℕ) → whole ≢ front ++ rest) (λ x. whole ≡ front ++ x.now)
    → (more : List ℕ) → bytes_eq whole (front ++ more) ≡ option_map_or (λ rest. bytes_eq rest.now more) r false
behind_is whole front None apart more = false_from_ne_true _ (λ same. apart more ((bytes_eq-Decides whole (front ++ more)).0 same))
behind_is whole front (Some rest) is more = ap (λ w. bytes_eq w (front ++ more)) is ∙ behind_same front rest.now more
