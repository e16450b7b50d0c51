-- The laws of call frame instructions.
use Rattle.std.proofs.Common.{◌≡◌, ℕ, ◌<◌, ◌≤◌, ◌⊎◌, inl, inr, cond, ltb, List, [], ◌∷◌, length, Option, Some, None, refl, sym, ap, ◌∙◌, arith}
use Rattle.std.specs.Prelude.{ℤ}
use Rattle.std.specs.Option.{option_and_then}
use Rattle.std.proofs.lemmas.Bool.{le-ltb, lt-ltb}
use Rattle.std.proofs.lemmas.List.Elements.{All-head, All-tail}
use Rattle.om_cfi.specs.Laws.{NoneBetween, locations}
use Rattle.om_cfi.specs.Rules.{Rules, done, moved, up_to}
use Rattle.om_cfi.specs.declared.instruction.Instruction.TheVariants as i
use Rattle.om_cfi.specs.declared.instruction.Item.{Item}
use Rattle.om_cfi.specs.declared.instruction.Item.TheVariants.{Broken, Known, Unknown}
use Rattle.om_cfi.specs.declared.rule.Factors.{Factors}

pub saved_again : (scale : ℤ) (rules : Rules) → length rules.saved < 64 → option_and_then (done scale i.Restore) (done scale i.Save rules) ≡ Some rules
unfolding done
saved_again scale rules few = rw (lt-ltb _ _ few) refl

same_side : (low high location : ℕ) → low ≤ high → (location ≤ low) ⊎ (high < location) → ltb low location ≡ ltb high location
same_side low high location order (inl below) = le-ltb _ _ below ∙ sym (le-ltb _ _ (omega (arith, below, order)))
same_side low high location order (inr above) = lt-ltb _ _ (omega (arith, above, order)) ∙ sym (lt-ltb _ _ above)

then_same : (f g : Rules → Option Rules) → ((rules : Rules) → f rules ≡ g rules) → (made : Option Rules) → option_and_then f made ≡ option_and_then g made
then_same f g same None = refl
then_same f g same (Some made) = same made

Apart : ℕ → ℕ → ℕ → Type 0
Apart low high location = (location ≤ low) ⊎ (high < location)

pub same_between : (factors : Factors) (low high first : ℕ) (instructions : List Item) (rules : Rules) → low ≤ high → NoneBetween low high (locations factors.code_alignment first instructions)
    → up_to factors low first instructions rules ≡ up_to factors high first instructions rules
unfolding locations up_to Apart
same_between factors low high first [] rules order none = refl
same_between factors low high first (Known x ∷ instructions) rules order none =
    ap (λ b. cond b (Some rules) (option_and_then (up_to factors low (moved factors.code_alignment first x) instructions) (done factors.data_alignment x rules)))
    (same_side low high first order (All-head (Apart low high) first _ none))
    ∙ ap (cond (ltb high first) (Some rules))
    (then_same (up_to factors low (moved factors.code_alignment first x) instructions) (up_to factors high (moved factors.code_alignment first x) instructions)
    (λ made. same_between factors low high (moved factors.code_alignment first x) instructions made order (All-tail (Apart low high) first _ none)) (done factors.data_alignment x rules))
same_between factors low high first (Unknown ∷ instructions) rules order none = ap (λ b. cond b (Some rules) None) (same_side low high first order (All-head (Apart low high) first [] none))
same_between factors low high first (Broken ∷ instructions) rules order none = ap (λ b. cond b (Some rules) None) (same_side low high first order (All-head (Apart low high) first [] none))
