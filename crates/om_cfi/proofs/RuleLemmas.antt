-- The rules, instruction by instruction.
use Rattle.std.proofs.Common.{◌≡◌, ℕ, ◌<◌, ◌≤◌, Bool, true, false, ◌||◌, List, [], ◌∷◌, length, Option, Some, None, refl, sym, ap, ◌∙◌, arith, ℤ, ◌*ℤ◌, ◌^◌, SFits, w64, to_z, of_z, pos, negsuc}
use Rattle.std.specs.Prelude.{unsigned_abs}
use mir.Syntax.{w128}
use Rattle.std.proofs.Math.Facts.{sfits_widen}
use Rattle.std.proofs.lemmas.Int.{fits_signed_mul, to_z-of_z}
use Rattle.std.specs.Option.{option_and_then}
use Rattle.std.specs.List.{list_any}
use Rattle.om_cfi.specs.Common.{breaks}
use Rattle.om_cfi.specs.Instructions.{item_in, items}
use Rattle.om_cfi.specs.Rules.{Rules, after, done}
use Rattle.om_cfi.specs.Running.{if_still, rules_of}
use Rattle.om_cfi.specs.declared.instruction.Instruction.{Instruction}
use Rattle.om_cfi.specs.declared.instruction.Item.{Item}
use Rattle.om_cfi.specs.declared.instruction.Item.TheVariants.{Broken, Known, Unknown}
use Rattle.om_cfi.specs.declared.running.Running.{Running}
use Rattle.om_cfi.proofs.BehindLemmas.{item_shorter, items_next}

pub no_items : (left : List ℕ) → length left ≡ 0 → items 0 left ≡ []
unfolding items
no_items [] none = refl
no_items (b ∷ left) none = absurd (omega arith)

pub some_items : (left rest : List ℕ) (byte : ℕ) → left ≡ byte ∷ rest → items 0 left ≡ (item_in byte rest).0 ∷ items 0 (item_in byte rest).1
some_items left rest byte is = ap (items 0) is ∙ items_next byte rest

pub left_shorter : (left rest tail : List ℕ) (byte : ℕ) → left ≡ byte ∷ rest → tail ≡ (item_in byte rest).1 → length tail < length left
left_shorter left rest tail byte is tail_is = omega (arith, ap length is, ap length tail_is, item_shorter byte rest)

-- ---- common instructions

pub after_none : (scale : ℤ) (left : List ℕ) (rules : Rules) → length left ≡ 0 → after scale (items 0 left) rules ≡ Some rules
unfolding after
after_none scale left rules none = ap (λ is. after scale is rules) (no_items left none)

after_item : (scale : ℤ) (item : Item) (items : List Item) (rules : Rules) → ((x : Instruction) → item ≡ Known x → ⊥) → after scale (item ∷ items) rules ≡ None
unfolding after
after_item scale (Known x) items rules other = absurd (other x refl)
after_item scale Unknown items rules other = refl
after_item scale Broken items rules other = refl

pub after_other : (scale : ℤ) (left rest : List ℕ) (byte : ℕ) (item : Item) (rules : Rules) → left ≡ byte ∷ rest → item ≡ (item_in byte rest).0 → ((x : Instruction) → item ≡ Known x → ⊥)
    → after scale (items 0 left) rules ≡ None
after_other scale left rest byte item rules is item_is other =
    ap (λ is. after scale is rules) (some_items left rest byte is) ∙ ap (λ i. after scale (i ∷ items 0 (item_in byte rest).1) rules) (sym item_is) ∙ after_item scale item (items 0 (item_in byte rest).1) rules other

pub after_known : (scale : ℤ) (left rest tail : List ℕ) (byte : ℕ) (item : Item) (instruction : Instruction) (rules : Rules) → left ≡ byte ∷ rest → item ≡ (item_in byte rest).0 → tail ≡ (item_in byte rest).1
    → item ≡ Known instruction → after scale (items 0 left) rules ≡ option_and_then (after scale (items 0 tail)) (done scale instruction rules)
unfolding after
after_known scale left rest tail byte item instruction rules is item_is tail_is known =
    ap (λ is. after scale is rules) (some_items left rest byte is) ∙ ap (λ i. after scale (i ∷ items 0 (item_in byte rest).1) rules) (sym item_is ∙ known)
    ∙ ap (λ t. option_and_then (after scale (items 0 t)) (done scale instruction rules)) (sym tail_is)

-- ---- what is still there

pub ended : (still : Bool) (running : Running) (made : Option Rules) → if_still still running ≡ made → still ≡ false → made ≡ None
ended still running made is not_still = sym is ∙ ap (λ b. if_still b running) not_still

pub goes : (still : Bool) (running : Running) (made : Option Rules) → if_still still running ≡ made → still ≡ true → made ≡ Some (rules_of running)
goes still running made is still_is = sym is ∙ ap (λ b. if_still b running) still_is

-- ---- products

abs_small : (z : ℤ) → SFits w64 z → unsigned_abs z ≤ 2 ^ 63
abs_small (pos n) fits = omega (arith, fits.sfits)
abs_small (negsuc n) fits = omega (arith, fits.sfits)

pub product_is : (z s : ℤ) → SFits w64 z → SFits w64 s → to_z w128 (of_z w128 (to_z w128 (of_z w128 (to_z w64 (of_z w64 z))) *ℤ to_z w128 (of_z w128 (to_z w64 (of_z w64 s))))) ≡ z *ℤ s
product_is z s z_fits s_fits =
    let z_wide : SFits w128 z = sfits_widen tt z_fits in
    let s_wide : SFits w128 s = sfits_widen tt s_fits in
    let product_fits : SFits w128 (z *ℤ s) = fits_signed_mul w128 z s (2 ^ 63) (2 ^ 63) (abs_small z z_fits) (abs_small s s_fits) (omega arith) in
    simp to_z-of_z refl

-- ---- instructions that break off

pub broken_next : (left rest tail : List ℕ) (byte : ℕ) (item : Item) → left ≡ byte ∷ rest → item ≡ (item_in byte rest).0 → tail ≡ (item_in byte rest).1
    → list_any breaks (items 0 left) ≡ (breaks item || list_any breaks (items 0 tail))
broken_next left rest tail byte item is item_is tail_is =
    ap (list_any breaks) (some_items left rest byte is) ∙ ap (λ i. breaks i || list_any breaks (items 0 (item_in byte rest).1)) (sym item_is) ∙ ap (λ t. breaks item || list_any breaks (items 0 t)) (sym tail_is)

pub broken_none : (left : List ℕ) → length left ≡ 0 → list_any breaks (items 0 left) ≡ false
broken_none left none = ap (list_any breaks) (no_items left none)
