-- Rows as they are gathered, instruction by instruction.
use Rattle.std.proofs.Common.{◌≡◌, ℕ, ◌≤◌, max, List, [], ◌∷◌, ◌++◌, length, append_assoc, map, Option, Some, None, refl, sym, ap, ◌∙◌}
use Rattle.std.specs.Prelude.{ℤ}
use Rattle.std.proofs.lemmas.Bool.{le-ltb}
use Rattle.std.proofs.lemmas.List.{append-nil, map-append}
use Rattle.om_claims.specs.declared.claim.Claim.{Claim}
use Rattle.om_cfi.specs.Instructions.{item_in, items}
use Rattle.om_cfi.specs.Rows.{Row, claims_in, risen, row, rows_after, rows_then, with_rows}
use Rattle.om_cfi.specs.Rules.{Rules, done, in_force, moved}
use Rattle.om_cfi.specs.declared.instruction.Instruction.{Instruction}
use Rattle.om_cfi.specs.declared.instruction.Item.{Item}
use Rattle.om_cfi.specs.declared.instruction.Item.TheVariants.{Broken, Known, Unknown}
use Rattle.om_cfi.specs.declared.rows.Rows.{Rows}
use Rattle.om_cfi.specs.declared.rule.Factors.{Factors}
use Rattle.om_cfi.proofs.RuleLemmas.{no_items, some_items}

-- ---- rows behind rows

rows_by : List (Option (ℕ × ℤ)) → List Claim → Rows
rows_by rules claims = record { rules = rules; claims = claims }

pub with_none : (rows : Rows) → with_rows rows [] ≡ rows
unfolding with_rows rows_by
with_none rows = ap (λ rules. rows_by rules (rows.claims ++ [])) (append-nil rows.rules) ∙ ap (rows_by rows.rules) (append-nil rows.claims)

pub with_both : (rows : Rows) (xs ys : List Row) → with_rows (with_rows rows xs) ys ≡ with_rows rows (xs ++ ys)
unfolding with_rows rows_by
with_both rows xs ys =
    ap (λ rules. rows_by rules ((rows.claims ++ claims_in xs) ++ claims_in ys))
    (append_assoc rows.rules (map (λ r. r.0) xs) (map (λ r. r.0) ys) ∙ ap (λ rs. rows.rules ++ rs) (sym (map-append (λ r. r.0) xs ys)))
    ∙ ap (rows_by (rows.rules ++ map (λ r. r.0) (xs ++ ys)))
    (append_assoc rows.claims (claims_in xs) (claims_in ys) ∙ ap (λ cs. rows.claims ++ cs) (sym (map-append (λ (r : Row). record { span = r.1; depth = 0 }) xs ys)))

pub none_risen : (rows : Rows) (low location end : ℕ) (rule : Option (ℕ × ℤ)) → location ≤ low → with_rows rows (risen low location end rule) ≡ rows
none_risen rows low location end rule falls = rw (le-ltb _ _ falls) (with_none rows)

-- ---- the rows by what is left

other_item : (factors : Factors) (end low location : ℕ) (item : Item) (items : List Item) (rules : Rules) → ((x : Instruction) → item ≡ Known x → ⊥) → rows_after factors end low location (item ∷ items) rules ≡ row None low end ∷ []
unfolding rows_after
other_item factors end low location (Known x) items rules other = absurd (other x refl)
other_item factors end low location Unknown items rules other = refl
other_item factors end low location Broken items rules other = refl

-- what is known of a description's instructions, where all rows are to be those of W
module _ (factors : Factors) (end last low location : ℕ) (rows all : Rows) (left : List ℕ) (rules : Rules) (end_is : last ≡ end)
    (so_far : with_rows rows (rows_after factors end low location (items 0 left) rules) ≡ all) where
  pub all_run : (new : Rows) (rule : Option (ℕ × ℤ)) → length left ≡ 0 → rule ≡ in_force rules → new ≡ with_rows rows (row rule low last ∷ []) → new ≡ all
  unfolding rows_after
  all_run new rule none rule_is new_is =
      new_is ∙ ap (λ n. with_rows rows (row rule low n ∷ [])) end_is ∙ ap (λ r. with_rows rows (row r low end ∷ [])) rule_is ∙ sym (ap (λ is. with_rows rows (rows_after factors end low location is rules)) (no_items left none)) ∙ so_far

  module _ (rest tail : List ℕ) (byte : ℕ) (item : Item) (is : left ≡ byte ∷ rest) (item_is : item ≡ (item_in byte rest).0) where
    first : items 0 left ≡ item ∷ items 0 (item_in byte rest).1
    first = some_items left rest byte is ∙ ap (λ x. x ∷ items 0 (item_in byte rest).1) (sym item_is)

    pub other_run : (new : Rows) → ((x : Instruction) → item ≡ Known x → ⊥) → new ≡ with_rows rows (row None low last ∷ []) → new ≡ all
    other_run new other new_is =
        new_is ∙ ap (λ n. with_rows rows (row None low n ∷ [])) end_is ∙ ap (with_rows rows) (sym (other_item factors end low location item (items 0 (item_in byte rest).1) rules other)) ∙ ap (λ is. with_rows rows (rows_after factors end low location is rules)) (sym first) ∙ so_far

    module _ (tail_is : tail ≡ (item_in byte rest).1) (instruction : Instruction) (known : item ≡ Known instruction) where
      known_rows : rows_after factors end low location (items 0 left) rules
          ≡ rows_then low end
          (λ made. risen low (moved factors.code_alignment location instruction) end (in_force made)
          ++ rows_after factors end (max low (moved factors.code_alignment location instruction)) (moved factors.code_alignment location instruction) (items 0 tail) made)
          (done factors.data_alignment instruction rules)
      unfolding rows_after
      known_rows =
          ap (λ is. rows_after factors end low location is rules) (first ∙ ap (λ x. x ∷ items 0 (item_in byte rest).1) known)
          ∙ ap (λ t. rows_then low end
          (λ made. risen low (moved factors.code_alignment location instruction) end (in_force made)
          ++ rows_after factors end (max low (moved factors.code_alignment location instruction)) (moved factors.code_alignment location instruction) (items 0 t) made)
          (done factors.data_alignment instruction rules)) (sym tail_is)

      pub none_run : (new : Rows) → done factors.data_alignment instruction rules ≡ None → new ≡ with_rows rows (row None low last ∷ []) → new ≡ all
      none_run new none new_is =
          new_is ∙ ap (λ n. with_rows rows (row None low n ∷ [])) end_is
          ∙ sym (ap (with_rows rows) (known_rows
          ∙ ap (rows_then low end
          (λ made. risen low (moved factors.code_alignment location instruction) end (in_force made)
          ++ rows_after factors end (max low (moved factors.code_alignment location instruction)) (moved factors.code_alignment location instruction) (items 0 tail) made)) none))
          ∙ so_far

      pub one_run : (new : Rows) (made : Rules) (rule : Option (ℕ × ℤ)) (to higher : ℕ) → done factors.data_alignment instruction rules ≡ Some made → rule ≡ in_force made → to ≡ moved factors.code_alignment location instruction
          → higher ≡ max low to → new ≡ with_rows rows (risen low to last rule) → with_rows new (rows_after factors end higher to (items 0 tail) made) ≡ all
      one_run new made rule to higher some rule_is to_is higher_is new_is =
          ap (λ n. with_rows n (rows_after factors end higher to (items 0 tail) made)) (new_is ∙ ap (λ n. with_rows rows (risen low to n rule)) end_is)
          ∙ with_both rows (risen low to end rule) (rows_after factors end higher to (items 0 tail) made)
          ∙ ap (λ h. with_rows rows (risen low to end rule ++ rows_after factors end h to (items 0 tail) made)) higher_is
          ∙ ap (λ r. with_rows rows (risen low to end r ++ rows_after factors end (max low to) to (items 0 tail) made)) rule_is
          ∙ ap (λ t. with_rows rows (risen low t end (in_force made) ++ rows_after factors end (max low t) t (items 0 tail) made)) to_is
          ∙ sym (ap (with_rows rows) (known_rows
          ∙ ap (rows_then low end
          (λ made. risen low (moved factors.code_alignment location instruction) end (in_force made)
          ++ rows_after factors end (max low (moved factors.code_alignment location instruction)) (moved factors.code_alignment location instruction) (items 0 tail) made)) some))
          ∙ so_far
