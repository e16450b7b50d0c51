-- Descriptions, one by one.
use Rattle.std.proofs.Common.{◌≡◌, ℕ, ◌+◌, ◌<◌, List, [], ◌∷◌, ◌++◌, length, append_assoc, get_or, take, Option, Some, None, Ok, refl, sym, ap, ◌∙◌}
use Rattle.std.specs.Prelude.{filter_map, flat_map, option_to_list}
use Rattle.std.specs.List.{cons_option}
use Rattle.std.proofs.lemmas.List.{append-nil, take_more}
use Rattle.om_cfi.specs.Common.{description_in}
use Rattle.om_cfi.specs.Frames.{described, if_ok}
use Rattle.om_cfi.specs.Instructions.{items}
use Rattle.om_cfi.specs.Rows.{rows_from, rows_of, with_descriptions, with_rows}
use Rattle.om_cfi.specs.Rules.{Rules, after, nothing_ruled, rules_behind}
use Rattle.om_cfi.specs.declared.common.CommonEntry.{CommonEntry}
use Rattle.om_cfi.specs.declared.common.CommonEntry.TheVariants.{Ruled, Ruleless}
use Rattle.om_cfi.specs.declared.description.Description.{Description}
use Rattle.om_cfi.specs.declared.entries.Entry.{Entry}
use Rattle.om_cfi.specs.declared.rows.Rows.{Rows}
use Rattle.om_cfi.specs.declared.rule.Factors.{Factors}
use Rattle.om_cfi.proofs.RowLemmas.{with_both, with_none}

pub no_description : (rows : Rows) → rows ≡ with_descriptions rows []
unfolding with_descriptions
no_description rows = sym (with_none rows)

by_one : (rows : Rows) (it : Description) → with_descriptions rows (it ∷ []) ≡ with_rows rows (rows_of it)
unfolding with_descriptions
by_one rows it = ap (with_rows rows) (append-nil (rows_of it))

both_flat : (xs ys : List Description) → flat_map rows_of (xs ++ ys) ≡ flat_map rows_of xs ++ flat_map rows_of ys
both_flat [] ys = refl
both_flat (x ∷ xs) ys = ap (λ rs. rows_of x ++ rs) (both_flat xs ys) ∙ sym (append_assoc (rows_of x) (flat_map rows_of xs) (flat_map rows_of ys))

by_both : (rows : Rows) (xs ys : List Description) → with_descriptions (with_descriptions rows xs) ys ≡ with_descriptions rows (xs ++ ys)
unfolding with_descriptions
by_both rows xs ys = with_both rows (flat_map rows_of xs) (flat_map rows_of ys) ∙ ap (with_rows rows) (sym (both_flat xs ys))

-- ---- a description

pub ruleless : (entry : Entry) (common kept : CommonEntry) (rows : Rows) → common ≡ kept → ((factors : Factors) (own : List ℕ) → common ≡ Ruled factors own → ⊥) → rows ≡ with_descriptions rows (option_to_list (described entry (Some kept)))
ruleless entry Ruleless kept rows same other = no_description rows ∙ ap (λ k. with_descriptions rows (option_to_list (described entry (Some k)))) same
ruleless entry (Ruled factors own) kept rows same other = absurd (other factors own refl)

-- a description that was read, with what was kept of the entry that it has in common
pub record IsDescribed (entry : Entry) (kept : CommonEntry) (it : Description) (begin : Option Rules) : Type 0 where
  pub factors : Factors
  pub common : List ℕ
  pub kept_is : kept ≡ Ruled factors common
  pub it_is : Ok it ≡ description_in factors common entry.body
  pub factors_are : it.factors ≡ factors
  pub common_is : it.common ≡ common
  pub begins : begin ≡ rules_behind kept

module _ (entry : Entry) (kept : CommonEntry) (it : Description) (begin : Option Rules) (is : IsDescribed entry kept it begin) where
  described_is : described entry (Some kept) ≡ Some it
  described_is = ap (λ k. described entry (Some k)) is.kept_is ∙ ap if_ok (sym is.it_is)

  rows_are : rows_from it begin ≡ rows_of it
  unfolding rows_of
  rows_are =
      ap (rows_from it)
      (is.begins ∙ ap rules_behind is.kept_is ∙ ap (λ f. after f.data_alignment (items 0 is.common) nothing_ruled) (sym is.factors_are) ∙ ap (λ c. after it.factors.data_alignment (items 0 c) nothing_ruled) (sym is.common_is))

  pub added : (rows new : Rows) → new ≡ with_rows rows (rows_from it begin) → new ≡ with_descriptions rows (option_to_list (described entry (Some kept)))
  added rows new new_is = new_is ∙ ap (with_rows rows) rows_are ∙ sym (by_one rows it) ∙ ap (λ o. with_descriptions rows (option_to_list o)) (sym described_is)

-- ---- descriptions one after another

module _ {X : Type 0} (f : X → Option Description) where
  filtered_by : (o : Option Description) (xs ys : List Description) → cons_option o (xs ++ ys) ≡ cons_option o xs ++ ys
  filtered_by None xs ys = refl
  filtered_by (Some x) xs ys = refl

  alone : (o : Option Description) → cons_option o [] ≡ option_to_list o
  alone None = refl
  alone (Some x) = refl

  filtered : (xs : List X) (x : X) → filter_map f (xs ++ x ∷ []) ≡ filter_map f xs ++ option_to_list (f x)
  filtered [] x = alone (f x)
  filtered (y ∷ xs) x = ap (cons_option (f y)) (filtered xs x) ∙ filtered_by (f y) (filter_map f xs) (option_to_list (f x))

  pub rows_more : (start : Rows) (xs : List X) (i : ℕ) (x d : X) (rows new : Rows) → i < length xs → x ≡ get_or xs i d → rows ≡ with_descriptions start (filter_map f (take i xs))
      → new ≡ with_descriptions rows (option_to_list (f x)) → new ≡ with_descriptions start (filter_map f (take (i + 1) xs))
  rows_more start xs i x d rows new within at so_far new_is =
      new_is ∙ ap (λ r. with_descriptions r (option_to_list (f x))) so_far ∙ by_both start (filter_map f (take i xs)) (option_to_list (f x))
      ∙ ap (with_descriptions start) (sym (filtered (take i xs) x))
      ∙ ap (λ ys. with_descriptions start (filter_map f ys)) (sym (take_more xs i d within ∙ ap (λ y. take i xs ++ y ∷ []) (sym at)))
