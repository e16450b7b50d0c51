-- The first faults of entries, one by one.
use Rattle.std.proofs.Common.{◌≡◌, ℕ, suc, ◌+◌, ◌<◌, List, [], ◌∷◌, ◌++◌, length, get_or, take, drop, map, Option, Some, None, refl, sym, ap, ◌∙◌, inl, inr, ◌⊎◌, drop-cons, take-append-drop}
use Rattle.std.specs.Prelude.{filter_map}
use Rattle.std.specs.List.{cons_option}
use Rattle.std.specs.Option.{option_or}
use Rattle.std.proofs.lemmas.List.{map-append, take_more}
use Rattle.om_base.specs.Firsts.{first_of}
use Rattle.om_cfi.specs.Entries.{entries_in, first_cut}
use Rattle.om_cfi.specs.declared.fault.CfiFault.{CfiFault}
use Rattle.om_cfi.specs.declared.fault.CfiFault.TheVariants as fault
use Rattle.om_cfi.specs.declared.entries.Entry.{Entry}
use Rattle.om_cfi.specs.Frames.{common_at, common_fault, fault_by, frame_by, frame_of, frame_fault, frames_fault, frames_in, said_at}
use Rattle.om_cfi.specs.Kept.{AreCommons, find_in}
use Rattle.om_cfi.specs.Rows.{no_rows, with_descriptions}
use Rattle.om_cfi.specs.declared.commons.Commons.{Commons}
use Rattle.om_cfi.specs.declared.rows.Rows.{Rows}

first_both : {A : Type 0} (ones others : List (Option A)) → first_of (ones ++ others) ≡ option_or (first_of ones) (first_of others)
first_both [] others = refl
first_both (None ∷ ones) others = first_both ones others
first_both (Some x ∷ ones) others = refl

or_none : {A : Type 0} (o : Option A) → option_or o None ≡ o
or_none None = refl
or_none (Some x) = refl

module _ {X A : Type 0} (f : X → Option A) where
  pub first_next : (xs : List X) (i : ℕ) (x d : X) → i < length xs → x ≡ get_or xs i d → first_of (map f (take (i + 1) xs)) ≡ option_or (first_of (map f (take i xs))) (f x)
  first_next xs i x d within at =
      ap (λ ys. first_of (map f ys)) (take_more xs i d within ∙ ap (λ y. take i xs ++ y ∷ []) (sym at)) ∙ ap (λ fs. first_of fs) (map-append f (take i xs) (x ∷ [])) ∙ first_both (map f (take i xs)) (f x ∷ [])
      ∙ ap (option_or (first_of (map f (take i xs)))) (or_none (f x))

  pub first_found : (xs : List X) (i : ℕ) (x d : X) (told : A) → i < length xs → x ≡ get_or xs i d → first_of (map f (take i xs)) ≡ None → f x ≡ Some told → first_of (map f xs) ≡ Some told
  first_found xs i x d told within at none is =
      let parts : xs ≡ take i xs ++ x ∷ drop (suc i) xs = sym (take-append-drop i xs) ∙ ap (λ ys. take i xs ++ ys) (drop-cons xs i d within ∙ ap (λ y. y ∷ drop (suc i) xs) (sym at)) in
      ap (λ ys. first_of (map f ys)) parts ∙ ap (λ fs. first_of fs) (map-append f (take i xs) (x ∷ drop (suc i) xs)) ∙ first_both (map f (take i xs)) (map f (x ∷ drop (suc i) xs))
      ∙ ap (λ o. option_or o (first_of (map f (x ∷ drop (suc i) xs)))) none ∙ ap (λ o. option_or o (first_of (map f (drop (suc i) xs)))) is

  pub found_or : (bad : A) (xs : List X) (i : ℕ) (x d : X) (told : A) → i < length xs → x ≡ get_or xs i d → first_of (map f (take i xs)) ≡ None → (told ≡ bad) ⊎ (f x ≡ Some told) → (told ≡ bad) ⊎ (first_of (map f xs) ≡ Some told)
  found_or bad xs i x d told within at none (inl is) = inl is
  found_or bad xs i x d told within at none (inr is) = inr (first_found xs i x d told within at none is)

  pub none_more : (xs : List X) (i : ℕ) (x d : X) → i < length xs → x ≡ get_or xs i d → first_of (map f (take i xs)) ≡ None → f x ≡ None → first_of (map f (take (i + 1) xs)) ≡ None
  none_more xs i x d within at none is = first_next xs i x d within at ∙ ap (λ o. option_or o (f x)) none ∙ is

  pub kept_more : (xs : List X) (i : ℕ) (x d : X) (kept new : List A) → i < length xs → x ≡ get_or xs i d → kept ≡ filter_map f (take i xs) → new ≡ kept ++ filter_map f (x ∷ []) → new ≡ filter_map f (take (i + 1) xs)
  kept_more xs i x d kept new within at is new_is =
      new_is ∙ ap (λ ys. ys ++ filter_map f (x ∷ [])) is ∙ sym (both (take i xs) (x ∷ [])) ∙ ap (filter_map f) (sym (take_more xs i d within ∙ ap (λ y. take i xs ++ y ∷ []) (sym at)))
    where
      cons_by : (o : Option A) (ys zs : List A) → cons_option o (ys ++ zs) ≡ cons_option o ys ++ zs
      cons_by None ys zs = refl
      cons_by (Some y) ys zs = refl

      both : (ys zs : List X) → filter_map f (ys ++ zs) ≡ filter_map f ys ++ filter_map f zs
      both [] zs = refl
      both (y ∷ ys) zs = ap (cons_option (f y)) (both ys zs) ∙ cons_by (f y) (filter_map f ys) (filter_map f zs)

pub commons_more : (entries : List Entry) (i : ℕ) (e d : Entry) (old new : Commons) → i < length entries → e ≡ get_or entries i d → AreCommons (take i entries) old
    → ((offset : ℕ) → find_in new offset ≡ option_or (find_in old offset) (said_at offset e)) → AreCommons (take (i + 1) entries) new
commons_more entries i e d old new within at are is = λ offset. is offset ∙ ap (λ o. option_or o (said_at offset e)) (are offset) ∙ sym (first_next (said_at offset) entries i e d within at)

same_function : {A B : Type 0} (f g : A → B) → ((x : A) → f x ≡ g x) → f ≡ g
same_function f g same = λ i. λ x. same x i

-- ---- the three sweeps

module _ (section : List ℕ) where
  pub cut_told : (told : CfiFault) → (told ≡ fault.NoMemory) ⊎ (first_cut section ≡ Some told) → (told ≡ fault.NoMemory) ⊎ (frames_fault section ≡ Some told)
  unfolding frames_fault
  cut_told told (inl is) = inl is
  cut_told told (inr is) = inr (ap (λ o. option_or o (option_or (first_of (map common_fault (entries_in section))) (option_or (first_of (map (frame_fault (entries_in section)) (entries_in section))) None))) is)

  -- what is known behind the first sweep
  pub record IsCut (entries items : List Entry) : Type 0 where
    pub same : items ≡ entries
    pub entries_are : entries ≡ entries_in section
    pub none : first_cut section ≡ None

  pub common_told : (entries items : List Entry) → IsCut entries items → (told : CfiFault) → (told ≡ fault.NoMemory) ⊎ (first_of (map common_fault items) ≡ Some told) → (told ≡ fault.NoMemory) ⊎ (frames_fault section ≡ Some told)
  unfolding frames_fault
  common_told entries items is told (inl none) = inl none
  common_told entries items is told (inr found) =
      let here : first_of (map common_fault (entries_in section)) ≡ Some told = ap (λ es. first_of (map common_fault es)) (sym is.entries_are ∙ sym is.same) ∙ found in
      inr (ap (λ o. option_or o (option_or (first_of (map common_fault (entries_in section))) (option_or (first_of (map (frame_fault (entries_in section)) (entries_in section))) None))) is.none
      ∙ ap (λ o. option_or o (option_or (first_of (map (frame_fault (entries_in section)) (entries_in section))) None)) here)

  -- ... behind the second
  pub record IsSwept (commons : Commons) (items : List Entry) : Type 0 where
    pub items_are : items ≡ entries_in section
    pub find : find_in commons ≡ common_at (entries_in section)
    pub no_cut : first_cut section ≡ None
    pub no_common : first_of (map common_fault (entries_in section)) ≡ None

  pub swept : (commons : Commons) (entries items others : List Entry) → IsCut entries items → others ≡ entries → AreCommons items commons → first_of (map common_fault items) ≡ None → IsSwept commons others
  swept commons entries items others is other are none = record {
    items_are = other ∙ is.entries_are;
    find = same_function (find_in commons) (common_at items) are ∙ ap common_at (is.same ∙ is.entries_are);
    no_cut = is.none;
    no_common = ap (λ es. first_of (map common_fault es)) (sym is.entries_are ∙ sym is.same) ∙ none;
  }

  third : (commons : Commons) (items : List Entry) → IsSwept commons items → first_of (map (fault_by (find_in commons)) items) ≡ first_of (map (frame_fault (entries_in section)) (entries_in section))
  third commons items is = ap (λ f. first_of (map (fault_by f) items)) is.find ∙ ap (λ es. first_of (map (frame_fault (entries_in section)) es)) is.items_are

  whole_fault : (commons : Commons) (items : List Entry) (o : Option CfiFault) → IsSwept commons items → first_of (map (fault_by (find_in commons)) items) ≡ o → frames_fault section ≡ o
  unfolding frames_fault
  whole_fault commons items o is found =
      ap (λ o. option_or o (option_or (first_of (map common_fault (entries_in section))) (option_or (first_of (map (frame_fault (entries_in section)) (entries_in section))) None))) is.no_cut
      ∙ ap (λ o. option_or o (option_or (first_of (map (frame_fault (entries_in section)) (entries_in section))) None)) is.no_common ∙ or_none (first_of (map (frame_fault (entries_in section)) (entries_in section)))
      ∙ sym (third commons items is) ∙ found

  pub frame_told : (commons : Commons) (items : List Entry) → IsSwept commons items → (told : CfiFault) → (told ≡ fault.NoMemory) ⊎ (first_of (map (fault_by (find_in commons)) items) ≡ Some told)
      → (told ≡ fault.NoMemory) ⊎ (frames_fault section ≡ Some told)
  frame_told commons items is told (inl none) = inl none
  frame_told commons items is told (inr found) = inr (whole_fault commons items (Some told) is found)

  pub none_told : (commons : Commons) (items : List Entry) → IsSwept commons items → first_of (map (fault_by (find_in commons)) items) ≡ None → frames_fault section ≡ None
  none_told commons items is found = whole_fault commons items None is found

  pub all_frames : (commons : Commons) (items : List Entry) (rows : Rows) → IsSwept commons items → rows ≡ with_descriptions no_rows (filter_map (frame_by (find_in commons)) items) → rows ≡ with_descriptions no_rows (frames_in section)
  unfolding frames_in
  all_frames commons items rows is found =
      found ∙ ap (with_descriptions no_rows) (ap (λ f. filter_map (frame_by f) items) is.find ∙ ap (filter_map (frame_of (entries_in section))) is.items_are)
