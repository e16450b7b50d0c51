-- Of claims that things make, the first of the deepest that hold an address is one of the first of the deepest things that do.
use Rattle.std.proofs.Common.{◌≡◌, ℕ, suc, ◌+◌, ◌<◌, Bool, true, false, cond, ◌&&◌, ◌||◌, leb, ltb, List, [], ◌∷◌, length, map, Option, Some, None, refl, ap, subst, ◌∙◌, inl, inr, arith}
use Rattle.std.specs.Prelude.{All, filter, find, position, slice_get}
use Rattle.std.specs.List.{flat_map, list_all, list_any, position_or_len}
use Rattle.std.specs.Option.{option_and_then, option_map, option_or}
use Rattle.std.proofs.Math.Path.{fun_ext}
use Rattle.std.proofs.lemmas.Bool.{cases_lt, le-ltb, lt-ltb}
use Rattle.std.proofs.lemmas.List.Elements.{All-head, All-tail, filter-append}
use Rattle.std.proofs.lemmas.List.Folds.{find-append, list_all-append}

-- ---- the first place at which a test passes

module _ {X : Type 0} (p : X → Bool) where
  by_place : (k n : ℕ) → cond (ltb (suc k) (suc n)) (Some (suc k)) None ≡ option_map suc (cond (ltb k n) (Some k) None)
  by_place k n =
      elim (cases_lt k n) [
        | inl less ↦ rw (lt-ltb k n less, lt-ltb (suc k) (suc n) (omega arith)) refl
        | inr more ↦ rw (le-ltb k n more, le-ltb (suc k) (suc n) (omega arith)) refl
      ]

  place_here : (x : X) (xs : List X) → p x ≡ true → position p (x ∷ xs) ≡ Some 0
  place_here x xs is = let less : 0 < suc (length xs) = omega arith in rw is (rw (lt-ltb 0 (suc (length xs)) less) refl)

  place_later : (x : X) (xs : List X) → p x ≡ false → position p (x ∷ xs) ≡ option_map suc (position p xs)
  place_later x xs is =
      let next : suc (position_or_len p xs) ≡ 1 + position_or_len p xs = omega arith in
      rw is (subst (λ n. cond (ltb n (suc (length xs))) (Some n) None ≡ option_map suc (position p xs)) next (by_place (position_or_len p xs) (length xs)))

-- what stands beside the first that passes
module _ {C A B : Type 0} (f : C → A) (g : C → B) (t : A → Bool) where
  one_later : (xs : List B) (x : B) (o : Option ℕ) → option_and_then (slice_get (x ∷ xs)) (option_map suc o) ≡ option_and_then (slice_get xs) o
  one_later xs x None = refl
  one_later xs x (Some k) = refl

  pub beside : (cs : List C) → option_and_then (slice_get (map g cs)) (position t (map f cs)) ≡ option_map g (find (λ c. t (f c)) cs)
  beside [] = refl
  beside (c ∷ cs) = by (t (f c)) refl (beside cs)
    where
      by : (b : Bool) → t (f c) ≡ b → option_and_then (slice_get (map g cs)) (position t (map f cs)) ≡ option_map g (find (λ x. t (f x)) cs)
          → option_and_then (slice_get (map g (c ∷ cs))) (position t (map f (c ∷ cs))) ≡ option_map g (cond b (Some c) (find (λ x. t (f x)) cs))
      by true is later = ap (option_and_then (slice_get (map g (c ∷ cs)))) (place_here t (f c) (map f cs) is)
      by false is later = ap (option_and_then (slice_get (map g (c ∷ cs)))) (place_later t (f c) (map f cs) is) ∙ one_later (map g cs) (g c) (position t (map f cs)) ∙ later

-- ---- lists

pub filter_map_of : {X Y : Type 0} (p : Y → Bool) (f : X → Y) (xs : List X) → filter p (map f xs) ≡ map f (filter (λ x. p (f x)) xs)
filter_map_of p f [] = refl
filter_map_of p f (x ∷ xs) = by (p (f x)) (filter_map_of p f xs)
  where
    by : (b : Bool) → filter p (map f xs) ≡ map f (filter (λ y. p (f y)) xs) → cond b (f x ∷ filter p (map f xs)) (filter p (map f xs)) ≡ map f (cond b (x ∷ filter (λ y. p (f y)) xs) (filter (λ y. p (f y)) xs))
    by true later = ap (λ ys. f x ∷ ys) later
    by false later = later

-- ---- claims and the things that make them

module _ {X C V : Type 0} (f : X → List C) (h : C → Bool) (has : X → Bool) (claim_depth : C → ℕ) (depth : X → ℕ) (claim_value : C → V) (value : X → V)
    (any : (x : X) → list_any h (f x) ≡ has x) (depths : (x : X) → All (λ c. claim_depth c ≡ depth x) (f x)) (values : (x : X) → All (λ c. claim_value c ≡ value x) (f x)) where
  -- whether all claims of a thing that hold are no deeper
  no_deeper : (d e : ℕ) (cs : List C) (b : Bool) → list_any h cs ≡ b → All (λ c. claim_depth c ≡ e) cs → list_all (λ c. leb (claim_depth c) d) (filter h cs) ≡ cond b (leb e d) true
  no_deeper d e [] true is are = absurd cc
  no_deeper d e [] false is are = refl
  no_deeper d e (c ∷ cs) b is are = by (h c) (list_any h cs) refl is (λ x there. no_deeper d e cs x there (All-tail (λ y. claim_depth y ≡ e) c cs are))
    where
      here : claim_depth c ≡ e
      here = All-head (λ y. claim_depth y ≡ e) c cs are

      same : (x : Bool) → (leb e d && cond x (leb e d) true) ≡ leb e d
      same true = twice (leb e d)
        where
          twice : (y : Bool) → (y && y) ≡ y
          twice true = refl
          twice false = refl
      same false = and_true (leb e d)
        where
          and_true : (y : Bool) → (y && true) ≡ y
          and_true true = refl
          and_true false = refl

      by : (x y : Bool) → list_any h cs ≡ y → (x || y) ≡ b → ((z : Bool) → list_any h cs ≡ z → list_all (λ k. leb (claim_depth k) d) (filter h cs) ≡ cond z (leb e d) true)
          → list_all (λ k. leb (claim_depth k) d) (cond x (c ∷ filter h cs) (filter h cs)) ≡ cond b (leb e d) true
      by true y later_is both later =
          ap (λ n. leb n d && list_all (λ k. leb (claim_depth k) d) (filter h cs)) here ∙ ap (λ z. leb e d && z) (later y later_is) ∙ same y ∙ ap (λ z. cond z (leb e d) true) both
      by false y later_is both later = later y later_is ∙ ap (λ z. cond z (leb e d) true) both

  -- whether all claims that hold are no deeper, and all things
  all_no_deeper : (d : ℕ) (xs : List X) → list_all (λ c. leb (claim_depth c) d) (filter h (flat_map f xs)) ≡ list_all (λ x. leb (depth x) d) (filter has xs)
  all_no_deeper d [] = refl
  all_no_deeper d (x ∷ xs) =
      ap (list_all (λ c. leb (claim_depth c) d)) (filter-append h (f x) (flat_map f xs))
      ∙ list_all-append (λ c. leb (claim_depth c) d) (filter h (f x)) (filter h (flat_map f xs))
      ∙ ap (λ b. b && list_all (λ c. leb (claim_depth c) d) (filter h (flat_map f xs))) (no_deeper d (depth x) (f x) (has x) (any x) (depths x))
      ∙ ap (λ b. cond (has x) (leb (depth x) d) true && b) (all_no_deeper d xs) ∙ by (has x)
    where
      by : (b : Bool) → (cond b (leb (depth x) d) true && list_all (λ y. leb (depth y) d) (filter has xs)) ≡ list_all (λ y. leb (depth y) d) (cond b (x ∷ filter has xs) (filter has xs))
      by true = refl
      by false = refl

  module _ (deep : ℕ → Bool) where
    -- the first claim of a thing that holds and is deep
    first_deep : (e : ℕ) (v : V) (cs : List C) (b : Bool) → list_any h cs ≡ b → All (λ c. claim_depth c ≡ e) cs → All (λ c. claim_value c ≡ v) cs
        → option_map claim_value (find (λ c. h c && deep (claim_depth c)) cs) ≡ cond (b && deep e) (Some v) None
    first_deep e v [] true is are have = absurd cc
    first_deep e v [] false is are have = refl
    first_deep e v (c ∷ cs) b is are have =
        ap (λ n. option_map claim_value (cond (h c && deep n) (Some c) (find (λ k. h k && deep (claim_depth k)) cs))) (All-head (λ y. claim_depth y ≡ e) c cs are)
        ∙ by (h c) (deep e) (list_any h cs) refl is
        (λ z there. first_deep e v cs z there (All-tail (λ y. claim_depth y ≡ e) c cs are) (All-tail (λ y. claim_value y ≡ v) c cs have))
      where
        none : (z : Bool) → cond (z && false) (Some v) None ≡ None
        none true = refl
        none false = refl

        by : (x w y : Bool) → list_any h cs ≡ y → (x || y) ≡ b → ((z : Bool) → list_any h cs ≡ z → option_map claim_value (find (λ k. h k && deep (claim_depth k)) cs) ≡ cond (z && deep e) (Some v) None)
            → option_map claim_value (cond (x && deep e) (Some c) (find (λ k. h k && deep (claim_depth k)) cs)) ≡ cond (b && deep e) (Some v) None
        by true w y later_is both later = split (deep e) refl ∙ ap (λ z. cond (z && deep e) (Some v) None) both
          where
            split : (z : Bool) → deep e ≡ z → option_map claim_value (cond (deep e) (Some c) (find (λ k. h k && deep (claim_depth k)) cs)) ≡ cond (true && deep e) (Some v) None
            split true is_deep = rw is_deep (ap Some (All-head (λ k. claim_value k ≡ v) c cs have))
            split false no_deep = rw no_deep (later y later_is ∙ ap (λ z. cond (y && z) (Some v) None) no_deep ∙ none y)
        by false w y later_is both later = later y later_is ∙ ap (λ z. cond (z && deep e) (Some v) None) both

    -- the first of all claims, and of all things
    all_first_deep : (xs : List X) → option_map claim_value (find (λ c. h c && deep (claim_depth c)) (flat_map f xs)) ≡ option_map value (find (λ x. deep (depth x)) (filter has xs))
    all_first_deep [] = refl
    all_first_deep (x ∷ xs) =
        ap (option_map claim_value) (find-append (λ c. h c && deep (claim_depth c)) (f x) (flat_map f xs))
        ∙ first_or (find (λ c. h c && deep (claim_depth c)) (f x)) (find (λ c. h c && deep (claim_depth c)) (flat_map f xs))
        ∙ ap (λ o. option_or o (option_map claim_value (find (λ c. h c && deep (claim_depth c)) (flat_map f xs)))) (first_deep (depth x) (value x) (f x) (has x) (any x) (depths x) (values x))
        ∙ ap (option_or (cond (has x && deep (depth x)) (Some (value x)) None)) (all_first_deep xs) ∙ by (has x)
      where
        first_or : (one other : Option C) → option_map claim_value (option_or one other) ≡ option_or (option_map claim_value one) (option_map claim_value other)
        first_or None other = refl
        first_or (Some c) other = refl

        by : (b : Bool) → option_or (cond (b && deep (depth x)) (Some (value x)) None) (option_map value (find (λ y. deep (depth y)) (filter has xs)))
            ≡ option_map value (find (λ y. deep (depth y)) (cond b (x ∷ filter has xs) (filter has xs)))
        by false = refl
        by true = deep_by (deep (depth x))
          where
            deep_by : (z : Bool) → option_or (cond z (Some (value x)) None) (option_map value (find (λ y. deep (depth y)) (filter has xs))) ≡ option_map value (cond z (Some x) (find (λ y. deep (depth y)) (filter has xs)))
            deep_by true = refl
            deep_by false = refl

  -- the value of the first of the deepest claims that hold is that of the first of the deepest things
  pub deepest_claim : (xs : List X)
      → option_map claim_value (find (λ c. h c && list_all (λ o. leb (claim_depth o) (claim_depth c)) (filter h (flat_map f xs))) (flat_map f xs))
      ≡ option_map value (find (λ x. list_all (λ o. leb (depth o) (depth x)) (filter has xs)) (filter has xs))
  deepest_claim xs =
      all_first_deep (λ d. list_all (λ o. leb (claim_depth o) d) (filter h (flat_map f xs))) xs
      ∙ ap (λ deep. option_map value (find (λ x. deep (depth x)) (filter has xs))) (fun_ext (λ d. all_no_deeper d xs))
