-- Where range lists end.
use Rattle.std.proofs.Common.{◌≡◌, ℕ, ◌+◌, ◌-◌, ◌*◌, ◌/◌, ◌%◌, ◌<◌, ◌≤◌, Bool, true, false, cond, ◌||◌, leb, eqb, List, [], ◌∷◌, ◌++◌, length, get_or, take, drop, Option, Some, None, refl, sym, ap, subst, ◌∙◌, inl, inr, arith, length-append, length-drop, ◌⊎◌}
use Rattle.std.specs.Prelude.{position, is_some}
use Rattle.std.specs.List.{list_any}
use Rattle.std.specs.Option.{option_map}
use Rattle.std.proofs.lemmas.Bool.{and_from, and_parts, cases_lt, false≢true, le-leb, leb-true, lt-leb}
use Rattle.std.proofs.lemmas.List.Folds.{Any-from_list_any, list_any_at}
use Rattle.std.proofs.lemmas.List.FromFn.{get_or-map-range_with_len, length-map-range_with_len}
use Rattle.std.proofs.lemmas.List.{drop-drop, get_or_append_left, get_or_push}
use Rattle.om_base.specs.Numbers.{le}
use Rattle.om_base.proofs.PlaceLemmas.{fails, position_cons}
use Rattle.om_die.specs.RangeLists.{entries_in, is_end, range_list, ranges_of, word}
use Rattle.om_names.specs.ListEnds.{AreLast, IsLastBelow, IsLastEnd, is_end_at, is_zero_at, reaches}

-- ---- finding the last place

below_or : (section : List ℕ) (remainder entry p : ℕ) → p % 8 ≡ remainder → p < remainder + 8 * (entry + 1) → (p < remainder + 8 * entry) ⊎ (p ≡ remainder + 8 * entry)
below_or section remainder entry p same below = elim (cases_lt p (remainder + 8 * entry)) [ inl lt ↦ inl lt | inr ge ↦ inr (omega arith) ]

pub none_below : (section : List ℕ) (remainder bound : ℕ) → remainder < 8 → bound ≡ remainder → IsLastBelow section remainder bound None
none_below section remainder bound small is = record { is = tt; last = λ at same below end. absurd (omega arith) }

pub found_next : (section : List ℕ) (remainder entry at : ℕ) (place : Option ℕ) → remainder < 8 → at ≡ remainder + 8 * entry → is_end_at section at ≡ true
    → IsLastBelow section remainder (remainder + 8 * (entry + 1)) (Some at)
found_next section remainder entry at place small is end = record { is = (omega arith, end); last = λ p same below e. omega arith }

pub missed_next : (section : List ℕ) (remainder entry at : ℕ) (place : Option ℕ) → remainder < 8 → at ≡ remainder + 8 * entry → is_end_at section at ≡ false
    → IsLastBelow section remainder (remainder + 8 * entry) place → IsLastBelow section remainder (remainder + 8 * (entry + 1)) place
missed_next section remainder entry at place small is none so_far = record {
  is = so_far.is;
  last = λ p same below end. elim (below_or section remainder entry p same below) [
    | inl lower ↦ so_far.last p same lower end
    | inr equal ↦ absurd (false≢true (sym none ∙ ap (is_end_at section) (is ∙ sym equal) ∙ end))
  ];
}

pub all_seen : (section : List ℕ) (remainder : ℕ) (place : Option ℕ) → remainder < 8 → IsLastBelow section remainder (remainder + 8 * (length section / 8)) place → IsLastEnd section remainder place
all_seen section remainder place small so_far = record {
  is = so_far.is;
  last = λ at same end.
      let whole : at + 4 + 4 ≤ length section = leb-true (at + 4 + 4) (length section) (and_parts (leb (at + 4 + 4) (length section)) (eqb (word section (at + 4)) 0) (and_parts (is_zero_at section at) (is_zero_at section (at + 4)) end).1).0 in
      so_far.last at same (omega arith) end;
}

pub last_more : (section : List ℕ) (count : ℕ) (places : List (Option ℕ)) (place : Option ℕ) → AreLast section count places → IsLastEnd section count place → AreLast section (count + 1) (places ++ place ∷ [])
last_more section count places place are is = (
  simp length-append (omega arith),
  λ remainder below. elim (cases_lt remainder count) [
    | inl lower ↦ let within : remainder < length places = omega arith in rw (get_or_append_left places (place ∷ []) None remainder within) (are.1 remainder lower)
    | inr above ↦ let equal : remainder ≡ count = omega arith in rw (equal, get_or_push places place None count are.0) is
  ],
)

-- ---- what the last places tell

some_at : (passes : Bool) (place : Option ℕ) (others : Bool) → is_some place ≡ others → is_some (cond passes (Some 0) (option_map (λ k. k + 1) place)) ≡ (passes || others)
some_at true place others is = refl
some_at false None others is = is
some_at false (Some k) others is = is

some_place : {X : Type 0} (test : X → Bool) (xs : List X) → is_some (position test xs) ≡ list_any test xs
some_place test [] = refl
some_place test (x ∷ xs) = ap (λ p. is_some p) (position_cons test x xs) ∙ some_at (test x) (position test xs) (list_any test xs) (some_place test xs)

some_map : {A B : Type 0} (f : A → B) (found : Option A) → is_some (option_map f found) ≡ is_some found
some_map f None = refl
some_map f (Some x) = refl

-- a list has an end where one of its entries ends it
ends_by : (base : ℕ) (bytes : List ℕ) → is_some (range_list base bytes) ≡ list_any is_end (entries_in bytes)
unfolding range_list
ends_by base bytes = some_map (λ place. ranges_of base (take place (entries_in bytes))) (position is_end (entries_in bytes)) ∙ some_place is_end (entries_in bytes)

word_behind : (section : List ℕ) (offset at : ℕ) → word (drop offset section) at ≡ word section (offset + at)
word_behind section offset at = ap (λ bytes. le (take 4 bytes)) (drop-drop at offset section)

entry_at : (bytes : List ℕ) (place : ℕ) (d : ℕ × ℕ) → place < length bytes / 8 → get_or (entries_in bytes) place d ≡ (word bytes (8 * place), word bytes (8 * place + 4))
entry_at bytes place d within = get_or-map-range_with_len (λ p. (word bytes (8 * p), word bytes (8 * p + 4))) 0 (length bytes / 8) place place d within (omega arith)

count_of : (bytes : List ℕ) → length (entries_in bytes) ≡ length bytes / 8
count_of bytes = length-map-range_with_len (λ p. (word bytes (8 * p), word bytes (8 * p + 4))) 0 (length bytes / 8)

-- the places of entries
pub any_gives : (section : List ℕ) (offset : ℕ) → list_any is_end (entries_in (drop offset section)) ≡ true → (place : ℕ) × (is_end_at section (offset + 8 * place) ≡ true)
any_gives section offset some =
    let any = Any-from_list_any is_end (entries_in (drop offset section)) some in
    let within : any.0 < length (drop offset section) / 8 = subst (λ n. any.0 < n) (count_of (drop offset section)) any.2 in
    let is : is_end (word (drop offset section) (8 * any.0), word (drop offset section) (8 * any.0 + 4)) ≡ true =
    ap (λ x. is_end x) (sym (entry_at (drop offset section) any.0 any.1 within)) ∙ ap (λ x. is_end x) any.3 ∙ any.4 in
    let zeros = and_parts (eqb (word (drop offset section) (8 * any.0)) 0) (eqb (word (drop offset section) (8 * any.0 + 4)) 0) is in
    let size : length (drop offset section) ≡ length section - offset = length-drop offset section in
    let low : (offset + 8 * any.0) + 4 ≤ length section = omega arith in
    let high : (offset + 8 * any.0 + 4) + 4 ≤ length section = omega arith in (
      any.0,
      and_from _ _
          (and_from _ _ (le-leb _ _ low) (ap (λ n. eqb n 0) (sym (word_behind section offset (8 * any.0))) ∙ zeros.0))
          (and_from _ _ (le-leb _ _ high) (ap (λ n. eqb n 0) (sym (word_behind section offset (8 * any.0 + 4) ∙ ap (word section) (omega arith))) ∙ zeros.1)),
    )

pub gives_any : (section : List ℕ) (offset place : ℕ) → is_end_at section (offset + 8 * place) ≡ true → list_any is_end (entries_in (drop offset section)) ≡ true
gives_any section offset place end =
    let halves = and_parts (is_zero_at section (offset + 8 * place)) (is_zero_at section (offset + 8 * place + 4)) end in
    let low = and_parts (leb (offset + 8 * place + 4) (length section)) (eqb (word section (offset + 8 * place)) 0) halves.0 in
    let high = and_parts (leb (offset + 8 * place + 4 + 4) (length section)) (eqb (word section (offset + 8 * place + 4)) 0) halves.1 in
    let whole : offset + 8 * place + 4 + 4 ≤ length section = leb-true (offset + 8 * place + 4 + 4) (length section) high.0 in
    let size : length (drop offset section) ≡ length section - offset = length-drop offset section in
    let within : place < length (drop offset section) / 8 = omega arith in
    let behind : offset + (8 * place + 4) ≡ offset + 8 * place + 4 = omega arith in
    let is : is_end (word (drop offset section) (8 * place), word (drop offset section) (8 * place + 4)) ≡ true =
    and_from _ _ (ap (λ n. eqb n 0) (word_behind section offset (8 * place)) ∙ low.1)
    (ap (λ n. eqb n 0) (word_behind section offset (8 * place + 4) ∙ ap (word section) behind) ∙ high.1) in
    list_any_at is_end (entries_in (drop offset section)) place (0, 0) (subst (λ n. place < n) (sym (count_of (drop offset section))) within)
    (ap (λ x. is_end x) (entry_at (drop offset section) place (0, 0) within) ∙ is)

-- a list that begins at an offset has an end where the last place of its remainder isn't before it
pub end_from : (section : List ℕ) (base offset : ℕ) (place : Option ℕ) → IsLastEnd section (offset % 8) place → reaches offset place ≡ is_some (range_list base (drop offset section))
end_from section base offset None is =
    sym (ends_by base (drop offset section) ∙ fails _ (λ some. let any = any_gives section offset some in is.last (offset + 8 * any.0) (omega arith) any.1))
end_from section base offset (Some at) is =
    elim (cases_lt at offset) [
      | inl before ↦ lt-leb offset at before ∙ sym (ends_by base (drop offset section) ∙ fails _ (λ some.
          let any = any_gives section offset some in
          let reached : offset + 8 * any.0 ≤ at = is.last (offset + 8 * any.0) (omega arith) any.1 in
          omega arith))
      | inr behind ↦
          let place : offset + 8 * ((at - offset) / 8) ≡ at = omega (arith, is.is.0) in
          le-leb offset at behind ∙ sym (ends_by base (drop offset section) ∙ gives_any section offset ((at - offset) / 8) (ap (is_end_at section) place ∙ is.is.1))
    ]

pub kept_end : (section : List ℕ) (base offset : ℕ) (places items : List (Option ℕ)) (element place : Option ℕ) → AreLast section 8 places → items ≡ places → element ≡ get_or items (offset % 8) None
    → element ≡ place → reaches offset place ≡ is_some (range_list base (drop offset section))
kept_end section base offset places items element place are same at is =
    let kept : get_or places (offset % 8) None ≡ place = ap (λ ps. get_or ps (offset % 8) None) (sym same) ∙ sym at ∙ is in
    end_from section base offset place (subst (IsLastEnd section (offset % 8)) kept (are.1 (offset % 8) (omega arith)))
