-- Range lists, entry by entry.
use Rattle.std.proofs.Common.{◌≡◌, ◌≢◌, ℕ, zero, suc, ◌+◌, ◌-◌, ◌*◌, ◌/◌, ◌%◌, ◌^◌, ◌<◌, ◌≤◌, Bool, true, false, cond, leb, nat_eq, List, [], ◌∷◌, ◌++◌, length, take, drop, drop-drop, map, Option, Some, None, Ok, Err, ok_or, refl, sym, ap, ◌∙◌, append_assoc, length-drop, add-one, arith}
use Rattle.std.specs.Prelude.{Result, position}
use Rattle.std.specs.List.{range_with_len}
use Rattle.std.specs.Option.{option_map}
use Rattle.std.specs.Result.{result_map_both}
use Rattle.std.proofs.lemmas.Bool.Decides.{nat_tests}
use Rattle.std.proofs.lemmas.Bool.{eq-eqb, le-leb, leb-true, lt-leb, ne_eqb}
use Rattle.om_base.specs.Numbers.{le, number_at}
use Rattle.om_base.specs.declared.numbers.Num.{Num}
use Rattle.om_base.specs.declared.numbers.Num.TheVariants.{Short}
use Rattle.om_base.specs.declared.span.Span.{Span}
use Rattle.om_base.proofs.PlaceLemmas.{position_cons}
use Rattle.om_base.proofs.ReadingLaws.{ok_is}
use Rattle.om_die.specs.RangeLists.{entries_in, first_entry, is_end, range_list, ranges_of, word}
use Rattle.om_die.specs.Readers.{fixed}
use Rattle.om_die.specs.declared.attributes.Gap.{Gap}
use Rattle.om_die.specs.declared.attributes.Gap.TheVariants as gap

-- ---- one entry

record IsFixed (width : ℕ) (bytes : List ℕ) (n : ℕ) (rest : List ℕ) : Type 0 where
  within : width ≤ length bytes
  value : n ≡ le (take width bytes)
  rest_is : rest ≡ drop width bytes

fixed_ok : (passes : Bool) (width : ℕ) (field bytes : List ℕ) (n : ℕ) (rest : List ℕ)
    → ◌≡◌ {A = Result (ℕ × List ℕ) Gap} (result_map_both (λ (x : ℕ × List ℕ). x) (λ (_ : Num). gap.Short)
    (result_map_both (λ (x : ℕ × ℕ). (x.0, drop x.1 bytes)) (λ (e : Num). e)
    (ok_or (option_map (λ (m : ℕ). (m, width)) (option_map le (cond passes (Some field) None))) Short))) (Ok (n, rest))
    → (passes ≡ true) × (n ≡ le field) × (rest ≡ drop width bytes)
fixed_ok true width field bytes n rest e =
    let pairs : (le field, drop width bytes) ≡ (n, rest) = ok_is (le field, drop width bytes) (n, rest) e in
    (refl, sym (ap (λ p. p.0) pairs), sym (ap (λ p. p.1) pairs))
fixed_ok false width field bytes n rest e = absurd cc

fixed_why : (passes : Bool) (width : ℕ) (field bytes : List ℕ) (why : Gap)
    → ◌≡◌ {A = Result (ℕ × List ℕ) Gap} (result_map_both (λ (x : ℕ × List ℕ). x) (λ (_ : Num). gap.Short)
    (result_map_both (λ (x : ℕ × ℕ). (x.0, drop x.1 bytes)) (λ (e : Num). e)
    (ok_or (option_map (λ (m : ℕ). (m, width)) (option_map le (cond passes (Some field) None))) Short))) (Err why)
    → passes ≡ false
fixed_why true width field bytes why e = absurd cc
fixed_why false width field bytes why e = refl

is_fixed : (width : ℕ) (bytes : List ℕ) (n : ℕ) (rest : List ℕ) → fixed width bytes ≡ Ok (n, rest) → IsFixed width bytes n rest
unfolding fixed number_at
is_fixed width bytes n rest e =
    let is = fixed_ok (leb (0 + width) (length bytes)) width (take width bytes) bytes n rest e in
    let within : width ≤ length bytes = omega (arith, leb-true (0 + width) (length bytes) is.0) in
    record { within = within; value = is.1; rest_is = is.2 }

too_short : (width : ℕ) (bytes : List ℕ) (why : Gap) → fixed width bytes ≡ Err why → length bytes < width
unfolding fixed number_at
too_short width bytes why e =
    let past : leb (0 + width) (length bytes) ≡ false = fixed_why (leb (0 + width) (length bytes)) width (take width bytes) bytes why e in
    grind (arith, nat_tests)

no_entry : (bytes : List ℕ) → length bytes < 8 → None ≡ first_entry bytes
unfolding first_entry
no_entry bytes short = rw (lt-leb 8 (length bytes) short) refl

pub no_first : (bytes : List ℕ) (why : Gap) → fixed 4 bytes ≡ Err why → None ≡ first_entry bytes
no_first bytes why e = no_entry bytes (omega (arith, too_short 4 bytes why e))

pub no_second : (bytes : List ℕ) (n : ℕ) (rest : List ℕ) (why : Gap) → fixed 4 bytes ≡ Ok (n, rest) → fixed 4 rest ≡ Err why → None ≡ first_entry bytes
no_second bytes n rest why one two =
    let first = is_fixed 4 bytes n rest one in
    no_entry bytes (omega (arith, first.within, ap length first.rest_is, length-drop 4 bytes, too_short 4 rest why two))

pub both : (bytes : List ℕ) (n m : ℕ) (rest back : List ℕ) → fixed 4 bytes ≡ Ok (n, rest) → fixed 4 rest ≡ Ok (m, back)
    → Some ((n, m), back) ≡ first_entry bytes
unfolding first_entry
both bytes n m rest back one two =
    let first = is_fixed 4 bytes n rest one in
    let second = is_fixed 4 rest m back two in
    let long : 8 ≤ length bytes = omega (arith, first.within, second.within, ap length first.rest_is, length-drop 4 bytes) in
    let more : m ≡ word bytes 4 = second.value ∙ ap (λ xs. le (take 4 xs)) first.rest_is in
    let left : back ≡ drop 8 bytes = second.rest_is ∙ ap (drop 4) first.rest_is ∙ drop-drop 4 4 bytes in
    rw (le-leb 8 (length bytes) long, first.value, more, left) refl

-- ---- all entries

shifted : {A : Type 0} (f g : ℕ → A) → ((k : ℕ) → f (k + 1) ≡ g k) → (n a : ℕ) → map f (range_with_len (a + 1) n) ≡ map g (range_with_len a n)
shifted f g same zero a = refl
shifted f g same (suc n) a = ap (λ x. x ∷ map f (range_with_len (a + 1 + 1) n)) (same a) ∙ ap (λ xs. g a ∷ xs) (shifted f g same n (a + 1))

abbrev entry_at : List ℕ → ℕ → ℕ × ℕ
entry_at bytes place = (word bytes (8 * place), word bytes (8 * place + 4))

word_behind : (bytes : List ℕ) (at place : ℕ) → place ≡ 8 + at → word bytes place ≡ word (drop 8 bytes) at
word_behind bytes at place is = ap (λ n. le (take 4 (drop n bytes))) is ∙ ap (λ xs. le (take 4 xs)) (sym (drop-drop at 8 bytes))

entry_behind : (bytes : List ℕ) (k : ℕ) → entry_at bytes (k + 1) ≡ entry_at (drop 8 bytes) k
entry_behind bytes k =
    ap (λ n. (n, word bytes (8 * (k + 1) + 4))) (word_behind bytes (8 * k) (8 * (k + 1)) (omega arith))
    ∙ ap (λ n. (word (drop 8 bytes) (8 * k), n)) (word_behind bytes (8 * k + 4) (8 * (k + 1) + 4) (omega arith))

entries_more : (bytes : List ℕ) → 8 ≤ length bytes → entries_in bytes ≡ (word bytes 0, word bytes 4) ∷ entries_in (drop 8 bytes)
entries_more bytes long =
    let count : length bytes / 8 ≡ suc (length (drop 8 bytes) / 8) = omega (arith, length-drop 8 bytes) in
    ap (λ n. map (entry_at bytes) (range_with_len 0 n)) count
    ∙ ap (λ es. (word bytes 0, word bytes 4) ∷ es) (shifted (entry_at bytes) (entry_at (drop 8 bytes)) (entry_behind bytes) (length (drop 8 bytes) / 8) 0)

entries_none : (bytes : List ℕ) → length bytes < 8 → entries_in bytes ≡ []
entries_none bytes short =
    let count : length bytes / 8 ≡ 0 = omega arith in
    ap (λ n. map (entry_at bytes) (range_with_len 0 n)) count

first_by : (passes : Bool) (e f : ℕ × ℕ) (back rest : List ℕ) → ◌≡◌ {A = Option ((ℕ × ℕ) × List ℕ)} (Some (e, back)) (cond passes (Some (f, rest)) None)
    → (passes ≡ true) × (e ≡ f) × (back ≡ rest)
first_by true e f back rest is =
    let pairs : ◌≡◌ {A = (ℕ × ℕ) × List ℕ} (e, back) (f, rest) = cc in
    (refl, ap (λ p. p.0) pairs, ap (λ p. p.1) pairs)
first_by false e f back rest is = absurd cc

none_by : (passes : Bool) (x : (ℕ × ℕ) × List ℕ) → ◌≡◌ {A = Option ((ℕ × ℕ) × List ℕ)} None (cond passes (Some x) None) → passes ≡ false
none_by true x is = absurd cc
none_by false x is = refl

record IsNext (bytes : List ℕ) (e : ℕ × ℕ) (back : List ℕ) : Type 0 where
  entries : entries_in bytes ≡ e ∷ entries_in back
  shorter : length back < length bytes

is_next : (bytes : List ℕ) (e : ℕ × ℕ) (back : List ℕ) → Some (e, back) ≡ first_entry bytes → IsNext bytes e back
unfolding first_entry
is_next bytes e back is =
    let parts = first_by (leb 8 (length bytes)) e (word bytes 0, word bytes 4) back (drop 8 bytes) is in
    let long : 8 ≤ length bytes = leb-true 8 (length bytes) parts.0 in
    record {
      entries = entries_more bytes long ∙ ap (λ f. f ∷ entries_in (drop 8 bytes)) (sym parts.1) ∙ ap (λ xs. e ∷ entries_in xs) (sym parts.2);
      shorter = omega (arith, ap length parts.2, length-drop 8 bytes);
    }

-- ---- the list, entry by entry

abbrev list_over : ℕ → List (ℕ × ℕ) → Option (List Span)
list_over base es = option_map (λ place. ranges_of base (take place es)) (position is_end es)

pub no_more : (base : ℕ) (bytes : List ℕ) → None ≡ first_entry bytes → range_list base bytes ≡ None
unfolding range_list first_entry
no_more base bytes is =
    let past : leb 8 (length bytes) ≡ false = none_by (leb 8 (length bytes)) ((word bytes 0, word bytes 4), drop 8 bytes) is in
    let short : length bytes < 8 = grind (arith, nat_tests) in
    ap (list_over base) (entries_none bytes short)

module _ (base : ℕ) (bytes : List ℕ) (e : ℕ × ℕ) (back : List ℕ) (is : Some (e, back) ≡ first_entry bytes) where
  pub shorter : length back < length bytes
  shorter = (is_next bytes e back is).shorter

  pub ends : is_end e ≡ true → range_list base bytes ≡ Some []
  unfolding range_list ranges_of
  ends end =
      ap (list_over base) (is_next bytes e back is).entries
      ∙ ap (option_map (λ place. ranges_of base (take place (e ∷ entries_in back)))) (position_cons is_end e (entries_in back) ∙ ap (λ passes. cond passes (Some 0) (option_map (λ k. k + 1) (position is_end (entries_in back)))) end)

  taken : (places : Option ℕ) → option_map (λ place. ranges_of base (take place (e ∷ entries_in back))) (option_map (λ k. k + 1) places)
      ≡ option_map (λ place. ranges_of base (e ∷ take place (entries_in back))) places
  taken None = refl
  taken (Some k) = ap (λ n. Some (ranges_of base (take n (e ∷ entries_in back)))) (add-one k)

  goes_on : is_end e ≡ false → range_list base bytes ≡ option_map (λ place. ranges_of base (e ∷ take place (entries_in back))) (position is_end (entries_in back))
  unfolding range_list
  goes_on more =
      ap (list_over base) (is_next bytes e back is).entries
      ∙ ap (option_map (λ place. ranges_of base (take place (e ∷ entries_in back)))) (position_cons is_end e (entries_in back) ∙ ap (λ passes. cond passes (Some 0) (option_map (λ k. k + 1) (position is_end (entries_in back)))) more)
      ∙ taken (position is_end (entries_in back))

  chosen : nat_eq e.0 (2 ^ 32 - 1) ≡ true → (places : Option ℕ) → option_map (λ place. ranges_of base (e ∷ take place (entries_in back))) places
      ≡ option_map (λ place. ranges_of e.1 (take place (entries_in back))) places
  unfolding ranges_of
  chosen base_is None = refl
  chosen base_is (Some k) =
      ap (λ passes. Some (cond passes (ranges_of e.1 (take k (entries_in back)))
      (record { lo = (e.0 + base) % 2 ^ 32; hi = (e.1 + base) % 2 ^ 32 } ∷ ranges_of base (take k (entries_in back))))) base_is

  pub chooses : is_end e ≡ false → e.0 ≡ 2 ^ 32 - 1 → range_list base bytes ≡ range_list e.1 back
  unfolding range_list
  chooses more base_is = goes_on more ∙ chosen (eq-eqb e.0 (2 ^ 32 - 1) base_is) (position is_end (entries_in back))

  ranged : nat_eq e.0 (2 ^ 32 - 1) ≡ false → (places : Option ℕ) → option_map (λ place. ranges_of base (e ∷ take place (entries_in back))) places
      ≡ option_map (λ later. record { lo = (e.0 + base) % 2 ^ 32; hi = (e.1 + base) % 2 ^ 32 } ∷ later) (option_map (λ place. ranges_of base (take place (entries_in back))) places)
  unfolding ranges_of
  ranged plain None = refl
  ranged plain (Some k) =
      ap (λ passes. Some (cond passes (ranges_of e.1 (take k (entries_in back)))
      (record { lo = (e.0 + base) % 2 ^ 32; hi = (e.1 + base) % 2 ^ 32 } ∷ ranges_of base (take k (entries_in back))))) plain

  pub has_range : is_end e ≡ false → e.0 ≢ 2 ^ 32 - 1
      → range_list base bytes ≡ option_map (λ later. record { lo = (e.0 + base) % 2 ^ 32; hi = (e.1 + base) % 2 ^ 32 } ∷ later) (range_list base back)
  unfolding range_list
  has_range more plain = goes_on more ∙ ranged (ne_eqb e.0 (2 ^ 32 - 1) plain) (position is_end (entries_in back))

-- ---- ranges so far

pub all_of : (list : Option (List Span)) → list ≡ option_map (λ later. [] ++ later) list
all_of None = refl
all_of (Some ranges) = refl

pub one_more : (ranges : List Span) (r : Span) (list : Option (List Span))
    → option_map (λ later. ranges ++ later) (option_map (λ later. r ∷ later) list) ≡ option_map (λ later. (ranges ++ r ∷ []) ++ later) list
one_more ranges r None = refl
one_more ranges r (Some later) = ap Some (sym (append_assoc ranges (r ∷ []) later))
