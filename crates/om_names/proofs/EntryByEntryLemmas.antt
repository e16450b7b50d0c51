-- What entries tell, entry by entry.
use Rattle.std.proofs.Common.{◌≡◌, ℕ, suc, ◌+◌, ◌<◌, ◌≤◌, Bool, true, false, cond, ◌&&◌, nat_eq, List, [], ◌∷◌, ◌++◌, length, get_or, take, drop, map, Option, Some, None, refl, sym, ap, subst, ◌∙◌, arith, append_assoc, append-nil, drop-cons, length-append, take-append-drop}
use Rattle.std.specs.Prelude.{is_some, sum_by}
use Rattle.std.specs.List.{flat_map}
use Rattle.std.specs.Option.{option_or}
use Rattle.std.proofs.lemmas.Bool.{eq-eqb, ne_eqb}
use Rattle.std.proofs.lemmas.Grind.{flat_map-append}
use Rattle.std.proofs.lemmas.List.{map-append, take_all, take_more}
use Rattle.std.proofs.lemmas.List.Folds.{length-flat_map-take}
use Rattle.std.proofs.lemmas.List.Sums.{sum_by-cons, sum_by_more}
use Rattle.std.proofs.lemmas.Simd.{map-map}
use Rattle.om_base.specs.Firsts.{first_of}
use Rattle.om_base.specs.declared.span.Span.{Span}
use Rattle.om_die.specs.Constants.{DW_TAG_subprogram}
use Rattle.om_die.specs.RangeLists.{range_list}
use Rattle.om_die.specs.Units.{dies_of_units}
use Rattle.om_die.specs.declared.die.Die.{Die}
use Rattle.om_die.specs.declared.fault.DieFault.TheVariants as d
use Rattle.om_die.specs.declared.unit.Unit.{Unit}
use Rattle.om_names.specs.Ranges.{are_some, base_of, endless, listed, own_range, range_fault, ranges_by, ranges_of, ranges_offset}
use Rattle.om_names.specs.Names.{name_from}
use Rattle.om_names.specs.EntryByEntry.{count_by, count_in_unit, entry_in, fault_at, fault_in, has_ranges, list_offset, named_by, named_in_unit, named_spans, spans_by, unless_own}
use Rattle.om_names.specs.declared.names.Names.{Names}

-- ---- the fault of an entry

endless_some : (offset : Option ℕ) (spans : List Span) → endless offset (Some spans) ≡ None
endless_some None spans = refl
endless_some (Some at) spans = refl

endless_at : (at : ℕ) (list : Option (List Span)) → endless (Some at) list ≡ cond (is_some list) None (Some (d.Short at))
endless_at at None = refl
endless_at at (Some spans) = refl

endless_listed : (section : List ℕ) (base : ℕ) (offset : Option ℕ) → endless offset (listed section base offset) ≡ fault_at section base offset
unfolding fault_at
endless_listed section base None = refl
endless_listed section base (Some at) = endless_at at (range_list base (drop at section))

fault_by : (section : List ℕ) (base : ℕ) (die : Die) (tagged : Bool) (own : Option Span)
    → cond tagged (endless (ranges_offset die) (ranges_by section base die own)) None ≡ fault_at section base (cond tagged (unless_own own (ranges_offset die)) None)
unfolding fault_at
fault_by section base die false own = refl
fault_by section base die true None = endless_listed section base (ranges_offset die)
fault_by section base die true (Some span) = endless_some (ranges_offset die) (span ∷ [])

pub fault_is : (section : List ℕ) (unit : Unit) (die : Die) → range_fault section (entry_in unit die) ≡ fault_at section (base_of unit) (list_offset die)
unfolding list_offset ranges_of
fault_is section unit die = fault_by section (base_of unit) die (has_ranges die) (own_range die)

pub no_list : (section : List ℕ) (unit : Unit) (die : Die) → list_offset die ≡ None → None ≡ range_fault section (entry_in unit die)
unfolding fault_at
no_list section unit die is = sym (fault_is section unit die ∙ ap (fault_at section (base_of unit)) is)

pub list_ended : (section : List ℕ) (unit : Unit) (die : Die) (at : ℕ) → list_offset die ≡ Some at → is_some (range_list (base_of unit) (drop at section)) ≡ true → None ≡ range_fault section (entry_in unit die)
unfolding fault_at
list_ended section unit die at is ended = sym (fault_is section unit die ∙ ap (fault_at section (base_of unit)) is ∙ ap (λ b. cond b None (Some (d.Short at))) ended)

pub list_endless : (section : List ℕ) (unit : Unit) (die : Die) (at : ℕ) → list_offset die ≡ Some at → is_some (range_list (base_of unit) (drop at section)) ≡ false
    → Some (d.Short at) ≡ range_fault section (entry_in unit die)
unfolding fault_at
list_endless section unit die at is ended = sym (fault_is section unit die ∙ ap (fault_at section (base_of unit)) is ∙ ap (λ b. cond b None (Some (d.Short at))) ended)

-- ---- the first fault

pub first_both : {A : Type 0} (ones others : List (Option A)) → first_of (ones ++ others) ≡ option_or (first_of ones) (first_of others)
first_both [] others = refl
first_both (None ∷ ones) others = first_both ones others
first_both (Some x ∷ ones) others = refl

module _ {X A : Type 0} (fault : X → Option A) where
  -- one more without a fault
  pub first_more : (xs : List X) (i : ℕ) (x d : X) → i < length xs → x ≡ get_or xs i d → first_of (map fault (take i xs)) ≡ None → fault x ≡ None → first_of (map fault (take (i + 1) xs)) ≡ None
  first_more xs i x d within at none is =
      ap (λ ys. first_of (map fault ys)) (take_more xs i d within ∙ ap (λ y. take i xs ++ y ∷ []) (sym at)) ∙ ap (λ fs. first_of fs) (map-append fault (take i xs) (x ∷ []))
      ∙ first_both (map fault (take i xs)) (fault x ∷ []) ∙ ap (λ o. option_or o (first_of (fault x ∷ []))) none ∙ ap (λ o. option_or o None) is

  -- the next has the first fault
  pub first_found : (xs : List X) (i : ℕ) (x d : X) (told : A) → i < length xs → x ≡ get_or xs i d → first_of (map fault (take i xs)) ≡ None → fault x ≡ Some told → Some told ≡ first_of (map fault xs)
  first_found xs i x d told within at none is =
      let parts : xs ≡ take i xs ++ x ∷ drop (suc i) xs = sym (take-append-drop i xs) ∙ ap (λ ys. take i xs ++ ys) (drop-cons xs i d within ∙ ap (λ y. y ∷ drop (suc i) xs) (sym at)) in
      sym (ap (λ ys. first_of (map fault ys)) parts ∙ ap (λ fs. first_of fs) (map-append fault (take i xs) (x ∷ drop (suc i) xs)) ∙ first_both (map fault (take i xs)) (map fault (x ∷ drop (suc i) xs))
      ∙ ap (λ o. option_or o (first_of (map fault (x ∷ drop (suc i) xs)))) none ∙ ap (λ o. option_or o (first_of (map fault (drop (suc i) xs)))) is)

  pub first_none : (xs : List X) (i : ℕ) → length xs ≤ i → first_of (map fault (take i xs)) ≡ None → None ≡ first_of (map fault xs)
  first_none xs i all none = sym (ap (λ ys. first_of (map fault ys)) (sym (take_all i xs all)) ∙ none)

-- the first fault of all entries, unit by unit
pub first_by_units : (section : List ℕ) (units : List Unit) → first_of (map (fault_in section) units) ≡ first_of (map (range_fault section) (flat_map (λ unit. map (entry_in unit) unit.dies) units))
first_by_units section [] = refl
first_by_units section (unit ∷ units) =
    ap (option_or (fault_in section unit)) (first_by_units section units)
    ∙ ap (λ fs. option_or (first_of fs) (first_of (map (range_fault section) (flat_map (λ u. map (entry_in u) u.dies) units)))) (sym (map-map (range_fault section) (entry_in unit) unit.dies))
    ∙ sym (ap (λ fs. first_of fs) (map-append (range_fault section) (map (entry_in unit) unit.dies) (flat_map (λ u. map (entry_in u) u.dies) units))
    ∙ first_both (map (range_fault section) (map (entry_in unit) unit.dies)) (map (range_fault section) (flat_map (λ u. map (entry_in u) u.dies) units)))

-- ---- functions

pub map_more : {X Y : Type 0} (f : X → Y) (xs : List X) (i : ℕ) (x d : X) → i < length xs → x ≡ get_or xs i d → map f (take (i + 1) xs) ≡ map f (take i xs) ++ f x ∷ []
map_more f xs i x d within at = ap (map f) (take_more xs i d within ∙ ap (λ y. take i xs ++ y ∷ []) (sym at)) ∙ map-append f (take i xs) (x ∷ [])

pub flat_more : {X Y : Type 0} (f : X → List Y) (xs : List X) (i : ℕ) (x d : X) → i < length xs → x ≡ get_or xs i d → flat_map f (take (i + 1) xs) ≡ flat_map f (take i xs) ++ f x
flat_more f xs i x d within at =
    ap (flat_map f) (take_more xs i d within ∙ ap (λ y. take i xs ++ y ∷ []) (sym at)) ∙ flat_map-append f (take i xs) (x ∷ []) ∙ ap (λ ys. flat_map f (take i xs) ++ ys) (append-nil (f x))

pub sum_more : {X : Type 0} (f : X → ℕ) (xs : List X) (i : ℕ) (x d : X) → i < length xs → x ≡ get_or xs i d → sum_by f (take (i + 1) xs) ≡ sum_by f (take i xs) + f x
sum_more f xs i x d within at = sum_by_more f xs i d within ∙ ap (λ y. sum_by f (take i xs) + f y) (sym at)

-- what is made of the elements of lists, of one list more
pub made_more : {X Y Z : Type 0} (make : Y → Z) (f : X → List Y) (xs : List X) (i : ℕ) (x d : X) (before made more : List Z) → i < length xs → x ≡ get_or xs i d
    → made ≡ before ++ map make (flat_map f (take i xs)) → more ≡ made ++ map make (f x) → more ≡ before ++ map make (flat_map f (take (i + 1) xs))
made_more make f xs i x d before made more within at so_far added =
    added ∙ ap (λ zs. zs ++ map make (f x)) so_far ∙ append_assoc before (map make (flat_map f (take i xs))) (map make (f x))
    ∙ ap (λ zs. before ++ zs) (sym (ap (map make) (flat_more f xs i x d within at) ∙ map-append make (flat_map f (take i xs)) (f x)))

pub named_other : (names : Names) (section : List ℕ) (base : ℕ) (die : Die) → (die.tag ≡ DW_TAG_subprogram → ⊥) → named_spans names section base die ≡ []
unfolding named_spans
named_other names section base die other = ap (λ b. cond b (map (named_by (name_from names die)) (spans_by section base die)) []) (ne_eqb die.tag DW_TAG_subprogram other)

pub named_function : (names : Names) (section : List ℕ) (base : ℕ) (die : Die) → die.tag ≡ DW_TAG_subprogram → named_spans names section base die ≡ map (named_by (name_from names die)) (spans_by section base die)
unfolding named_spans
named_function names section base die is = ap (λ b. cond b (map (named_by (name_from names die)) (spans_by section base die)) []) (eq-eqb die.tag DW_TAG_subprogram is)

pub count_other : (section : List ℕ) (base : ℕ) (die : Die) → (die.tag ≡ DW_TAG_subprogram → ⊥) → count_by section base die ≡ 0
unfolding count_by
count_other section base die other = ap (λ b. cond (b && are_some (spans_by section base die)) 1 0) (ne_eqb die.tag DW_TAG_subprogram other)

pub count_function : (section : List ℕ) (base : ℕ) (die : Die) → die.tag ≡ DW_TAG_subprogram → count_by section base die ≡ cond (are_some (spans_by section base die)) 1 0
unfolding count_by
count_function section base die is = ap (λ b. cond (b && are_some (spans_by section base die)) 1 0) (eq-eqb die.tag DW_TAG_subprogram is)

one_or_none : (b : Bool) → cond b 1 0 ≤ 1
one_or_none true = omega arith
one_or_none false = omega arith

pub count_small : (section : List ℕ) (base : ℕ) (die : Die) → count_by section base die ≤ 1
unfolding count_by
count_small section base die = one_or_none (nat_eq die.tag DW_TAG_subprogram && are_some (spans_by section base die))

counts_small : (section : List ℕ) (base : ℕ) (dies : List Die) → sum_by (count_by section base) dies ≤ length dies
counts_small section base [] = omega arith
counts_small section base (die ∷ dies) = omega (arith, sum_by-cons (count_by section base) die dies, count_small section base die, counts_small section base dies)

pub unit_small : (section : List ℕ) (unit : Unit) → count_in_unit section unit ≤ length unit.dies
unfolding count_in_unit
unit_small section unit = counts_small section (base_of unit) unit.dies

-- the ranges and the number of functions of a unit, after all its entries
pub unit_named : (names : Names) (section : List ℕ) (unit : Unit) (base i : ℕ) (items : List Die) → base ≡ base_of unit → items ≡ unit.dies → length items ≤ i → flat_map (named_spans names section base) (take i items) ≡ named_in_unit names section unit
unfolding named_in_unit
unit_named names section unit base i items base_is is all = ap (flat_map (named_spans names section base)) (take_all i items all ∙ is) ∙ ap (λ b. flat_map (named_spans names section b) unit.dies) base_is

pub unit_count : (section : List ℕ) (unit : Unit) (base i : ℕ) (items : List Die) → base ≡ base_of unit → items ≡ unit.dies → length items ≤ i → sum_by (count_by section base) (take i items) ≡ count_in_unit section unit
unfolding count_in_unit
unit_count section unit base i items base_is is all = ap (sum_by (count_by section base)) (take_all i items all ∙ is) ∙ ap (λ b. sum_by (count_by section b) unit.dies) base_is

-- how many entries the units up to one have
pub dies_more : (units : List Unit) (i : ℕ) (unit d : Unit) → i < length units → unit ≡ get_or units i d → length (dies_of_units (take (i + 1) units)) ≡ length (dies_of_units (take i units)) + length unit.dies
dies_more units i unit d within at = ap length (flat_more (λ (u : Unit). u.dies) units i unit d within at) ∙ length-append (dies_of_units (take i units)) unit.dies

pub dies_within : (units : List Unit) (i : ℕ) (unit d : Unit) → i < length units → unit ≡ get_or units i d → length (dies_of_units (take i units)) + length unit.dies ≤ length (dies_of_units units)
dies_within units i unit d within at = subst (λ (u : Unit). length (dies_of_units (take i units)) + length u.dies ≤ length (dies_of_units units)) (sym at) (length-flat_map-take (λ (u : Unit). u.dies) units i d within)
