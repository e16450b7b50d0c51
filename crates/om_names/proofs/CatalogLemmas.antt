-- What is known name by name is what the catalog says.
use Rattle.std.proofs.Common.{◌≡◌, ℕ, zero, suc, Bool, true, false, cond, not, ◌&&◌, ◌||◌, nat_eq, List, [], ◌∷◌, ◌++◌, map, Option, Some, None, is_some, refl, sym, ap, subst, ◌∙◌, arith, true≢false, append_assoc, append-nil}
use Rattle.std.specs.Prelude.{bytes_eq, filter_map, fold, option_to_list, slice_get}
use Rattle.std.specs.List.{list_any}
use Rattle.std.specs.Option.{option_and_then, option_flatten, option_map, option_or}
use Rattle.std.specs.Cmp.Lexicographic.{bytes_decides, nat_list_eq_equiv}
use Rattle.std.proofs.lemmas.Bool.{eqb-true}
use Rattle.std.proofs.lemmas.List.{map-append}
use Rattle.std.proofs.lemmas.List.Elements.{filter-append, filter_map-append}
use Rattle.std.proofs.lemmas.List.Folds.{list_any-append}
use Rattle.std.proofs.lemmas.List.Sums.{fold-append}
use Rattle.std.proofs.lemmas.Option.{slice_get-map}
use Rattle.om_base.specs.declared.interval.Interval.{Interval}
use Rattle.om_names.specs.ByName.{both_differ, held_by, info_by, interval_in, place_in, put, seen_again, seen_in, seen_once, widened_by}
use Rattle.om_names.specs.Variables.{agree, are_some, catalog_of, counted_kind, differ, first_held, fixed_among, held_at, hull_of, if_fixed, info_of, is_ambiguous, name_of, named, names_in, widened, with_name}
use Rattle.om_names.specs.declared.by_name.Seen.{Seen}
use Rattle.om_eval.specs.declared.catalog.VarInfo.{VarInfo}
use Rattle.om_names.specs.declared.fixed.Fixed.{Fixed}
use Rattle.om_names.specs.declared.variable.Variable.{Variable}
use Rattle.om_names.specs.declared.variable.Variable.TheVariants as var

-- ---- variables that differ

both_true : (s t : Bool) → (s && t) ≡ true → (s ≡ true) × (t ≡ true)
both_true true true is = (refl, refl)
both_true true false is = absurd (true≢false (sym is))
both_true false t is = absurd (true≢false (sym is))

not_false : (b : Bool) → not b ≡ false → b ≡ true
not_false true is = refl
not_false false is = absurd (true≢false is)

agreed : (a b : Bool) → agree a b ≡ true → a ≡ b
agreed true true is = refl
agreed true false is = absurd (true≢false (sym is))
agreed false true is = absurd (true≢false (sym is))
agreed false false is = refl

-- how an address, a size and a sign differ from those of a variable
differ_by : ℕ → ℕ → Bool → Fixed → Bool
differ_by address size signed b = not (nat_eq address b.address && (nat_eq size (counted_kind b).size && agree signed (counted_kind b).signed))

-- what differs from one of two that don't differ, differs from the other
differ_same : (a b c : Fixed) → differ a b ≡ false → differ b c ≡ differ a c
unfolding differ_by
differ_same a b c is =
    let parts = both_true (nat_eq a.address b.address) (nat_eq (counted_kind a).size (counted_kind b).size && agree (counted_kind a).signed (counted_kind b).signed) (not_false _ is) in
    let kinds = both_true (nat_eq (counted_kind a).size (counted_kind b).size) (agree (counted_kind a).signed (counted_kind b).signed) parts.1 in
    let address : a.address ≡ b.address = eqb-true a.address b.address parts.0 in
    let size : (counted_kind a).size ≡ (counted_kind b).size = eqb-true (counted_kind a).size (counted_kind b).size kinds.0 in
    let signed : (counted_kind a).signed ≡ (counted_kind b).signed = agreed (counted_kind a).signed (counted_kind b).signed kinds.1 in
    sym (ap (λ x. differ_by x (counted_kind a).size (counted_kind a).signed c) address ∙ ap (λ x. differ_by b.address x (counted_kind a).signed c) size ∙ ap (λ x. differ_by b.address (counted_kind b).size x c) signed)

any_same : (a b : Fixed) (others : List Fixed) → differ a b ≡ false → list_any (differ b) others ≡ list_any (differ a) others
any_same a b [] is = refl
any_same a b (c ∷ others) is = ap (λ x. x || list_any (differ b) others) (differ_same a b c is) ∙ ap (λ x. differ a c || x) (any_same a b others is)

-- of two that differ one differs from the first
pub by_first : (first : Fixed) (others : List Fixed) → is_ambiguous (first ∷ others) ≡ list_any (differ first) others
unfolding is_ambiguous
by_first first [] = refl
by_first first (b ∷ others) = by (differ first b) refl (by_first b others)
  where
    twice : (x : Bool) → (x || x) ≡ x
    twice true = refl
    twice false = refl

    by : (apart : Bool) → differ first b ≡ apart → (list_any (differ b) others || is_ambiguous others) ≡ list_any (differ b) others
        → ((apart || list_any (differ first) others) || (list_any (differ b) others || is_ambiguous others)) ≡ (apart || list_any (differ first) others)
    by true is later = refl
    by false is later = ap (λ x. list_any (differ first) others || x) (later ∙ any_same first b others is) ∙ twice (list_any (differ first) others)

or_false : (b : Bool) → (b || false) ≡ b
or_false true = refl
or_false false = refl

ambiguous_more : (first : Fixed) (before : List Fixed) (fixed : Fixed) → (is_ambiguous (first ∷ before) || differ first fixed) ≡ is_ambiguous (first ∷ before ++ fixed ∷ [])
ambiguous_more first before fixed =
    ap (λ b. b || differ first fixed) (by_first first before)
    ∙ ap (λ b. list_any (differ first) before || b) (sym (or_false (differ first fixed)))
    ∙ sym (list_any-append (differ first) before (fixed ∷ [])) ∙ sym (by_first first (before ++ fixed ∷ []))

-- ---- hulls

widened_one : (hull : Option Interval) (fixed : Variable) (more : Option Interval) → interval_in fixed ≡ more → widened_by hull more ≡ fold widened hull (filter_map interval_in (fixed ∷ []))
widened_one hull fixed None is = rw is refl
widened_one hull fixed (Some interval) is = rw is refl

hull_more : (before : List Variable) (fixed : Variable) → widened_by (hull_of before) (interval_in fixed) ≡ hull_of (before ++ fixed ∷ [])
hull_more before fixed =
    widened_one (hull_of before) fixed (interval_in fixed) refl
    ∙ sym (fold-append widened None (filter_map interval_in before) (filter_map interval_in (fixed ∷ []))) ∙ ap (fold widened None) (sym (filter_map-append interval_in before (fixed ∷ [])))

-- ---- fixed variables among others

-- the first, if there is one
first_fixed : List Fixed → Option Fixed
first_fixed [] = None
first_fixed (first ∷ others) = Some first

among_more : (variables : List Variable) (variable : Variable) → fixed_among (variables ++ variable ∷ []) ≡ fixed_among variables ++ option_to_list (if_fixed variable)
among_more variables variable = filter_map-append if_fixed variables (variable ∷ []) ∙ ap (λ fs. fixed_among variables ++ fs) (one_among variable)
  where
    one_among : (v : Variable) → fixed_among (v ∷ []) ≡ option_to_list (if_fixed v)
    one_among (var.Fixed fixed) = refl
    one_among (var.Local local) = refl

first_more : (fixed : List Fixed) (more : Option Fixed) → option_or (first_fixed fixed) more ≡ first_fixed (fixed ++ option_to_list more)
unfolding first_fixed
first_more [] None = refl
first_more [] (Some one) = refl
first_more (first ∷ others) more = refl

differ_more : (fixed : List Fixed) (more : Option Fixed) → (is_ambiguous fixed || both_differ (first_fixed fixed) more) ≡ is_ambiguous (fixed ++ option_to_list more)
unfolding first_fixed is_ambiguous
differ_more [] None = refl
differ_more [] (Some one) = refl
differ_more (first ∷ others) None = or_false (is_ambiguous (first ∷ others)) ∙ ap is_ambiguous (sym (append-nil (first ∷ others)))
differ_more (first ∷ others) (Some one) = ambiguous_more first others one

-- ---- variables of one name

noted : Option Seen → Variable → Option Seen
noted None variable = Some (seen_once variable)
noted (Some seen) variable = Some (seen_again seen variable)

-- what is known of some variables
known : List Variable → Option Seen
known variables = fold noted None variables

-- of some and a first one
known_from : Variable → List Variable → Seen
known_from first others = record { name = name_of first; fixed = first_fixed (fixed_among (first ∷ others)); scalar = hull_of (first ∷ others); ambiguous = is_ambiguous (fixed_among (first ∷ others)) }

seen_by : List ℕ → Option Fixed → Option Interval → Bool → Seen
seen_by name fixed scalar ambiguous = record { name = name; fixed = fixed; scalar = scalar; ambiguous = ambiguous }

known_more : (first : Variable) (before : List Variable) (variable : Variable) → seen_again (known_from first before) variable ≡ known_from first (before ++ variable ∷ [])
unfolding known_from seen_by
known_more first before variable =
    ap (λ scalar. seen_by (name_of first) (option_or (first_fixed (fixed_among (first ∷ before))) (if_fixed variable)) scalar (is_ambiguous (fixed_among (first ∷ before)) || both_differ (first_fixed (fixed_among (first ∷ before))) (if_fixed variable)))
    (hull_more (first ∷ before) variable)
    ∙ ap (λ ambiguous. seen_by (name_of first) (option_or (first_fixed (fixed_among (first ∷ before))) (if_fixed variable)) (hull_of (first ∷ before ++ variable ∷ [])) ambiguous)
    (differ_more (fixed_among (first ∷ before)) (if_fixed variable) ∙ ap is_ambiguous (sym (among_more (first ∷ before) variable)))
    ∙ ap (λ fixed. seen_by (name_of first) fixed (hull_of (first ∷ before ++ variable ∷ [])) (is_ambiguous (fixed_among (first ∷ before ++ variable ∷ []))))
    (first_more (fixed_among (first ∷ before)) (if_fixed variable) ∙ ap first_fixed (sym (among_more (first ∷ before) variable)))

known_behind : (first : Variable) (before others : List Variable) → fold noted (Some (known_from first before)) others ≡ Some (known_from first (before ++ others))
unfolding noted
known_behind first before [] = ap (λ xs. Some (known_from first xs)) (sym (append-nil before))
known_behind first before (variable ∷ others) =
    ap (λ seen. fold noted (Some seen) others) (known_more first before variable) ∙ known_behind first (before ++ variable ∷ []) others
    ∙ ap (λ xs. Some (known_from first xs)) (append_assoc before (variable ∷ []) others)

once_known : (first : Variable) → seen_once first ≡ known_from first []
unfolding known_from is_ambiguous first_fixed seen_by
once_known first =
    ap (λ scalar. seen_by (name_of first) (if_fixed first) scalar false) (hull_more [] first)
    ∙ ap (λ ambiguous. seen_by (name_of first) (if_fixed first) (hull_of (first ∷ [])) ambiguous) (differ_more [] (if_fixed first) ∙ ap is_ambiguous (sym (among_more [] first)))
    ∙ ap (λ fixed. seen_by (name_of first) fixed (hull_of (first ∷ [])) (is_ambiguous (fixed_among (first ∷ [])))) (first_more [] (if_fixed first) ∙ ap first_fixed (sym (among_more [] first)))

known_all : (first : Variable) (others : List Variable) → known (first ∷ others) ≡ Some (known_from first others)
unfolding known noted
known_all first others = ap (λ seen. fold noted (Some seen) others) (once_known first) ∙ known_behind first [] others

some_first : (fixed : List Fixed) → is_some (first_fixed fixed) ≡ are_some fixed
unfolding first_fixed
some_first [] = refl
some_first (first ∷ others) = refl

info_with : List ℕ → Option Interval → Bool → Bool → VarInfo
info_with name scalar ambiguous fixed = record { name = name; scalar = scalar; ambiguous = ambiguous; fixed = fixed }

info_known : (variables : List Variable) (seen : Seen) → known variables ≡ Some seen → info_by seen ≡ info_of variables seen.name
unfolding known noted known_from info_with
info_known [] seen is = absurd cc
info_known (first ∷ others) seen is =
    let same : seen ≡ known_from first others = cc (known_all first others) in
    rw same (ap (info_with (name_of first) (hull_of (first ∷ others)) (is_ambiguous (fixed_among (first ∷ others)))) (some_first (fixed_among (first ∷ others))))

first_by : (fixed : List Fixed) → cond (is_ambiguous fixed) None (option_and_then held_at (first_fixed fixed)) ≡ first_held fixed
unfolding first_fixed is_ambiguous
first_by [] = refl
first_by (first ∷ others) = refl

held_known : (variables : List Variable) (seen : Seen) → known variables ≡ Some seen → held_by seen ≡ first_held (fixed_among variables)
unfolding known noted known_from
held_known [] seen is = absurd cc
held_known (first ∷ others) seen is = let same : seen ≡ known_from first others = cc (known_all first others) in rw same (first_by (fixed_among (first ∷ others)))

-- ---- the names of variables

module _ (before : List Variable) (variable : Variable) where
  names_more : names_in (before ++ variable ∷ []) ≡ with_name (names_in before) (name_of variable)
  unfolding names_in
  names_more = ap (fold with_name []) (map-append (λ (it : Variable). name_of it) before (variable ∷ [])) ∙ fold-append with_name [] (map (λ (it : Variable). name_of it) before) ((name_of variable) ∷ [])

  named_more : (name : List ℕ) → named (before ++ variable ∷ []) name ≡ named before name ++ cond (bytes_eq name (name_of variable)) (variable ∷ []) []
  named_more name = filter-append (λ (it : Variable). bytes_eq name (name_of it)) before (variable ∷ [])

  named_apart : (name : List ℕ) → bytes_eq name (name_of variable) ≡ false → named (before ++ variable ∷ []) name ≡ named before name
  named_apart name apart = named_more name ∙ ap (λ b. named before name ++ cond b (variable ∷ []) []) apart ∙ append-nil (named before name)

  known_same : known (named (before ++ variable ∷ []) (name_of variable)) ≡ noted (known (named before (name_of variable))) variable
  unfolding known
  known_same =
      ap known (named_more (name_of variable) ∙ ap (λ b. named before (name_of variable) ++ cond b (variable ∷ []) []) (nat_list_eq_equiv.refl (name_of variable)))
      ∙ fold-append noted None (named before (name_of variable)) (variable ∷ [])

-- no name stands twice
Distinct : List (List ℕ) → Type 0
Distinct [] = Unit {0}
Distinct (name ∷ names) = (list_any (bytes_eq name) names ≡ false) × Distinct names

both_false : (s t : Bool) → (s || t) ≡ false → (s ≡ false) × (t ≡ false)
both_false true t is = absurd (true≢false is)
both_false false t is = (refl, is)

neither : (s t : Bool) → s ≡ false → t ≡ false → (s || t) ≡ false
neither s t s_is t_is = ap (λ b. b || t) s_is ∙ t_is

distinct_end : (names : List (List ℕ)) (name : List ℕ) → Distinct names → list_any (bytes_eq name) names ≡ false → Distinct (names ++ name ∷ [])
unfolding Distinct
distinct_end [] name are new = (refl, tt)
distinct_end (one ∷ names) name are new =
    let parts = both_false (bytes_eq name one) (list_any (bytes_eq name) names) new in (
      list_any-append (bytes_eq one) names (name ∷ []) ∙ neither (list_any (bytes_eq one) names) (bytes_eq one name || false) are.0 (or_false (bytes_eq one name) ∙ nat_list_eq_equiv.symm one name ∙ parts.0),
      distinct_end names name are.1 parts.1,
    )

distinct_more : (names : List (List ℕ)) (name : List ℕ) → Distinct names → Distinct (with_name names name)
distinct_more names name are = by (list_any (bytes_eq name) names) refl
  where
    by : (b : Bool) → list_any (bytes_eq name) names ≡ b → Distinct (cond b names (names ++ name ∷ []))
    by true is = are
    by false is = distinct_end names name are is

-- a name that is none of some with one more is none of them and not that one
not_among : (names : List (List ℕ)) (one name : List ℕ) → list_any (bytes_eq name) (with_name names one) ≡ false → (list_any (bytes_eq name) names ≡ false) × (bytes_eq name one ≡ false)
not_among names one name is = by (list_any (bytes_eq one) names) refl is
  where
    apart : list_any (bytes_eq one) names ≡ true → list_any (bytes_eq name) names ≡ false → (b : Bool) → bytes_eq name one ≡ b → bytes_eq name one ≡ false
    apart there none true same = let e : name ≡ one = (bytes_decides name one).0 same in absurd (true≢false (sym there ∙ ap (λ n. list_any (bytes_eq n) names) (sym e) ∙ none))
    apart there none false other = other

    by : (b : Bool) → list_any (bytes_eq one) names ≡ b → list_any (bytes_eq name) (cond b names (names ++ one ∷ [])) ≡ false → (list_any (bytes_eq name) names ≡ false) × (bytes_eq name one ≡ false)
    by true there none = (none, apart there none (bytes_eq name one) refl)
    by false new none =
        let parts = both_false (list_any (bytes_eq name) names) (bytes_eq name one || false) (sym (list_any-append (bytes_eq name) names (one ∷ [])) ∙ none) in
        (parts.0, sym (or_false (bytes_eq name one)) ∙ parts.1)

-- ---- name by name

record AreKnown (variable : List Variable) (seen : List Seen) : Type 0 where
  names : map (λ it. it.name) seen ≡ names_in variable
  tells : map Some seen ≡ map (λ name. known (named variable name)) (names_in variable)
  distinct : Distinct (names_in variable)
  others : (name : List ℕ) → list_any (bytes_eq name) (names_in variable) ≡ false → named variable name ≡ []

-- of names that don't have a name, another of that name changes nothing
same_others : (f g : List ℕ → Option Seen) (name : List ℕ) (names : List (List ℕ)) → ((one : List ℕ) → bytes_eq one name ≡ false → f one ≡ g one) → list_any (bytes_eq name) names ≡ false → map f names ≡ map g names
same_others f g name [] same none = refl
same_others f g name (one ∷ names) same none =
    let parts = both_false (bytes_eq name one) (list_any (bytes_eq name) names) none in
    ap (λ x. x ∷ map f names) (same one (nat_list_eq_equiv.symm one name ∙ parts.0)) ∙ ap (λ xs. g one ∷ xs) (same_others f g name names same parts.1)

module _ (f g : List ℕ → Option Seen) (variable : Variable) (apart : (one : List ℕ) → bytes_eq one (name_of variable) ≡ false → f one ≡ g one) (same : f (name_of variable) ≡ noted (g (name_of variable)) variable) where
  put_tells : (seen : List Seen) (names : List (List ℕ)) → map (λ it. it.name) seen ≡ names → map Some seen ≡ map g names → Distinct names → (list_any (bytes_eq (name_of variable)) names ≡ false → g (name_of variable) ≡ None)
      → map Some (put seen variable) ≡ map f (with_name names (name_of variable))
  unfolding put noted Distinct
  put_tells [] [] names_are tells distinct new = ap (λ x. x ∷ []) (sym (same ∙ ap (λ o. noted o variable) (new refl)))
  put_tells [] (name ∷ names) names_are tells distinct new = absurd cc
  put_tells (one ∷ seen) [] names_are tells distinct new = absurd cc
  put_tells (one ∷ seen) (name ∷ names) names_are tells distinct new =
      let first : one.name ≡ name = cc in
      let rest : map (λ it. it.name) seen ≡ names = cc in
      let told : Some one ≡ g name = cc in
      let others : map Some seen ≡ map g names = cc in
      subst (λ n. map Some (cond (bytes_eq (name_of variable) n) (seen_again one variable ∷ seen) (one ∷ put seen variable)) ≡ map f (with_name (name ∷ names) (name_of variable))) (sym first)
      (by (bytes_eq (name_of variable) name) refl told others (put_tells seen names rest others distinct.1))
    where
      here : (name_of variable) ≡ name → Some one ≡ g name → Some (seen_again one variable) ≡ f name
      here is told = sym (ap f (sym is) ∙ same ∙ ap (λ o. noted o variable) (ap g is ∙ sym told))

      later : (b : Bool) → list_any (bytes_eq (name_of variable)) names ≡ b → f name ∷ map f (cond b names (names ++ (name_of variable) ∷ [])) ≡ map f (cond b (name ∷ names) (name ∷ names ++ (name_of variable) ∷ []))
      later true is = refl
      later false is = refl

      by : (b : Bool) → bytes_eq (name_of variable) name ≡ b → Some one ≡ g name → map Some seen ≡ map g names
          → ((list_any (bytes_eq (name_of variable)) names ≡ false → g (name_of variable) ≡ None) → map Some (put seen variable) ≡ map f (with_name names (name_of variable)))
          → map Some (cond b (seen_again one variable ∷ seen) (one ∷ put seen variable)) ≡ map f (cond (b || list_any (bytes_eq (name_of variable)) names) (name ∷ names) (name ∷ names ++ (name_of variable) ∷ []))
      by true is told others_are behind =
          let e : (name_of variable) ≡ name = (bytes_decides (name_of variable) name).0 is in
          ap (λ x. x ∷ map Some seen) (here e told)
          ∙ ap (λ xs. f name ∷ xs) (others_are ∙ sym (same_others f g name names (λ x other. apart x (ap (λ n. bytes_eq x n) e ∙ other)) distinct.0))
      by false is told others_are behind =
          ap (λ x. x ∷ map Some (put seen variable)) (told ∙ sym (apart name (nat_list_eq_equiv.symm name (name_of variable) ∙ is)))
          ∙ ap (λ xs. f name ∷ xs) (behind (λ none. new (neither (bytes_eq (name_of variable) name) (list_any (bytes_eq (name_of variable)) names) is none)))
          ∙ later (list_any (bytes_eq (name_of variable)) names) refl

put_names : (seen : List Seen) (variable : Variable) → map (λ it. it.name) (put seen variable) ≡ with_name (map (λ it. it.name) seen) (name_of variable)
unfolding put
put_names [] variable = refl
put_names (one ∷ seen) variable = by (bytes_eq (name_of variable) one.name) (put_names seen variable)
  where
    names : List (List ℕ)
    names = map (λ (it : Seen). it.name) seen

    behind : (b : Bool) → one.name ∷ cond b names (names ++ (name_of variable) ∷ []) ≡ cond b (one.name ∷ names) (one.name ∷ names ++ (name_of variable) ∷ [])
    behind true = refl
    behind false = refl

    by : (b : Bool) → map (λ it. it.name) (put seen variable) ≡ with_name names (name_of variable)
        → map (λ it. it.name) (cond b (seen_again one variable ∷ seen) (one ∷ put seen variable)) ≡ cond (b || list_any (bytes_eq (name_of variable)) names) (one.name ∷ names) (one.name ∷ names ++ (name_of variable) ∷ [])
    by true later = refl
    by false later = ap (λ ns. one.name ∷ ns) later ∙ behind (list_any (bytes_eq (name_of variable)) names)

known_put : (before : List Variable) (seen : List Seen) (variable : Variable) → AreKnown before seen → AreKnown (before ++ variable ∷ []) (put seen variable)
unfolding known
known_put before seen variable are = record {
  names = put_names seen variable ∙ ap (λ ns. with_name ns (name_of variable)) are.names ∙ sym (names_more before variable);
  tells =
      put_tells (λ name. known (named (before ++ variable ∷ []) name)) (λ name. known (named before name)) variable (λ one apart. ap known (named_apart before variable one apart)) (known_same before variable)
      seen (names_in before) are.names are.tells are.distinct (λ none. ap known (are.others (name_of variable) none))
      ∙ ap (map (λ name. known (named (before ++ variable ∷ []) name))) (sym (names_more before variable));
  distinct = subst Distinct (sym (names_more before variable)) (distinct_more (names_in before) (name_of variable) are.distinct);
  others = λ name none.
      let parts = not_among (names_in before) (name_of variable) name (ap (list_any (bytes_eq name)) (sym (names_more before variable)) ∙ none) in
      named_apart before variable name parts.1 ∙ are.others name parts.0;
}

known_none : AreKnown [] []
unfolding names_in Distinct
known_none = record { names = refl; tells = refl; distinct = tt; others = λ name none. refl }

known_after : (before after : List Variable) (seen : List Seen) → AreKnown before seen → AreKnown (before ++ after) (fold put seen after)
known_after before [] seen are = subst (λ variable. AreKnown variable seen) (sym (append-nil before)) are
known_after before (variable ∷ after) seen are =
    subst (λ all. AreKnown all (fold put (put seen variable) after)) (append_assoc before (variable ∷ []) after) (known_after (before ++ variable ∷ []) after (put seen variable) (known_put before seen variable are))

module _ {A : Type 0} (told : Seen → A) (says : List ℕ → A) (g : List ℕ → Option Seen) (means : (name : List ℕ) (seen : Seen) → g name ≡ Some seen → seen.name ≡ name → told seen ≡ says name) where
  all_told : (seen : List Seen) (names : List (List ℕ)) → map (λ it. it.name) seen ≡ names → map Some seen ≡ map g names → map told seen ≡ map says names
  all_told [] [] names_are tells = refl
  all_told [] (name ∷ names) names_are tells = absurd cc
  all_told (one ∷ seen) [] names_are tells = absurd cc
  all_told (one ∷ seen) (name ∷ names) names_are tells =
      let first : one.name ≡ name = cc in
      let rest : map (λ it. it.name) seen ≡ names = cc in
      let here : g name ≡ Some one = cc in
      let others : map Some seen ≡ map g names = cc in
      ap (λ x. x ∷ map told seen) (means name one here first) ∙ ap (λ xs. says name ∷ xs) (all_told seen names rest others)

known_fixed : (variable : List Variable) → AreKnown variable (seen_in variable)
known_fixed variable = known_after [] variable [] known_none

-- the catalog
pub catalog_is : (variable : List Variable) → map info_by (seen_in variable) ≡ catalog_of variable
unfolding catalog_of
catalog_is variable =
    all_told info_by (λ name. info_of (named variable name) name) (λ name. known (named variable name)) (λ name seen is same. info_known (named variable name) seen is ∙ ap (info_of (named variable name)) same) (seen_in variable) (names_in variable)
    (known_fixed variable).names (known_fixed variable).tells

flattened : {A B : Type 0} (f : A → Option B) (found : Option A) → option_flatten (option_map f found) ≡ option_and_then f found
flattened f None = refl
flattened f (Some x) = refl

-- the fixed variables that are meant
pub held_is : (variables : List Variable) (place : ℕ) → option_flatten (slice_get (map held_by (seen_in variables)) place) ≡ option_and_then (λ name. first_held (fixed_among (named variables name))) (slice_get (names_in variables) place)
held_is variables place =
    ap (λ held. option_flatten (slice_get held place))
    (all_told held_by (λ name. first_held (fixed_among (named variables name))) (λ name. known (named variables name)) (λ name seen is same. held_known (named variables name) seen is) (seen_in variables) (names_in variables)
    (known_fixed variables).names (known_fixed variables).tells)
    ∙ ap option_flatten (slice_get-map (λ name. first_held (fixed_among (named variables name))) (names_in variables) place)
    ∙ flattened (λ name. first_held (fixed_among (named variables name))) (slice_get (names_in variables) place)

-- ---- the places of names

place_first : (seen : List Seen) (names : List (List ℕ)) (place : ℕ) (name : List ℕ) → map (λ it. it.name) seen ≡ names → Distinct names → slice_get names place ≡ Some name → place_in name seen ≡ Some place
unfolding place_in Distinct
place_first [] [] place name are distinct at = absurd cc
place_first [] (n ∷ names) place name are distinct at = absurd cc
place_first (one ∷ seen) [] place name are distinct at = absurd cc
place_first (one ∷ seen) (n ∷ names) zero name are distinct at =
    let first : one.name ≡ n = cc in
    let here : n ≡ name = cc in
    ap (λ m. cond (bytes_eq name m) (Some 0) (option_map suc (place_in name seen))) (first ∙ here) ∙ ap (λ b. cond b (Some 0) (option_map suc (place_in name seen))) (nat_list_eq_equiv.refl name)
place_first (one ∷ seen) (n ∷ names) (suc place) name are distinct at =
    let first : one.name ≡ n = cc in
    let rest : map (λ it. it.name) seen ≡ names = cc in
    let apart : bytes_eq name n ≡ false = nat_list_eq_equiv.symm name n ∙ none_at names place n name distinct.0 at in
    ap (λ m. cond (bytes_eq name m) (Some 0) (option_map suc (place_in name seen))) first ∙ ap (λ b. cond b (Some 0) (option_map suc (place_in name seen))) apart
    ∙ ap (option_map suc) (place_first seen names place name rest distinct.1 at)
  where
    none_at : (ns : List (List ℕ)) (p : ℕ) (m l : List ℕ) → list_any (bytes_eq m) ns ≡ false → slice_get ns p ≡ Some l → bytes_eq m l ≡ false
    none_at [] p m l none is = absurd cc
    none_at (x ∷ ns) zero m l none is = let e : x ≡ l = cc in ap (bytes_eq m) (sym e) ∙ (both_false (bytes_eq m x) (list_any (bytes_eq m) ns) none).0
    none_at (x ∷ ns) (suc p) m l none is = none_at ns p m l (both_false (bytes_eq m x) (list_any (bytes_eq m) ns) none).1 is

-- a name of the catalog has its place there among what is known of them
pub place_is : (variables : List Variable) (place : ℕ) (name : List ℕ) → slice_get (names_in variables) place ≡ Some name → place_in name (seen_in variables) ≡ Some place
place_is variables place name at = place_first (seen_in variables) (names_in variables) place name (known_fixed variables).names (known_fixed variables).distinct at

-- two names that have one place are the same
pub one_name : (seen : List Seen) (place : ℕ) (a b : List ℕ) → place_in a seen ≡ Some place → place_in b seen ≡ Some place → a ≡ b
unfolding place_in
one_name [] place a b is also = absurd cc
one_name (one ∷ seen) place a b is also = by (bytes_eq a one.name) (bytes_eq b one.name) refl refl is also (λ p x y. one_name seen p a b x y)
  where
    some_suc : (o : Option ℕ) → option_map suc o ≡ Some place → (j : ℕ) × (o ≡ Some j) × (place ≡ suc j)
    some_suc None e = absurd cc
    some_suc (Some j) e = (j, refl, cc)

    no_zero : (o : Option ℕ) → option_map suc o ≡ Some 0 → ⊥
    no_zero None e = cc
    no_zero (Some j) e = cc

    by : (x y : Bool) → bytes_eq a one.name ≡ x → bytes_eq b one.name ≡ y → cond x (Some 0) (option_map suc (place_in a seen)) ≡ Some place → cond y (Some 0) (option_map suc (place_in b seen)) ≡ Some place
        → ((p : ℕ) → place_in a seen ≡ Some p → place_in b seen ≡ Some p → a ≡ b) → a ≡ b
    by true true a_is b_is here there later = (bytes_decides a one.name).0 a_is ∙ sym ((bytes_decides b one.name).0 b_is)
    by true false a_is b_is here there later = let zero_is : place ≡ 0 = cc in absurd (no_zero (place_in b seen) (there ∙ ap Some zero_is))
    by false true a_is b_is here there later = let zero_is : place ≡ 0 = cc in absurd (no_zero (place_in a seen) (here ∙ ap Some zero_is))
    by false false a_is b_is here there later =
        let one_at = some_suc (place_in a seen) here in
        let other_at = some_suc (place_in b seen) there in
        let same : other_at.0 ≡ one_at.0 = omega (arith, one_at.2, other_at.2) in
        later one_at.0 one_at.1 (other_at.1 ∙ ap Some same)
