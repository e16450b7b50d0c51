-- What the laws of variables say.
use Rattle.std.proofs.Common.{◌≡◌, ℕ, Bool, true, false, cond, not, ◌&&◌, ◌||◌, nat_eq, List, [], ◌∷◌, ◌++◌, Option, Some, None, refl, ap, subst, ◌∙◌}
use Rattle.std.specs.Prelude.{All, unwrap_or}
use Rattle.std.specs.List.{list_any}
use Rattle.std.specs.Option.{option_and_then, option_map}
use Rattle.std.proofs.lemmas.List.Folds.{list_any-append, list_any_none}
use Rattle.om_die.specs.declared.die.Die.{Die}
use Rattle.om_names.specs.Constants.{DW_AT_byte_size, DW_AT_encoding, DW_TAG_base_type, DW_TAG_enumeration_type, DW_TAG_pointer_type, DW_TAG_variable}
use Rattle.om_names.specs.Functions.{name_among}
use Rattle.om_names.specs.Types.{base_kind, constant, enumeration_kind, kind_in, of_size, scalar_of, sign_of, sizes, typing_of}
use Rattle.om_names.specs.Above.{Placed}
use Rattle.om_names.specs.FixedVariables.{fixed_address, fixed_of, is_declaration, is_function, is_outside}
use Rattle.om_names.specs.Variables.{agree, differ, interval_of, is_ambiguous, numbers_of}
use Rattle.om_names.specs.declared.fixed.Fixed.{Fixed}
use Rattle.om_names.specs.declared.kind.Kind.{Kind}
use Rattle.om_names.proofs.CatalogLemmas.{by_first}

-- ---- no variable

no_both : (s t : Bool) → (s && (not t && false)) ≡ false
no_both true true = refl
no_both true false = refl
no_both false t = refl

no_inside : (s t : Bool) → (s && (false && t)) ≡ false
no_inside true t = refl
no_inside false t = refl

not_outside : (dies : List Die) (placed : Placed) → is_outside placed ≡ false → fixed_of dies placed ≡ None
unfolding fixed_of
not_outside dies placed is =
    ap (λ b. cond b (option_and_then (λ name. option_map (λ address. record { name = name; address = address; kind = kind_in (typing_of dies placed.die) }) (fixed_address placed.die)) (name_among dies placed.die)) None) is

pub no_declaration : (dies : List Die) (placed : Placed) → is_declaration placed.die ≡ true → fixed_of dies placed ≡ None
no_declaration dies placed is =
    not_outside dies placed
    (ap (λ b. nat_eq placed.die.tag DW_TAG_variable && (not (list_any is_function placed.line) && not b)) is ∙ no_both (nat_eq placed.die.tag DW_TAG_variable) (list_any is_function placed.line))

pub no_local : (dies : List Die) (placed : Placed) → list_any is_function placed.line ≡ true → fixed_of dies placed ≡ None
no_local dies placed is =
    not_outside dies placed
    (ap (λ b. nat_eq placed.die.tag DW_TAG_variable && (not b && not (is_declaration placed.die))) is ∙ no_inside (nat_eq placed.die.tag DW_TAG_variable) (not (is_declaration placed.die)))

-- ---- ambiguous names

or_true : (a b : Bool) → b ≡ true → (a || b) ≡ true
or_true true b is = refl
or_true false b is = is

true_or : (a b : Bool) → a ≡ true → (a || b) ≡ true
true_or true b is = refl
true_or false b is = ap (λ x. x || b) is

pub two_differ : (before between after : List Fixed) (a b : Fixed) → differ a b ≡ true → is_ambiguous (before ++ a ∷ between ++ b ∷ after) ≡ true
unfolding is_ambiguous
two_differ [] between after a b is =
    true_or (list_any (differ a) (between ++ b ∷ after)) (is_ambiguous (between ++ b ∷ after))
    (list_any-append (differ a) between (b ∷ after) ∙ or_true (list_any (differ a) between) (differ a b || list_any (differ a) after) (true_or (differ a b) (list_any (differ a) after) is))
two_differ (one ∷ before) between after a b is =
    or_true (list_any (differ one) (before ++ a ∷ between ++ b ∷ after)) (is_ambiguous (before ++ a ∷ between ++ b ∷ after)) (two_differ before between after a b is)

pub all_alike : (first : Fixed) (others : List Fixed) → All (λ it. differ first it ≡ false) others → is_ambiguous (first ∷ others) ≡ false
all_alike first others alike = by_first first others ∙ list_any_none (differ first) others alike

no_sign : (s t : Bool) → not (s && (t && false)) ≡ true
no_sign true true = refl
no_sign true false = refl
no_sign false t = refl

pub other_sign : (a b : Fixed) (size : ℕ) → a.kind ≡ Some (record { size = size; signed = true }) → b.kind ≡ Some (record { size = size; signed = false }) → differ a b ≡ true
other_sign a b size a_is b_is =
    ap (λ k. with_kinds k b.kind) a_is ∙ ap (λ k. with_kinds (Some (record { size = size; signed = true })) k) b_is ∙ no_sign (nat_eq a.address b.address) (nat_eq size size)
  where
    none : Kind
    none = record { size = 0; signed = false }

    with_kinds : Option Kind → Option Kind → Bool
    with_kinds k l = not (nat_eq a.address b.address && (nat_eq (unwrap_or k none).size (unwrap_or l none).size && agree (unwrap_or k none).signed (unwrap_or l none).signed))

-- ---- scalar types

Numbered : Option Kind → Type 0
Numbered found = (kind : Kind) → found ≡ Some kind → interval_of kind ≡ Some (numbers_of kind)

none_numbered : Numbered None
unfolding Numbered
none_numbered kind is = absurd cc

sized_by : (size : ℕ) (signed b : Bool) → list_any (nat_eq size) sizes ≡ b → Numbered (cond b (Some (record { size = size; signed = signed })) None)
unfolding Numbered
sized_by size signed true there kind is =
    let same : record { size = size; signed = signed } ≡ kind = cc in
    subst (λ (k : Kind). interval_of k ≡ Some (numbers_of k)) same (ap (λ b. cond b (Some (numbers_of (record { size = size; signed = signed }))) None) there)
sized_by size signed false there kind is = absurd cc

sized : (size : ℕ) (signed : Bool) → Numbered (of_size size signed)
sized size signed = sized_by size signed (list_any (nat_eq size) sizes) refl

sized_if : (size : Option ℕ) (signed : Bool) → Numbered (option_and_then (λ n. of_size n signed) size)
sized_if None signed = none_numbered
sized_if (Some size) signed = sized size signed

signed_if : (sign : Option Bool) (size : Option ℕ) → Numbered (option_and_then (λ signed. option_and_then (λ n. of_size n signed) size) sign)
signed_if None size = none_numbered
signed_if (Some signed) size = sized_if size signed

either : (b : Bool) (one other : Option Kind) → Numbered one → Numbered other → Numbered (cond b one other)
either true one other is also = is
either false one other is also = also

pub all_numbered : (die : Die) (kind : Kind) → scalar_of die ≡ Some kind → interval_of kind ≡ Some (numbers_of kind)
unfolding scalar_of Numbered
all_numbered die =
    either (nat_eq die.tag DW_TAG_base_type) (base_kind die) _ (signed_if (option_and_then sign_of (constant DW_AT_encoding die)) (constant DW_AT_byte_size die))
    (either (nat_eq die.tag DW_TAG_pointer_type) (of_size 4 false) _ (sized 4 false)
    (either (nat_eq die.tag DW_TAG_enumeration_type) (enumeration_kind die) None (sized (unwrap_or (constant DW_AT_byte_size die) 4) false) none_numbered))
