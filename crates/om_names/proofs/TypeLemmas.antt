-- What the types of entries come to, by what entries tell.
use Rattle.std.proofs.Common.{◌≡◌, ℕ, zero, suc, ◌-◌, Bool, true, false, cond, List, Option, Some, None, refl, sym, ap, ◌∙◌, arith}
use Rattle.std.specs.Option.{option_and_then, option_map}
use Rattle.om_die.specs.declared.die.Die.{Die}
use Rattle.om_names.specs.Functions.{entry_at, reached}
use Rattle.om_names.specs.Names.{AreNames, find_in, if_told, shape_by, shape_of, told_of, type_from, type_told, typing_by, typing_from, typing_through}
use Rattle.om_names.specs.Types.{if_typed, is_link, numbers, own_type, scalar_of, type_among, typing_in, typing_of}
use Rattle.om_names.specs.declared.kind.Kind.{Kind}
use Rattle.om_names.specs.declared.names.Names.{Names}
use Rattle.om_names.specs.declared.names.Told.{Told}
use Rattle.om_names.specs.declared.types.Shape.TheVariants as s
use Rattle.om_names.specs.declared.types.Typing.{Typing}
use Rattle.om_names.specs.declared.types.Typing.TheVariants as t
use Rattle.om_names.proofs.NameLemmas.{told_reached}

-- ---- shapes

shaped : (b : Bool) (kind : Option Kind) (linked : Typing) → typing_by (cond b s.Link (shape_by kind)) linked ≡ cond b linked (numbers kind)
shaped true kind linked = refl
shaped false None linked = refl
shaped false (Some kind) linked = refl

by_shape : (die : Die) (linked : Typing) → typing_by (shape_of die) linked ≡ cond (is_link die) linked (numbers (scalar_of die))
by_shape die linked = shaped (is_link die) (scalar_of die) linked

-- ---- types

module _ (dies : List Die) (names : Names) (are : AreNames dies names) where
  type_at : (offset : Option ℕ) → option_and_then (find_in names) offset ≡ option_map told_of (option_and_then (entry_at dies) offset)
  type_at None = refl
  type_at (Some offset) = are offset

  type_is : (die : Die) → type_from names (told_of die) ≡ option_map told_of (type_among dies die)
  type_is die =
      ap (option_and_then (find_in names)) (told_reached type_told own_type (λ d. refl) dies names are 4 die)
      ∙ type_at (reached own_type 4 dies die)

  if_same : (typing : Told → Typing) (same : Die → Typing) (found : Option Die) → ((die : Die) → typing (told_of die) ≡ same die) → if_told typing (option_map told_of found) ≡ if_typed same found
  if_same typing same None are_same = refl
  if_same typing same (Some die) are_same = are_same die

  linked_by : (typing : Told → Typing) (same : Die → Typing) (die : Die) → ((next : Die) → typing (told_of next) ≡ same next) → if_told typing (type_from names (told_of die)) ≡ if_typed same (type_among dies die)
  linked_by typing same die are_same = ap (if_told typing) (type_is die) ∙ if_same typing same (type_among dies die) are_same

  typed_through : (links : ℕ) (die : Die) → typing_through links names (told_of die) ≡ typing_in links dies die
  unfolding typing_through typing_in
  typed_through zero die =
      ap (typing_by (shape_of die)) (linked_by (λ next. t.Loop) (λ next. t.Loop) die (λ next. refl)) ∙ by_shape die (if_typed (λ next. t.Loop) (type_among dies die))
  typed_through (suc links) die =
      ap (typing_by (shape_of die)) (linked_by (typing_through links names) (typing_in links dies) die (typed_through links))
      ∙ by_shape die (if_typed (typing_in links dies) (type_among dies die))

  -- by what entries tell the type of one comes to what it comes to
  pub typing_is : (die : Die) → typing_from names die ≡ typing_of dies die
  typing_is die = linked_by (typing_through 64 names) (typing_in 64 dies) die (typed_through 64)

-- ---- the walk through types

pub typing_step : (links : ℕ) (names : Names) (told : Told) → (links ≡ 0 → ⊥) → typing_through links names told ≡ typing_by told.shape (if_told (typing_through (links - 1) names) (type_from names told))
unfolding typing_through
typing_step zero names told some = absurd (some refl)
typing_step (suc links) names told some = let less : suc links - 1 ≡ links = omega arith in rw less refl

pub typing_last : (links : ℕ) (names : Names) (told : Told) → links ≡ 0 → typing_through links names told ≡ typing_by told.shape (if_told (λ next. t.Loop) (type_from names told))
unfolding typing_through
typing_last zero names told none = refl
typing_last (suc links) names told none = absurd (omega arith)

-- of what isn't a link nothing else is asked
pub typing_alone : (links : ℕ) (names : Names) (told : Told) (typing : Typing) → ((linked : Typing) → typing ≡ typing_by told.shape linked) → typing ≡ typing_through links names told
unfolding typing_through
typing_alone zero names told typing is = is (if_told (λ next. t.Loop) (type_from names told))
typing_alone (suc links) names told typing is = is (if_told (typing_through links names) (type_from names told))

-- a link with no type
pub typing_untyped : (links : ℕ) (names : Names) (told : Told) → told.shape ≡ s.Link → type_from names told ≡ None → t.Other ≡ typing_through links names told
unfolding typing_through
typing_untyped zero names told is none = sym (ap (λ shape. typing_by shape (if_told (λ next. t.Loop) (type_from names told))) is ∙ ap (if_told (λ next. t.Loop)) none)
typing_untyped (suc links) names told is none = sym (ap (λ shape. typing_by shape (if_told (typing_through links names) (type_from names told))) is ∙ ap (if_told (typing_through links names)) none)

-- ... with a type, where no more links are followed
pub typing_over : (links : ℕ) (names : Names) (told next : Told) → links ≡ 0 → told.shape ≡ s.Link → type_from names told ≡ Some next → t.Loop ≡ typing_through links names told
typing_over links names told next none is found =
    sym (typing_last links names told none ∙ ap (λ shape. typing_by shape (if_told (λ n. t.Loop) (type_from names told))) is ∙ ap (if_told (λ n. t.Loop)) found)

-- ... where some are
pub typing_on : (links : ℕ) (names : Names) (told next : Told) → (links ≡ 0 → ⊥) → told.shape ≡ s.Link → type_from names told ≡ Some next → typing_through (links - 1) names next ≡ typing_through links names told
typing_on links names told next some is found =
    sym (typing_step links names told some ∙ ap (λ shape. typing_by shape (if_told (typing_through (links - 1) names) (type_from names told))) is ∙ ap (if_told (typing_through (links - 1) names)) found)
