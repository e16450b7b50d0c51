-- Variables, by what entries tell.
use Rattle.std.proofs.Common.{◌≡◌, ℕ, ◌^◌, Bool, true, false, cond, not, ◌&&◌, ◌||◌, nat_eq, ltb, List, [], ◌∷◌, ◌++◌, map, Option, Some, None, refl, sym, ap, subst, ◌∙◌}
use Rattle.std.specs.Prelude.{bytes_eq, filter, filter_map, find, slice_get, unwrap_or}
use Rattle.std.specs.List.{flat_map, list_any}
use Rattle.std.specs.Option.{option_and_then, option_flatten, option_map, option_or}
use Rattle.std.proofs.Math.Path.{fun_ext}
use Rattle.std.proofs.lemmas.Bool.{ltb-true}
use Rattle.std.proofs.lemmas.List.{map-append}
use Rattle.std.proofs.lemmas.Simd.{map-map}
use Rattle.std.proofs.lemmas.Option.{slice_get-map}
use Rattle.om_base.specs.Firsts.{first_of}
use Rattle.om_base.specs.declared.span.Span.{Span}
use Rattle.om_claims.specs.Claims.{meant_at}
use Rattle.om_claims.specs.Pieces.{IsIndexOf, owner_in}
use Rattle.om_claims.specs.declared.claim.Claim.{Claim}
use Rattle.om_claims.specs.declared.piece.Piece.{Piece}
use Rattle.om_die.specs.Units.{dies_of_units}
use Rattle.om_die.specs.declared.die.Die.{Die}
use Rattle.om_die.specs.declared.unit.Unit.{Unit}
use Rattle.om_die.specs.declared.unit.Units.{Units}
use Rattle.om_eval.specs.Qualified.{qualified}
use Rattle.om_eval.specs.declared.catalog.VarInfo.{VarInfo}
use Rattle.om_names.specs.Above.{Placed, placed_behind}
use Rattle.om_names.specs.Around.{around, function_in, if_there, inside, list_at, scope_of, spans_by, told_scope}
use Rattle.om_names.specs.ByName.{held_by, info_by, seen_in}
use Rattle.om_names.specs.Constants.{DW_AT_frame_base, DW_AT_location, DW_TAG_variable}
use Rattle.om_names.specs.FixedVariables.{fixed_address, fixed_of, is_declaration, is_function}
use Rattle.om_names.specs.FoundList.{fixed_by, found_at, found_by, found_by_units, found_in_unit, local_by, local_in, scoped_by}
use Rattle.om_names.specs.Functions.{name_among, own_name}
use Rattle.om_names.specs.KeptVariables.{KeptVariables, held_told, local_told, loop_by, told_in}
use Rattle.om_names.specs.LocalVariables.{are_there, function_above, if_function, is_inlined, is_scope, local_of, place_in, scope_above, spans_of}
use Rattle.om_names.specs.Names.{AreNames, name_from, name_told}
use Rattle.om_names.specs.Ranges.{base_of, hold, own_range, ranges_of, ranges_offset}
use Rattle.om_names.specs.Stretches.{all_claimed, claims_of, helds_of, in_stretch}
use Rattle.om_names.specs.Types.{is_loop, is_typed, kind_in, loop_at, type_fault, typing_of}
use Rattle.om_names.specs.Variables.{Scoped, VariableFacts, are_some, catalog_of, deepest, first_held, fixed_among, founds, held_by_name, held_in, info_of, is_in_scope, local_held, meant, name_of, named, names_in, variable_facts, variable_of, variables_in}
use Rattle.om_names.specs.declared.around.Function.{Function}
use Rattle.om_names.specs.declared.by_name.Seen.{Seen}
use Rattle.om_names.specs.declared.fixed.Fixed.{Fixed}
use Rattle.om_names.specs.declared.found.Found.{Found}
use Rattle.om_names.specs.declared.held.Held.{Held}
use Rattle.om_names.specs.declared.kind.Kind.{Kind}
use Rattle.om_names.specs.declared.local.Local.{Local}
use Rattle.om_names.specs.declared.names.Names.{Names}
use Rattle.om_names.specs.declared.scope.Scope.{Scope}
use Rattle.om_names.specs.declared.scope.Scope.TheVariants.{Listed}
use Rattle.om_names.specs.declared.variable.Variable.TheVariants as var
use Rattle.om_names.proofs.CatalogLemmas.{catalog_is, held_is}
use Rattle.om_names.proofs.EntryByEntryLemmas.{first_both}
use Rattle.om_names.proofs.NameLemmas.{told_reached}
use Rattle.om_names.proofs.ScopeLemmas.{local_is}
use Rattle.om_names.proofs.TypeLemmas.{typing_is}

-- ---- types that take too many links

module _ (units : Units) (names : Names) (are : AreNames (dies_of_units units.list) names) where
  loop_same : (die : Die) → loop_by names die ≡ loop_at (dies_of_units units.list) die
  loop_same die = ap (λ typing. cond (is_typed die && is_loop typing) (Some die.at) None) (typing_is (dies_of_units units.list) names are die)

  loops_same : (dies : List Die) → map (loop_by names) dies ≡ map (loop_at (dies_of_units units.list)) dies
  loops_same [] = refl
  loops_same (die ∷ dies) = ap (λ x. x ∷ map (loop_by names) dies) (loop_same die) ∙ ap (λ xs. loop_at (dies_of_units units.list) die ∷ xs) (loops_same dies)

  pub loop_is : first_of (map (loop_by names) (dies_of_units units.list)) ≡ type_fault units
  unfolding type_fault
  loop_is = ap first_of (loops_same (dies_of_units units.list))

-- the first of all entries, unit by unit
pub first_by_unit : (fault : Die → Option ℕ) (units : List Unit) → first_of (map (λ (unit : Unit). first_of (map fault unit.dies)) units) ≡ first_of (map fault (dies_of_units units))
first_by_unit fault [] = refl
first_by_unit fault (unit ∷ units) =
    ap (option_or (first_of (map fault unit.dies))) (first_by_unit fault units) ∙ sym (first_both (map fault unit.dies) (map fault (dies_of_units units)))
    ∙ ap first_of (sym (map-append fault unit.dies (dies_of_units units)))

-- ---- what an entry stands in

module _ (names : Names) (ranges : List ℕ) (base : ℕ) where
  inside_is : (line : List Die) → (around names ranges base line).is_inside ≡ list_any is_function line
  unfolding around inside
  inside_is [] = refl
  inside_is (die ∷ line) = ap (λ b. is_function die || b) (inside_is line)

  -- a function, as its entry tells it
  function_by : Die → Function
  function_by die = record { name = name_from names die; base = place_in DW_AT_frame_base die }

  function_is : (line : List Die) → (around names ranges base line).function ≡ option_map function_by (function_above line)
  unfolding around inside function_in function_above function_by
  function_is [] = refl
  function_is (die ∷ line) = by (is_function die) (is_inlined die) refl (function_is line)
    where
      by : (f i : Bool) → is_function die ≡ f → (around names ranges base line).function ≡ option_map function_by (option_and_then if_function (find (λ d. is_function d || is_inlined d) line))
          → cond f (Some (function_by die)) (cond i None (around names ranges base line).function)
          ≡ option_map function_by (option_and_then if_function (cond (f || i) (Some die) (find (λ d. is_function d || is_inlined d) line)))
      by true i is later = sym (ap (λ b. option_map function_by (cond b (Some die) None)) is)
      by false true is later = sym (ap (λ b. option_map function_by (cond b (Some die) None)) is)
      by false false is later = later

-- ---- scopes

module _ (names : Names) (ranges : List ℕ) (unit : Unit) where
  -- the ranges of an entry that is a scope, or else others
  scope_or : (own : Option Span) (offset : Option ℕ) (die : Die) (outer : Option Scope) (others : List Span) → own_range die ≡ own → ranges_offset die ≡ offset → spans_by ranges (base_of unit) outer ≡ others
      → spans_by ranges (base_of unit) (option_or (told_scope ranges (base_of unit) own offset) outer) ≡ unwrap_or (cond (are_there (spans_of ranges unit die)) (Some (spans_of ranges unit die)) (Some others)) []
  unfolding ranges_of
  scope_or (Some span) offset die outer others own_is offset_is outer_is = rw own_is refl
  scope_or None None die outer others own_is offset_is outer_is = rw (own_is, offset_is) outer_is
  scope_or None (Some offset) die outer others own_is offset_is outer_is = rw (own_is, offset_is) (by (list_at ranges (base_of unit) offset) refl)
    where
      by : (spans : List Span) → list_at ranges (base_of unit) offset ≡ spans
          → spans_by ranges (base_of unit) (option_or (if_there spans (Listed offset)) outer) ≡ unwrap_or (cond (are_there spans) (Some spans) (Some others)) []
      by [] is = outer_is
      by (span ∷ spans) is = is

  first_there : (spans : List Span) (others : List (List Span)) → unwrap_or (cond (are_there spans) (Some spans) (Some (unwrap_or (find are_there others) []))) [] ≡ unwrap_or (find are_there (spans ∷ others)) []
  first_there [] others = refl
  first_there (span ∷ spans) others = refl

  scope_is : (line : List Die) → spans_by ranges (base_of unit) (around names ranges (base_of unit) line).scope ≡ scope_above ranges unit line
  unfolding around inside scope_of scope_above
  scope_is [] = refl
  scope_is (die ∷ line) = by (is_scope die) (scope_is line)
    where
      by : (b : Bool) → spans_by ranges (base_of unit) (around names ranges (base_of unit) line).scope ≡ unwrap_or (find are_there (map (spans_of ranges unit) (filter is_scope line))) []
          → spans_by ranges (base_of unit) (option_or (cond b (told_scope ranges (base_of unit) (own_range die) (ranges_offset die)) None) (around names ranges (base_of unit) line).scope)
          ≡ unwrap_or (find are_there (map (spans_of ranges unit) (cond b (die ∷ filter is_scope line) (filter is_scope line)))) []
      by false later = later
      by true later =
          scope_or (own_range die) (ranges_offset die) die (around names ranges (base_of unit) line).scope _ refl refl later
          ∙ first_there (spans_of ranges unit die) (map (spans_of ranges unit) (filter is_scope line))

-- ---- variables

module _ (units : Units) (names : Names) (are : AreNames (dies_of_units units.list) names) where
  name_is : (die : Die) → name_from names die ≡ name_among (dies_of_units units.list) die
  name_is die = told_reached name_told own_name (λ d. refl) (dies_of_units units.list) names are 4 die

  fixed_same : (placed : Placed) → fixed_by names placed.die (list_any is_function placed.line) ≡ fixed_of (dies_of_units units.list) placed
  unfolding fixed_by fixed_of
  fixed_same placed =
      ap (λ typing. fixed_with (kind_in typing) (name_from names placed.die)) (typing_is (dies_of_units units.list) names are placed.die)
      ∙ ap (λ name. fixed_with (kind_in (typing_of (dies_of_units units.list) placed.die)) name) (name_is placed.die)
    where
      fixed_with : Option Kind → Option (List ℕ) → Option Fixed
      fixed_with kind name =
          cond (nat_eq placed.die.tag DW_TAG_variable && (not (list_any is_function placed.line) && not (is_declaration placed.die)))
          (option_and_then (λ n. option_map (λ address. record { name = n; address = address; kind = kind }) (fixed_address placed.die)) name) None

  local_with : Die → Die → Option Kind → Option (List ℕ) → Option (List ℕ) → Option Local
  local_with die function kind own outer =
      option_and_then (λ o. option_map (λ n. record {
        name = qualified (Some o) n;
        kind = kind;
        place = place_in DW_AT_location die;
        base = place_in DW_AT_frame_base function;
        depth = die.depth;
      }) own) outer

  function_same : (die function : Die) → local_in names die (function_by names [] 0 function) ≡ local_with die function (kind_in (typing_of (dies_of_units units.list) die)) (name_among (dies_of_units units.list) die) (name_among (dies_of_units units.list) function)
  unfolding function_by local_with
  function_same die function =
      ap (λ typing. local_with die function (kind_in typing) (name_from names die) (name_from names function)) (typing_is (dies_of_units units.list) names are die)
      ∙ ap (λ own. local_with die function (kind_in (typing_of (dies_of_units units.list) die)) own (name_from names function)) (name_is die)
      ∙ ap (local_with die function (kind_in (typing_of (dies_of_units units.list) die)) (name_among (dies_of_units units.list) die)) (name_is function)

  local_same : (placed : Placed) → local_by names placed.die (option_map (function_by names [] 0) (function_above placed.line)) ≡ local_of (dies_of_units units.list) placed
  unfolding local_by local_of local_with
  local_same placed = by (is_typed placed.die) (function_above placed.line)
    where
      by : (b : Bool) (o : Option Die) → cond b (option_and_then (local_in names placed.die) (option_map (function_by names [] 0) o)) None
          ≡ cond b (option_and_then (λ function. local_with placed.die function (kind_in (typing_of (dies_of_units units.list) placed.die)) (name_among (dies_of_units units.list) placed.die) (name_among (dies_of_units units.list) function)) o) None
      by false o = refl
      by true None = refl
      by true (Some function) = function_same placed.die function

  module _ (ranges : List ℕ) where
    both_found : (base : ℕ) (scope : Option Scope) (fixed : Option Fixed) (local : Option Local)
        → option_map (scoped_by ranges) (option_or (option_map (λ f. record { variable = var.Fixed f; base = base; scope = None }) fixed) (option_map (λ l. record { variable = var.Local l; base = base; scope = scope }) local))
        ≡ option_or (option_map (λ f. record { variable = var.Fixed f; scope = [] }) fixed) (option_map (λ l. record { variable = var.Local l; scope = spans_by ranges base scope }) local)
    both_found base scope None None = refl
    both_found base scope None (Some local) = refl
    both_found base scope (Some fixed) local = refl

    either : Option Fixed → Option Local → List Span → Option Scoped
    either fixed local scope = option_or (option_map (λ f. record { variable = var.Fixed f; scope = [] }) fixed) (option_map (λ l. record { variable = var.Local l; scope = scope }) local)

    found_same : (unit : Unit) (placed : Placed) → option_map (scoped_by ranges) (found_at names ranges (base_of unit) placed) ≡ variable_of ranges unit (dies_of_units units.list) placed
    unfolding found_by variable_of either function_by
    found_same unit placed =
        both_found (base_of unit) (around names ranges (base_of unit) placed.line).scope (fixed_by names placed.die (around names ranges (base_of unit) placed.line).is_inside)
        (local_by names placed.die (around names ranges (base_of unit) placed.line).function)
        ∙ ap (λ scope. either (fixed_by names placed.die (around names ranges (base_of unit) placed.line).is_inside) (local_by names placed.die (around names ranges (base_of unit) placed.line).function) scope)
        (scope_is names ranges unit placed.line)
        ∙ ap (λ fixed. either fixed (local_by names placed.die (around names ranges (base_of unit) placed.line).function) (scope_above ranges unit placed.line))
        (ap (fixed_by names placed.die) (inside_is names ranges (base_of unit) placed.line) ∙ fixed_same placed)
        ∙ ap (λ local. either (fixed_of (dies_of_units units.list) placed) local (scope_above ranges unit placed.line))
        (ap (local_by names placed.die) (function_is names ranges (base_of unit) placed.line) ∙ local_same placed)

    mapped_found : {X Y Z : Type 0} (g : Y → Z) (h : X → Option Y) (xs : List X) → map g (filter_map h xs) ≡ filter_map (λ x. option_map g (h x)) xs
    mapped_found g h [] = refl
    mapped_found g h (x ∷ xs) = by (h x) refl (mapped_found g h xs)
      where
        by : (o : Option _) → h x ≡ o → map g (filter_map h xs) ≡ filter_map (λ y. option_map g (h y)) xs → map g (filter_map h (x ∷ xs)) ≡ filter_map (λ y. option_map g (h y)) (x ∷ xs)
        by None is later = rw is later
        by (Some y) is later = rw is (ap (λ ys. g y ∷ ys) later)

    by_units : (list : List Unit) → map (scoped_by ranges) (found_by_units names ranges list) ≡ flat_map (λ unit. filter_map (variable_of ranges unit (dies_of_units units.list)) (placed_behind [] unit.dies)) list
    unfolding found_by_units found_in_unit
    by_units [] = refl
    by_units (unit ∷ list) =
        map-append (scoped_by ranges) (filter_map (found_at names ranges (base_of unit)) (placed_behind [] unit.dies)) (found_by_units names ranges list)
        ∙ ap (λ xs. xs ++ map (scoped_by ranges) (found_by_units names ranges list))
        (mapped_found (scoped_by ranges) (found_at names ranges (base_of unit)) (placed_behind [] unit.dies) ∙ ap (λ find. filter_map find (placed_behind [] unit.dies)) (fun_ext (found_same unit)))
        ∙ ap (λ xs. filter_map (variable_of ranges unit (dies_of_units units.list)) (placed_behind [] unit.dies) ++ xs) (by_units list)

    pub variables_are : map (scoped_by ranges) (found_by_units names ranges units.list) ≡ variables_in ranges units
    unfolding variables_in
    variables_are = by_units units.list

-- ---- what is kept of them

none_filtered : {X : Type 0} (f : X → Bool) (xs : List X) → filter (λ x. false && f x) xs ≡ []
none_filtered f [] = refl
none_filtered f (x ∷ xs) = none_filtered f xs

module _ (scoped : List Scoped) (kept : KeptVariables) (catalog_are : kept.catalog ≡ map info_by (seen_in (founds scoped))) (fixed_are : kept.fixed ≡ map held_by (seen_in (founds scoped)))
    (locals_are : kept.locals ≡ helds_of (all_claimed (seen_in (founds scoped)) scoped)) (index : IsIndexOf (claims_of (all_claimed (seen_in (founds scoped)) scoped)) kept.pieces) where
  fixed_told : (place : ℕ) (name : List ℕ) → slice_get (names_in (founds scoped)) place ≡ Some name → option_flatten (slice_get kept.fixed place) ≡ first_held (fixed_among (named (founds scoped) name))
  fixed_told place name at =
      ap (λ held. option_flatten (slice_get held place)) fixed_are ∙ held_is (founds scoped) place ∙ ap (option_and_then (λ n. first_held (fixed_among (named (founds scoped) n)))) at

  locals_told : (place pc : ℕ) (name : List ℕ) → slice_get (names_in (founds scoped)) place ≡ Some name → local_told kept place pc ≡ option_and_then (λ it. local_held it.variable) (deepest (filter (is_in_scope name pc) scoped))
  locals_told place pc name at = by (ltb pc (2 ^ 32)) refl
    where
      by : (b : Bool) → ltb pc (2 ^ 32) ≡ b → local_told kept place pc ≡ option_and_then (λ it. local_held it.variable) (deepest (filter (is_in_scope name pc) scoped))
      by true is =
          ap (λ b. cond b (option_flatten (option_and_then (slice_get kept.locals) (owner_in kept.pieces (in_stretch place pc)))) None) is
          ∙ ap (λ owner. option_flatten (option_and_then (slice_get kept.locals) owner)) (index (in_stretch place pc))
          ∙ ap (λ locals. option_flatten (option_and_then (slice_get locals) (meant_at (claims_of (all_claimed (seen_in (founds scoped)) scoped)) (in_stretch place pc)))) locals_are
          ∙ local_is scoped place name pc at (ltb-true pc (2 ^ 32) is)
      by false is =
          ap (λ b. cond b (option_flatten (option_and_then (slice_get kept.locals) (owner_in kept.pieces (in_stretch place pc)))) None) is
          ∙ sym (ap (λ b. option_and_then (λ (it : Scoped). local_held it.variable) (deepest (filter (λ it. b && (bytes_eq name (name_of it.variable) && hold it.scope pc)) scoped))) is
          ∙ ap (λ xs. option_and_then (λ (it : Scoped). local_held it.variable) (deepest xs)) (none_filtered (λ it. bytes_eq name (name_of it.variable) && hold it.scope pc) scoped))

  held_is_meant : (place pc : ℕ) → held_told kept place pc (slice_get kept.catalog place) ≡ held_in scoped place pc
  unfolding held_in meant catalog_of
  held_is_meant place pc =
      ap (λ catalog. held_told kept place pc (slice_get catalog place)) (catalog_are ∙ catalog_is (founds scoped))
      ∙ ap (held_told kept place pc) (slice_get-map (λ name. info_of (named (founds scoped) name) name) (names_in (founds scoped)) place)
      ∙ by (slice_get (names_in (founds scoped)) place) refl
    where
      by_fixed : (name : List ℕ) (fixed : List Fixed) → option_flatten (slice_get kept.fixed place) ≡ first_held fixed
          → local_told kept place pc ≡ option_and_then (λ it. local_held it.variable) (deepest (filter (is_in_scope name pc) scoped))
          → cond (are_some fixed) (option_flatten (slice_get kept.fixed place)) (local_told kept place pc) ≡ held_by_name fixed (option_and_then (λ it. local_held it.variable) (deepest (filter (is_in_scope name pc) scoped)))
      by_fixed name [] fixed_is local_is = local_is
      by_fixed name (first ∷ others) fixed_is local_is = fixed_is

      by : (o : Option (List ℕ)) → slice_get (names_in (founds scoped)) place ≡ o → held_told kept place pc (option_map (λ name. info_of (named (founds scoped) name) name) o)
          ≡ option_and_then (λ name. held_by_name (fixed_among (named (founds scoped) name)) (option_and_then (λ it. local_held it.variable) (deepest (filter (is_in_scope name pc) scoped)))) o
      by None at = refl
      by (Some name) at = by_fixed name (fixed_among (named (founds scoped) name)) (fixed_told place name at) (locals_told place pc name at)

  facts_by : List VarInfo → (ℕ → ℕ → Option Held) → VariableFacts
  facts_by catalog held = record { catalog = catalog; held = held }

  facts_told : told_in kept ≡ variable_facts scoped
  unfolding told_in facts_by
  facts_told =
      ap (λ catalog. facts_by catalog (λ place pc. held_told kept place pc (slice_get kept.catalog place))) (catalog_are ∙ catalog_is (founds scoped))
      ∙ ap (facts_by (catalog_of (founds scoped))) (fun_ext (λ place. fun_ext (λ pc. held_is_meant place pc)))

-- what is kept by what is known of their names
pub kept_told : (ranges : List ℕ) (found : List Found) (seen : List Seen) (catalog : List VarInfo) (fixed locals : List (Option Held)) (claims : List Claim) (pieces : List Piece) → seen ≡ seen_in (map (λ it. it.variable) found)
    → catalog ≡ map info_by seen → fixed ≡ map held_by seen → locals ≡ helds_of (all_claimed seen (map (scoped_by ranges) found)) → claims ≡ claims_of (all_claimed seen (map (scoped_by ranges) found)) → IsIndexOf claims pieces
    → told_in (record { catalog = catalog; fixed = fixed; pieces = pieces; locals = locals }) ≡ variable_facts (map (scoped_by ranges) found)
kept_told ranges found seen catalog fixed locals claims pieces seen_are catalog_are fixed_are locals_are claims_are index =
    let same : seen ≡ seen_in (founds (map (scoped_by ranges) found)) = seen_are ∙ ap seen_in (sym (map-map (λ (it : Scoped). it.variable) (scoped_by ranges) found)) in
    facts_told (map (scoped_by ranges) found) (record { catalog = catalog; fixed = fixed; pieces = pieces; locals = locals }) (catalog_are ∙ ap (map info_by) same) (fixed_are ∙ ap (map held_by) same)
    (locals_are ∙ ap (λ s. helds_of (all_claimed s (map (scoped_by ranges) found))) same)
    (subst (λ cs. IsIndexOf cs pieces) (claims_are ∙ ap (λ s. claims_of (all_claimed s (map (scoped_by ranges) found))) same) index)
