-- Where references lead: into units that are skipped, or to offsets at which no entry stands.
use Rattle.std.proofs.Common.{◌≡◌, ℕ, ◌+◌, ◌-◌, ◌<◌, ◌≤◌, suc, zero, Bool, true, false, ◌&&◌, ◌||◌, leb, ltb, nat_eq, List, [], ◌∷◌, ◌++◌, length, drop, map, get_or, Option, Some, None, refl, sym, ap, subst, ◌∙◌, arith, length-append}
use Rattle.std.specs.List.{list_any}
use Rattle.std.specs.List.Sorted.{IsPartitionPoint, IsPartitionedBy}
use Rattle.std.specs.Option.{option_map, option_or}
use Rattle.std.specs.Prelude.{find}
use Rattle.std.proofs.Math.Path.{fun_ext}
use Rattle.std.proofs.lemmas.List.Folds.{find-append}
use Rattle.std.proofs.lemmas.List.{at_drop_all, at_drop_more}
use Rattle.std.proofs.lemmas.Bool.{le-leb, le-ltb, leb-false, leb-true, lt-leb}
use Rattle.om_base.specs.Reading.{EachFrom}
use Rattle.om_die.specs.Constants.{DW_AT_abstract_origin, DW_AT_specification, DW_AT_type}
use Rattle.om_die.specs.UnitList.{AreParts, skips_in}
use Rattle.om_die.specs.References.{AreRising, has_lost_by, is_lost_by, is_skipped, is_within, settled_attribute}
use Rattle.om_die.specs.Refusals.{IsTargetRefused}
use Rattle.om_die.specs.Units.{AreUnits, IsPiece, Piece, Read, Sections, Skipped, attribute_of, dies_of_units, first_lost, has_lost, is_elsewhere, is_lost, settled, settled_die, settled_in, settled_unit, skipped_in, units_in}
use Rattle.om_die.specs.AttributeValue.{Attribute, Value}
use Rattle.om_die.specs.AttributeValue as v
use Rattle.om_die.specs.declared.die.Die.{Die}
use Rattle.om_die.specs.declared.fault.DieFault.TheVariants as d
use Rattle.om_die.specs.declared.unit_list.Parts.{Parts}
use Rattle.om_die.specs.declared.skipped.Skipped as skip
use Rattle.om_die.specs.declared.unit.Unit.{Unit}
use Rattle.om_die.specs.declared.unit.Units.{Units}
use Rattle.om_die.proofs.UnitLaws.{some_bytes}

-- ---- units that are skipped

rising_from : (low place : ℕ) (units : List skip.Skipped) → low ≤ place → AreRising place units → AreRising low units
unfolding AreRising
rising_from low place [] below are = tt
rising_from low place (unit ∷ units) below are = (omega (arith, are.0), are.1)

pub skips_rise : (sections : Sections) (at : ℕ) (pieces : List Piece) (text : List ℕ) → EachFrom (IsPiece sections) at pieces text → AreRising at (skips_in pieces)
unfolding AreRising skips_in IsPiece
skips_rise sections at [] text each = tt
skips_rise sections at (Read unit ∷ pieces) text each = rising_from at (at + length each.0) (skips_in pieces) (omega arith) (skips_rise sections (at + length each.0) pieces each.1 each.4)
skips_rise sections at (Skipped place size ∷ pieces) text each =
    let same : at + length each.0 ≡ place + size = omega (arith, each.3.at_is, each.3.size_is) in
    (omega (arith, each.3.at_is), subst (λ n. AreRising n (skips_in pieces)) same (skips_rise sections (at + length each.0) pieces each.1 each.4))

pub elsewhere_is : (pieces : List Piece) (offset : ℕ) → is_elsewhere pieces offset ≡ is_skipped (skips_in pieces) offset
unfolding is_elsewhere skips_in
elsewhere_is [] offset = refl
elsewhere_is (Read unit ∷ pieces) offset = elsewhere_is pieces offset
elsewhere_is (Skipped place size ∷ pieces) offset = ap (λ b. (leb place offset && ltb offset (place + size)) || b) (elsewhere_is pieces offset)

-- the units rise, so that those which begin at most at an offset stand in front
abbrev pub begins_by : ℕ → skip.Skipped → Bool
begins_by offset unit = leb unit.at offset

not_before : (place : ℕ) (units : List skip.Skipped) (k : ℕ) (other : skip.Skipped) → AreRising place units → k < length units → place ≤ (get_or units k other).at
unfolding AreRising
not_before place [] k other are inside = absurd (omega arith)
not_before place (unit ∷ units) zero other are inside = are.0
not_before place (unit ∷ units) (suc k) other are inside =
    let later = not_before (unit.at + unit.size) units k other are.1 (omega arith) in
    let here : get_or (unit ∷ units) (suc k) other ≡ get_or units k other = refl in
    omega (arith, later, are.0, ap (λ (u : skip.Skipped). u.at) here)

in_order : (place : ℕ) (units : List skip.Skipped) (i j : ℕ) (other : skip.Skipped) → AreRising place units → i ≤ j → j < length units → (get_or units i other).at ≤ (get_or units j other).at
unfolding AreRising
in_order place [] i j other are before inside = absurd (omega arith)
in_order place (unit ∷ units) zero zero other are before inside = omega arith
in_order place (unit ∷ units) zero (suc j) other are before inside = omega (arith, not_before (unit.at + unit.size) units j other are.1 (omega arith))
in_order place (unit ∷ units) (suc i) zero other are before inside = absurd (omega arith)
in_order place (unit ∷ units) (suc i) (suc j) other are before inside = in_order (unit.at + unit.size) units i j other are.1 (omega arith) (omega arith)

pub begin_in_order : (place offset : ℕ) (units : List skip.Skipped) → AreRising place units → IsPartitionedBy (begins_by offset) units
begin_in_order place offset units are i j other before inside passes =
    let later = leb-true (get_or units j other).at offset passes in
    le-leb (get_or units i other).at offset (omega (arith, in_order place units i j other are before inside))

none_has : (offset : ℕ) (units : List skip.Skipped) (other : skip.Skipped) → ((k : ℕ) → k < length units → offset < (get_or units k other).at) → is_skipped units offset ≡ false
none_has offset [] other behind = refl
none_has offset (unit ∷ units) other behind =
    let later : offset < unit.at = behind 0 (omega arith) in
    rw (lt-leb unit.at offset later) (none_has offset units other (λ k inside. behind (suc k) (omega arith)))

and_false : (b : Bool) → (b && false) ≡ false
and_false true = refl
and_false false = refl

or_false : (b : Bool) → (b || false) ≡ b
or_false true = refl
or_false false = refl

last_has : (place offset : ℕ) (units : List skip.Skipped) (last : ℕ) (other : skip.Skipped) → AreRising place units → last < length units
    → ((k : ℕ) → k ≤ last → (get_or units k other).at ≤ offset) → ((k : ℕ) → last < k → k < length units → offset < (get_or units k other).at)
    → is_skipped units offset ≡ is_within offset (get_or units last other)
unfolding AreRising
last_has place offset [] last other are inside front behind = absurd (omega arith)
last_has place offset (unit ∷ units) zero other are inside front behind =
    ap (λ b. is_within offset unit || b) (none_has offset units other (λ k in_units. behind (suc k) (omega arith) (omega arith))) ∙ or_false (is_within offset unit)
last_has place offset (unit ∷ units) (suc last) other are inside front behind =
    let later = not_before (unit.at + unit.size) units last other are.1 (omega arith) in
    let here : (get_or units last other).at ≤ offset = front (suc last) (omega arith) in
    let past : ltb offset (unit.at + unit.size) ≡ false = le-ltb offset (unit.at + unit.size) (omega arith) in
    let not_here : is_within offset unit ≡ false = ap (λ b. leb unit.at offset && b) past ∙ and_false (leb unit.at offset) in
    ap (λ b. b || is_skipped units offset) not_here
    ∙ last_has (unit.at + unit.size) offset units last other are.1 (omega arith) (λ k before. front (suc k) (omega arith)) (λ k after in_units. behind (suc k) (omega arith) (omega arith))

pub nothing_begins : (offset : ℕ) (units : List skip.Skipped) (count : ℕ) → IsPartitionPoint (λ u. begins_by offset u ≡ true) (λ u. begins_by offset u ≡ false) units count → count ≡ 0 → false ≡ is_skipped units offset
nothing_begins offset units count point none =
    let other : skip.Skipped = record { at = 0; size = 0 } in
    sym (none_has offset units other (λ k inside. leb-false (get_or units k other).at offset (point.1 k other (omega arith) inside)))

pub last_decides : (offset : ℕ) (units : List skip.Skipped) (count : ℕ) (other : skip.Skipped) → AreRising 0 units → count ≤ length units → (count ≡ 0 → ⊥)
    → IsPartitionPoint (λ u. begins_by offset u ≡ true) (λ u. begins_by offset u ≡ false) units count
    → is_within offset (get_or units (count - 1) other) ≡ is_skipped units offset
last_decides offset units count other are inside some point =
    sym (last_has 0 offset units (count - 1) other are (omega arith)
    (λ k before. leb-true (get_or units k other).at offset (point.0 k other (omega arith) (omega arith)))
    (λ k after in_units. leb-false (get_or units k other).at offset (point.1 k other (omega arith) in_units)))

-- ---- offsets at which entries stand

abbrev pub stands_in : List Die → ℕ → Bool
stands_in dies offset = list_any (λ die. nat_eq die.at offset) dies

pub lost_is : (dies : List Die) (value : Option Value) → is_lost_by (stands_in dies) value ≡ is_lost dies value
lost_is dies None = refl
lost_is dies (Some (v.Addr n)) = refl
lost_is dies (Some (v.Number n)) = refl
lost_is dies (Some (v.Signed n)) = refl
lost_is dies (Some (v.Text name)) = refl
lost_is dies (Some (v.Block bytes)) = refl
lost_is dies (Some (v.Target offset)) = refl
lost_is dies (Some (v.Offset n)) = refl
lost_is dies (Some (v.Flag b)) = refl
lost_is dies (Some v.Elsewhere) = refl

pub has_lost_is : (dies : List Die) (die : Die) → has_lost_by (stands_in dies) die ≡ has_lost dies die
has_lost_is dies die = rw (lost_is dies (attribute_of DW_AT_abstract_origin die.attrs), lost_is dies (attribute_of DW_AT_specification die.attrs), lost_is dies (attribute_of DW_AT_type die.attrs)) refl

pub lost_by : (stands : ℕ → Bool) (dies : List Die) → ((offset : ℕ) → stands offset ≡ list_any (λ die. nat_eq die.at offset) dies) → has_lost_by stands ≡ has_lost dies
lost_by stands dies known = ap has_lost_by (fun_ext known) ∙ fun_ext (has_lost_is dies)

-- ---- the first entry that refers to none

none_found : (found : Option Die) → None ≡ option_map (λ (die : Die). die.at) found → found ≡ None
none_found None e = refl
none_found (Some die) e = absurd cc

found_first : (at : ℕ) (found others : Option Die) → Some at ≡ option_map (λ (die : Die). die.at) found → Some at ≡ option_map (λ (die : Die). die.at) (option_or found others)
found_first at None others e = absurd cc
found_first at (Some die) others e = e

step_of : (p : Die → Bool) (units : List Unit) (i : ℕ) (unit : Unit) → i < length units → unit ≡ get_or units i unit
    → find p (dies_of_units (drop i units)) ≡ option_or (find p unit.dies) (find p (dies_of_units (drop (i + 1) units)))
step_of p units i unit inside is =
    at_drop_more (λ (us : List Unit). find p (dies_of_units us)) units i unit inside
    ∙ ap (λ (u : Unit). find p (u.dies ++ dies_of_units (drop (i + 1) units))) (sym is)
    ∙ find-append p unit.dies (dies_of_units (drop (i + 1) units))

pub passed_over : (p : Die → Bool) (units : List Unit) (i : ℕ) (unit : Unit) → i < length units → unit ≡ get_or units i unit → None ≡ option_map (λ (die : Die). die.at) (find p unit.dies)
    → find p (dies_of_units (drop i units)) ≡ find p (dies_of_units units) → find p (dies_of_units (drop (i + 1) units)) ≡ find p (dies_of_units units)
passed_over p units i unit inside is none before =
    sym (step_of p units i unit inside is ∙ ap (λ found. option_or found (find p (dies_of_units (drop (i + 1) units)))) (none_found (find p unit.dies) none)) ∙ before

pub found_here : (stands : ℕ → Bool) (units : List Unit) (i : ℕ) (unit : Unit) (at : ℕ) → ((offset : ℕ) → stands offset ≡ list_any (λ die. nat_eq die.at offset) (dies_of_units units))
    → i < length units → unit ≡ get_or units i unit → Some at ≡ option_map (λ (die : Die). die.at) (find (has_lost_by stands) unit.dies)
    → find (has_lost_by stands) (dies_of_units (drop i units)) ≡ find (has_lost_by stands) (dies_of_units units) → Some at ≡ option_map (λ (die : Die). die.at) (first_lost units)
unfolding first_lost
found_here stands units i unit at known inside is found before =
    let p = has_lost_by stands in
    found_first at (find p unit.dies) (find p (dies_of_units (drop (i + 1) units))) found
    ∙ ap (option_map (λ (die : Die). die.at)) (sym (step_of p units i unit inside is) ∙ before ∙ ap (λ test. find test (dies_of_units units)) (lost_by stands (dies_of_units units) known))

pub found_nowhere : (stands : ℕ → Bool) (units : List Unit) (i : ℕ) → ((offset : ℕ) → stands offset ≡ list_any (λ die. nat_eq die.at offset) (dies_of_units units)) → length units ≤ i
    → find (has_lost_by stands) (dies_of_units (drop i units)) ≡ find (has_lost_by stands) (dies_of_units units) → None ≡ option_map (λ (die : Die). die.at) (first_lost units)
unfolding first_lost
found_nowhere stands units i known past before =
    let p = has_lost_by stands in
    ap (option_map (λ (die : Die). die.at)) (sym (at_drop_all (λ (us : List Unit). find p (dies_of_units us)) units i past) ∙ before ∙ ap (λ test. find test (dies_of_units units)) (lost_by stands (dies_of_units units) known))

-- ---- the units as they are told

settled_alone : (value : Value) → settled (λ offset. false) value ≡ value
settled_alone (v.Addr n) = refl
settled_alone (v.Number n) = refl
settled_alone (v.Signed n) = refl
settled_alone (v.Text name) = refl
settled_alone (v.Block bytes) = refl
settled_alone (v.Target offset) = refl
settled_alone (v.Offset n) = refl
settled_alone (v.Flag b) = refl
settled_alone v.Elsewhere = refl

map_alone : {A : Type 0} (f : A → A) → ((x : A) → f x ≡ x) → (xs : List A) → map f xs ≡ xs
map_alone f same [] = refl
map_alone f same (x ∷ xs) = ap (λ y. y ∷ map f xs) (same x) ∙ ap (λ ys. x ∷ ys) (map_alone f same xs)

attribute_alone : (attribute : Attribute) → settled_attribute (λ offset. false) attribute ≡ attribute
attribute_alone attribute = ap (λ value. record { name = attribute.name; value = value }) (settled_alone attribute.value)

die_alone : (die : Die) → settled_die (λ offset. false) die ≡ die
die_alone die = ap (λ attrs. record { at = die.at; depth = die.depth; tag = die.tag; attrs = attrs }) (map_alone (settled_attribute (λ offset. false)) attribute_alone die.attrs)

unit_alone : (unit : Unit) → settled_unit (λ offset. false) unit ≡ unit
unit_alone unit = ap (λ dies. record { at = unit.at; version = unit.version; dies = dies }) (map_alone (settled_die (λ offset. false)) die_alone unit.dies)

-- where no unit is skipped, references stay as they are
pub units_alone : (skipped : List skip.Skipped) (units : List Unit) → length skipped ≡ 0 → units ≡ map (settled_unit (is_skipped skipped)) units
units_alone [] units none = sym (map_alone (settled_unit (λ offset. false)) unit_alone units)
units_alone (one ∷ skipped) units none = absurd (omega arith)

skips_few : (sections : Sections) (at : ℕ) (pieces : List Piece) (text : List ℕ) → EachFrom (IsPiece sections) at pieces text → length (skips_in pieces) ≤ length text
unfolding skips_in
skips_few sections at [] text each = omega arith
skips_few sections at (Read unit ∷ pieces) text each = omega (arith, skips_few sections (at + length each.0) pieces each.1 each.4, ap length each.2, length-append each.0 each.1)
skips_few sections at (Skipped place size ∷ pieces) text each =
    omega (arith, skips_few sections (at + length each.0) pieces each.1 each.4, ap length each.2, length-append each.0 each.1, some_bytes sections at each.0 (Skipped place size) each.3)

skips_count : (pieces : List Piece) → length (skips_in pieces) ≡ skipped_in pieces
unfolding skips_in skipped_in
skips_count [] = refl
skips_count (Read unit ∷ pieces) = skips_count pieces
skips_count (Skipped place size ∷ pieces) = omega (arith, skips_count pieces)

pub parts_rise : (sections : Sections) (parts : Parts) → AreParts sections parts → AreRising 0 parts.skipped
parts_rise sections parts is = subst (λ (p : Parts). AreRising 0 p.skipped) (sym is.kept) (skips_rise sections 0 is.pieces sections.info is.are.each)

pub parts_few : (sections : Sections) (parts : Parts) → AreParts sections parts → length parts.skipped ≤ length sections.info
parts_few sections parts is = subst (λ (p : Parts). length p.skipped ≤ length sections.info) (sym is.kept) (skips_few sections 0 is.pieces sections.info is.are.each)

settled_is : (pieces : List Piece) → map (settled_unit (is_skipped (skips_in pieces))) (units_in pieces) ≡ settled_in pieces
unfolding settled_in
settled_is pieces = ap (λ elsewhere. map (settled_unit elsewhere) (units_in pieces)) (sym (fun_ext (elsewhere_is pieces)))

list_is : (sections : Sections) (parts : Parts) (is : AreParts sections parts) (list : List Unit) → list ≡ map (settled_unit (is_skipped parts.skipped)) parts.units → list ≡ settled_in is.pieces
list_is sections parts is list e = e ∙ ap (λ (p : Parts). map (settled_unit (is_skipped p.skipped)) p.units) is.kept ∙ settled_is is.pieces

none_at : (found : Option Die) → None ≡ option_map (λ (die : Die). die.at) found → found ≡ None
none_at found e = none_found found e

one_at : (at : ℕ) (found : Option Die) → Some at ≡ option_map (λ (die : Die). die.at) found → (die : Die) × (found ≡ Some die) × (at ≡ die.at)
one_at at None e = absurd cc
one_at at (Some die) e = (die, refl, cc)

pub are_units : (sections : Sections) (parts : Parts) (units : Units) → AreParts sections parts → units.list ≡ map (settled_unit (is_skipped parts.skipped)) parts.units → units.skipped ≡ length parts.skipped
    → None ≡ option_map (λ (die : Die). die.at) (first_lost units.list) → AreUnits sections units
are_units sections parts units is list count none =
    record {
      pieces = is.pieces;
      are = is.are;
      list_is = list_is sections parts is units.list list;
      skipped_is = count ∙ ap (λ (p : Parts). length p.skipped) is.kept ∙ skips_count is.pieces;
      found = none_at (first_lost units.list) none;
    }

pub target_refused : (sections : Sections) (parts : Parts) (list : List Unit) (at : ℕ) → AreParts sections parts → list ≡ map (settled_unit (is_skipped parts.skipped)) parts.units
    → Some at ≡ option_map (λ (die : Die). die.at) (first_lost list) → IsTargetRefused sections (d.Target at)
target_refused sections parts list at is list_by found =
    let one = one_at at (first_lost list) found in
    record {
      pieces = is.pieces;
      are = is.are;
      die = one.0;
      lost = ap first_lost (sym (list_is sections parts is list list_by)) ∙ one.1;
      fault_is = ap d.Target one.2;
    }
