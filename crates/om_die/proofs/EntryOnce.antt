-- The entries of a unit have one reading, or one refusal.
use Rattle.std.proofs.Common.{◌≡◌, ℕ, ◌+◌, ◌-◌, ◌<◌, ◌≤◌, Bool, List, [], ◌∷◌, ◌++◌, length, Option, Some, None, refl, sym, ap, subst, ◌∙◌, arith, inl, inr, length-append, append_assoc}
use Rattle.om_base.specs.Leb.{IsUleb}
use Rattle.om_base.proofs.LebLaws.{uleb_reads}
use Rattle.om_base.proofs.ReadingLaws.{append-nil}
use Rattle.om_die.specs.Attributes.{AreAttributes, HasGap}
use Rattle.om_die.specs.Entries.{AreDies, Close, Entry, IsEntry, IsItem, IsPlaced, Item, Placed, depth_after, die_of, dies_of}
use Rattle.om_die.specs.Forms.{Around}
use Rattle.om_die.specs.Laws.{HasOneReading}
use Rattle.om_die.specs.Refusals.{AreDiesRefused, HasCode, IsEntryRefused, IsItemRefused, gap_fault}
use Rattle.om_die.specs.AttributeValue.{Attribute}
use Rattle.om_die.specs.declared.abbreviation.Abbreviation.{Abbreviation}
use Rattle.om_die.specs.declared.die.Die.{Die}
use Rattle.om_die.specs.declared.fault.DieFault.{DieFault}
use Rattle.om_die.proofs.AttributeLaws.{one_gap, one_list, whole_or_not}
use Rattle.om_die.proofs.DieLaws.{die_count, item_some}
use Rattle.om_die.proofs.ListLaws.{HasNext, compare, nothing_next, one_list_of}
use Rattle.om_die.proofs.ReaderLemmas.{reading_once}

uleb_once : HasOneReading IsUleb
uleb_once = reading_once uleb_reads

-- ---- one item

pub entries_once : (around : Around) (find : ℕ → Option Abbreviation) (s t u v : List ℕ) (tag tag2 : ℕ) (children children2 : Bool) (attrs attrs2 : List Attribute)
    → IsEntry around find s tag children attrs → IsEntry around find t tag2 children2 attrs2 → s ++ u ≡ t ++ v
    → (Entry tag children attrs ≡ Entry tag2 children2 attrs2) × (s ≡ t) × (u ≡ v)
entries_once around find s t u v tag tag2 children children2 attrs attrs2 one other same =
    let apart : one.front ++ (one.back ++ u) ≡ other.front ++ (other.back ++ v) =
    sym (append_assoc one.front one.back u) ∙ ap (λ h. h ++ u) (sym one.parts) ∙ same ∙ ap (λ h. h ++ v) other.parts ∙ append_assoc other.front other.back v in
    let codes = uleb_once one.front other.front (one.back ++ u) (other.back ++ v) one.code other.code one.spelled other.spelled apart in
    let shape : one.abbreviation ≡ other.abbreviation = cc (one.found, other.found, ap find codes.0) in
    let values : AreAttributes around one.abbreviation.attributes other.back attrs2 = subst (λ (a : Abbreviation). AreAttributes around a.attributes other.back attrs2) (sym shape) other.values in
    let lists = one_list around one.abbreviation.attributes one.back other.back u v attrs attrs2 one.values values codes.2 in
    let tags : tag ≡ tag2 = one.tag_is ∙ ap (λ (a : Abbreviation). a.tag) shape ∙ sym other.tag_is in
    let below : children ≡ children2 = one.children ∙ ap (λ (a : Abbreviation). a.has_children) shape ∙ sym other.children in
    (cc, one.parts ∙ ap (λ f. f ++ one.back) codes.1 ∙ ap (λ b. other.front ++ b) lists.1 ∙ sym other.parts, lists.2)

not_both : (around : Around) (find : ℕ → Option Abbreviation) (s t u v : List ℕ) (tag : ℕ) (children : Bool) (attrs : List Attribute)
    → IsUleb s 0 → IsEntry around find t tag children attrs → s ++ u ≡ t ++ v → ⊥
not_both around find s t u v tag children attrs end entry same =
    let apart : s ++ u ≡ entry.front ++ (entry.back ++ v) = same ∙ ap (λ h. h ++ v) entry.parts ∙ append_assoc entry.front entry.back v in
    let codes = uleb_once s entry.front u (entry.back ++ v) 0 entry.code end entry.spelled apart in
    entry.nonzero (sym codes.0)

items_once : (around : Around) (find : ℕ → Option Abbreviation) (s t u v : List ℕ) (x y : Item) → IsItem around find s x → IsItem around find t y → s ++ u ≡ t ++ v → (x ≡ y) × (s ≡ t) × (u ≡ v)
unfolding IsItem
items_once around find s t u v Close Close one other same = let codes = uleb_once s t u v 0 0 one other same in (refl, codes.1, codes.2)
items_once around find s t u v Close (Entry tag children attrs) one other same = absurd (not_both around find s t u v tag children attrs one other same)
items_once around find s t u v (Entry tag children attrs) Close one other same = absurd (not_both around find t s v u tag children attrs other one (sym same))
items_once around find s t u v (Entry tag children attrs) (Entry tag2 children2 attrs2) one other same = entries_once around find s t u v tag tag2 children children2 attrs attrs2 one other same

pub placed_once : (around : Around) (find : ℕ → Option Abbreviation) (at : ℕ) → HasOneReading (IsPlaced around find at)
placed_once around find at s t u v x y one other same =
    let items = items_once around find s t u v x.item y.item one.1 other.1 same in
    let places : x.at ≡ y.at = one.0 ∙ sym other.0 in
    let both : x ≡ y = ap (λ n. record { at = n; item = x.item }) places ∙ ap (λ i. record { at = y.at; item = i }) items.0 in
    (both, items.1, items.2)

pub placed_some : (around : Around) (find : ℕ → Option Abbreviation) (at : ℕ) (text : List ℕ) (x : Placed) → IsPlaced around find at text x → 0 < length text
placed_some around find at text x is = item_some around find text x.item is.1

-- ---- one refusal of an item

same_code : (bytes front tail back : List ℕ) (code other : ℕ) → bytes ≡ front ++ tail → IsUleb front code → HasCode bytes other back → (code ≡ other) × (tail ≡ back)
same_code bytes front tail back code other parts spelled has =
    let codes = uleb_once front has.front tail back code other spelled has.spelled (sym parts ∙ has.parts) in
    (codes.0, codes.2)

entry_not_refused : (around : Around) (find : ℕ → Option Abbreviation) (left at : ℕ) (bytes front tail : List ℕ) (tag : ℕ) (children : Bool) (attrs : List Attribute) (code : ℕ) (back : List ℕ) (fault : DieFault)
    → bytes ≡ front ++ tail → IsEntry around find front tag children attrs → 1 ≤ left → HasCode bytes code back → IsEntryRefused around find left at code back fault → ⊥
entry_not_refused around find left at bytes front tail tag children attrs code back fault parts is few has (inl many) = omega (arith, many.0)
entry_not_refused around find left at bytes front tail tag children attrs code back fault parts is few has (inr (inl none)) =
    let apart : bytes ≡ is.front ++ (is.back ++ tail) = parts ∙ ap (λ h. h ++ tail) is.parts ∙ append_assoc is.front is.back tail in
    let codes = same_code bytes is.front (is.back ++ tail) back is.code code apart is.spelled has in
    let both : Some is.abbreviation ≡ None = sym is.found ∙ ap find codes.0 ∙ none.1 in
    cc
entry_not_refused around find left at bytes front tail tag children attrs code back fault parts is few has (inr (inr broken)) =
    let b = broken.1 in
    let apart : bytes ≡ is.front ++ (is.back ++ tail) = parts ∙ ap (λ h. h ++ tail) is.parts ∙ append_assoc is.front is.back tail in
    let codes = same_code bytes is.front (is.back ++ tail) back is.code code apart is.spelled has in
    let both : ◌≡◌ {A = Option Abbreviation} (Some b.abbreviation) (Some is.abbreviation) = sym b.found ∙ ap find (sym codes.0) ∙ is.found in
    let shape : b.abbreviation ≡ is.abbreviation = cc in
    let gap : HasGap around is.abbreviation.attributes back b.why = subst (λ (a : Abbreviation). HasGap around a.attributes back b.why) shape b.gap in
    whole_or_not around is.abbreviation.attributes back is.back tail attrs b.why is.values (sym codes.1) gap

-- an item that stands in front isn't refused
pub item_not_refused : (around : Around) (find : ℕ → Option Abbreviation) (left at : ℕ) (bytes front tail : List ℕ) (item : Item) (fault : DieFault)
    → bytes ≡ front ++ tail → IsItem around find front item → length (die_of 0 0 item) ≤ left → IsItemRefused around find left at bytes fault → ⊥
unfolding IsItem
item_not_refused around find left at bytes front tail Close fault parts is few (inl none) = none.0 front tail 0 parts is
item_not_refused around find left at bytes front tail Close fault parts is few (inr refused) =
    let codes = same_code bytes front tail refused.1 0 refused.0 parts is refused.2 in
    refused.2.nonzero (sym codes.0)
item_not_refused around find left at bytes front tail (Entry tag children attrs) fault parts is few (inl none) =
    none.0 is.front (is.back ++ tail) is.code (parts ∙ ap (λ h. h ++ tail) is.parts ∙ append_assoc is.front is.back tail) is.spelled
item_not_refused around find left at bytes front tail (Entry tag children attrs) fault parts is few (inr refused) =
    entry_not_refused around find left at bytes front tail tag children attrs refused.0 refused.1 fault parts is few refused.2 refused.3

one_entry_refusal : (around : Around) (find : ℕ → Option Abbreviation) (left at code : ℕ) (bytes : List ℕ) (f g : DieFault) → IsEntryRefused around find left at code bytes f → IsEntryRefused around find left at code bytes g → f ≡ g
one_entry_refusal around find left at code bytes f g (inl one) (inl other) = one.1 ∙ sym other.1
one_entry_refusal around find left at code bytes f g (inl one) (inr (inl other)) = absurd (other.0 one.0)
one_entry_refusal around find left at code bytes f g (inl one) (inr (inr other)) = absurd (other.0 one.0)
one_entry_refusal around find left at code bytes f g (inr (inl one)) (inl other) = absurd (one.0 other.0)
one_entry_refusal around find left at code bytes f g (inr (inl one)) (inr (inl other)) = one.2 ∙ sym other.2
one_entry_refusal around find left at code bytes f g (inr (inl one)) (inr (inr other)) = absurd (let both : None ≡ Some other.1.abbreviation = sym one.1 ∙ other.1.found in cc)
one_entry_refusal around find left at code bytes f g (inr (inr one)) (inl other) = absurd (one.0 other.0)
one_entry_refusal around find left at code bytes f g (inr (inr one)) (inr (inl other)) = absurd (let both : Some one.1.abbreviation ≡ None = sym one.1.found ∙ other.1 in cc)
one_entry_refusal around find left at code bytes f g (inr (inr one)) (inr (inr other)) =
    let both : ◌≡◌ {A = Option Abbreviation} (Some one.1.abbreviation) (Some other.1.abbreviation) = sym one.1.found ∙ other.1.found in
    let shape : other.1.abbreviation ≡ one.1.abbreviation = cc in
    let gap : HasGap around one.1.abbreviation.attributes bytes other.1.why = subst (λ (a : Abbreviation). HasGap around a.attributes bytes other.1.why) shape other.1.gap in
    one.1.fault_is ∙ ap (gap_fault at) (one_gap around one.1.abbreviation.attributes bytes one.1.why other.1.why one.1.gap gap) ∙ sym other.1.fault_is

pub one_item_refusal : (around : Around) (find : ℕ → Option Abbreviation) (left at : ℕ) (bytes : List ℕ) (f g : DieFault) → IsItemRefused around find left at bytes f → IsItemRefused around find left at bytes g → f ≡ g
one_item_refusal around find left at bytes f g (inl one) (inl other) = one.1 ∙ sym other.1
one_item_refusal around find left at bytes f g (inl one) (inr other) = absurd (one.0 other.2.front other.1 other.0 other.2.parts other.2.spelled)
one_item_refusal around find left at bytes f g (inr one) (inl other) = absurd (other.0 one.2.front one.1 one.0 one.2.parts one.2.spelled)
one_item_refusal around find left at bytes f g (inr one) (inr other) =
    let codes = same_code bytes one.2.front one.1 other.1 one.0 other.0 one.2.parts one.2.spelled other.2 in
    let R : ℕ → List ℕ → Type 0 = λ code back. IsEntryRefused around find left at code back g in
    one_entry_refusal around find left at one.0 one.1 f g one.3 (subst (λ back. R one.0 back) (sym codes.1) (subst (λ code. R code other.1) (sym codes.0) other.3))

-- ---- all entries

dies_before : (depth : ℕ) (items : List Placed) (next : Placed) (others : List Placed) → length (dies_of depth items) + length (die_of 0 0 next.item) ≤ length (dies_of depth (items ++ next ∷ others))
unfolding dies_of
dies_before depth [] next others =
    omega (arith, length-append (die_of next.at depth next.item) (dies_of (depth_after depth next.item) others), die_count next.at depth next.item)
dies_before depth (first ∷ items) next others =
    omega (
      arith,
      dies_before (depth_after depth first.item) items next others,
      length-append (die_of first.at depth first.item) (dies_of (depth_after depth first.item) items),
      length-append (die_of first.at depth first.item) (dies_of (depth_after depth first.item) (items ++ next ∷ others)),
    )

pub one_list_of_dies : (around : Around) (find : ℕ → Option Abbreviation) (at : ℕ) (bytes : List ℕ) (xs ys : List Die) → AreDies around find at bytes xs → AreDies around find at bytes ys → xs ≡ ys
one_list_of_dies around find at bytes xs ys one other =
    let items = one_list_of (IsPlaced around find) (placed_once around find) (placed_some around find) at one.items other.items bytes one.each other.each in
    one.are ∙ ap (dies_of 0) items ∙ sym other.are

-- an item that comes next isn't refused
next_not_refused : (around : Around) (find : ℕ → Option Abbreviation) (left place : ℕ) (items more : List Placed) (back : List ℕ) (fault : DieFault)
    → HasNext (IsPlaced around find) place items back more → length (dies_of 0 more) ≤ left → IsItemRefused around find (left - length (dies_of 0 items)) place back fault → ⊥
next_not_refused around find left place items more back fault on few refused =
    let all : length (dies_of 0 more) ≡ length (dies_of 0 (items ++ on.next ∷ on.others)) = ap (λ is. length (dies_of 0 is)) on.things in
    item_not_refused around find (left - length (dies_of 0 items)) place back on.text on.rest on.next.item fault on.parts on.is.1
    (omega (arith, dies_before 0 items on.next on.others)) refused

pub dies_not_refused : (around : Around) (find : ℕ → Option Abbreviation) (left at : ℕ) (bytes : List ℕ) (dies : List Die) (fault : DieFault) → AreDies around find at bytes dies → length dies ≤ left
    → AreDiesRefused around find left at bytes fault → ⊥
dies_not_refused around find left at bytes dies fault are few refused =
    elim (compare (IsPlaced around find) (placed_once around find) at are.items refused.items bytes [] refused.front refused.back are.each refused.each (append-nil bytes ∙ refused.parts)) [
      | inl same ↦ refused.some (sym same.back)
      | inr (inl on) ↦ nothing_next (IsPlaced around find) (placed_once around find) (placed_some around find) _ are.items refused.items [] refl on
      | inr (inr on) ↦ next_not_refused around find left _ refused.items are.items refused.back fault on (omega (arith, ap length are.are)) refused.refused
    ]

pub one_dies_refusal : (around : Around) (find : ℕ → Option Abbreviation) (left at : ℕ) (bytes : List ℕ) (f g : DieFault) → AreDiesRefused around find left at bytes f → AreDiesRefused around find left at bytes g → f ≡ g
one_dies_refusal around find left at bytes f g one other =
    elim (compare (IsPlaced around find) (placed_once around find) at one.items other.items one.front one.back other.front other.back one.each other.each (sym one.parts ∙ other.parts)) [
      | inl same ↦ (
          let count : length (dies_of 0 other.items) ≡ length (dies_of 0 one.items) = ap (λ is. length (dies_of 0 is)) (sym same.things) in
          let place : at + length other.front ≡ at + length one.front = ap (λ (h : List ℕ). at + length h) (sym same.front) in
          let R : ℕ → ℕ → List ℕ → Type 0 = λ n p back. IsItemRefused around find (left - n) p back g in
          let there : R (length (dies_of 0 one.items)) (at + length one.front) one.back =
          subst (λ back. R (length (dies_of 0 one.items)) (at + length one.front) back) (sym same.back)
          (subst (λ p. R (length (dies_of 0 one.items)) p other.back) place (subst (λ n. R n (at + length other.front) other.back) count other.refused)) in
          one_item_refusal around find (left - length (dies_of 0 one.items)) (at + length one.front) one.back f g one.refused there)
      | inr (inl on) ↦ absurd (next_not_refused around find left _ one.items other.items one.back f on other.few one.refused)
      | inr (inr on) ↦ absurd (next_not_refused around find left _ other.items one.items other.back g on one.few other.refused)
    ]
