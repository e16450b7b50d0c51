-- What the reader of entries finds, item by item.
use Rattle.std.proofs.Common.{◌≡◌, ◌≢◌, ℕ, ◌+◌, ◌-◌, ◌<◌, ◌≤◌, Bool, true, false, cond, nat_eq, List, [], ◌∷◌, ◌++◌, length, drop, Option, Some, None, Ok, Err, refl, sym, ap, subst, ◌∙◌, ◌⊎◌, arith, inl, inr, length-append, append_assoc}
use Rattle.std.specs.Prelude.{Result}
use Rattle.std.specs.Result.{result_map_both}
use Rattle.om_base.specs.Leb.{IsUleb, from_place, uleb_of}
use Rattle.om_base.specs.Reading.{EachFrom, with_rest}
use Rattle.om_base.specs.declared.numbers.Num.{Num}
use Rattle.om_base.proofs.FieldLaws.{from_start}
use Rattle.om_base.proofs.LebLaws.{uleb_reads}
use Rattle.om_base.proofs.ReadingLaws.{append-nil, each_more}
use Rattle.om_die.specs.Attributes.{AreAttributes, HasGap}
use Rattle.om_die.specs.Entries.{AreDies, Close, Entry, IsItem, IsPlaced, Item, Placed, depth_after, die_of, dies_of}
use Rattle.om_die.specs.Forms.{Around}
use Rattle.om_die.specs.Refusals.{AreDiesRefused, HasCode, HasNoCode, IsItemRefused}
use Rattle.om_die.specs.Steps.{IsCode, IsFirst, lack_fault}
use Rattle.om_die.specs.AttributeValue.{Attribute}
use Rattle.om_die.specs.declared.abbreviation.Abbreviation.{Abbreviation}
use Rattle.om_die.specs.declared.attributes.Gap.{Gap}
use Rattle.om_die.specs.declared.attributes.Lack.{Lack}
use Rattle.om_die.specs.declared.attributes.Lack.TheVariants as l
use Rattle.om_die.specs.declared.die.Die.{Die}
use Rattle.om_die.specs.declared.fault.DieFault.{DieFault}
use Rattle.om_die.specs.declared.fault.DieFault.TheVariants as d

pub code_there : (bytes : List ℕ) (code size : ℕ) → Ok (code, size) ≡ from_place 0 (uleb_of bytes) → IsCode bytes code (drop size bytes)
code_there bytes code size e =
    let read : uleb_of bytes ≡ Ok (code, size) = sym (e ∙ from_start (uleb_of bytes)) in
    let p = uleb_reads.takes bytes code (drop size bytes) (ap (λ (r : Result (ℕ × ℕ) Num). result_map_both (λ (x : ℕ × ℕ). (x.0, drop x.1 bytes)) (λ f. f) r) read) in
    record { front = p.0; parts = p.1; spelled = p.2 }

pub no_code : (bytes : List ℕ) (fault : Num) → Err fault ≡ from_place 0 (uleb_of bytes) → HasNoCode bytes
no_code bytes fault e front back code parts spelled =
    let read : uleb_of bytes ≡ Err fault = sym (e ∙ from_start (uleb_of bytes)) in
    let again = uleb_reads.again front code back spelled in
    let whole : with_rest uleb_of bytes ≡ Ok (code, back) = ap (with_rest uleb_of) parts ∙ again in
    let none : with_rest uleb_of bytes ≡ Err fault = ap (λ (r : Result (ℕ × ℕ) Num). result_map_both (λ (x : ℕ × ℕ). (x.0, drop x.1 bytes)) (λ f. f) r) read in
    cc

-- ---- one item

pub leb_some : (text : List ℕ) (n : ℕ) → IsUleb text n → 0 < length text
leb_some [] n is = absurd is.leb
leb_some (b ∷ bs) n is = omega arith

pub item_some : (around : Around) (find : ℕ → Option Abbreviation) (text : List ℕ) (item : Item) → IsItem around find text item → 0 < length text
unfolding IsItem
item_some around find text Close is = leb_some text 0 is
item_some around find text (Entry tag children attrs) is = omega (arith, leb_some is.front is.code is.spelled, ap length is.parts, length-append is.front is.back)

pub close_first : (around : Around) (find : ℕ → Option Abbreviation) (left : ℕ) (bytes behind : List ℕ) (code : ℕ) → IsCode bytes code behind → code ≡ 0 → IsFirst around find left bytes Close behind
unfolding IsItem
close_first around find left bytes behind code is zero =
    record { front = is.front; parts = is.parts; is = subst (IsUleb is.front) zero is.spelled; few = omega arith }

pub entry_first : (around : Around) (find : ℕ → Option Abbreviation) (left : ℕ) (bytes back behind : List ℕ) (code : ℕ) (abbreviation : Abbreviation) (attrs : List Attribute)
    → IsCode bytes code back → code ≢ 0 → left ≢ 0 → find code ≡ Some abbreviation
    → (front : List ℕ) × (back ≡ front ++ behind) × AreAttributes around abbreviation.attributes front attrs
    → IsFirst around find left bytes (Entry abbreviation.tag abbreviation.has_children attrs) behind
unfolding IsItem
entry_first around find left bytes back behind code abbreviation attrs is nonzero some found read =
    record {
      front = is.front ++ read.0;
      parts = is.parts ∙ ap (λ (b : List ℕ). is.front ++ b) read.1 ∙ sym (append_assoc is.front read.0 behind);
      is = record {
        code = code;
        front = is.front;
        back = read.0;
        parts = refl;
        spelled = is.spelled;
        nonzero = nonzero;
        abbreviation = abbreviation;
        found = found;
        tag_is = refl;
        children = refl;
        values = read.2;
      };
      few = omega arith;
    }

pub has_code : (bytes back : List ℕ) (code : ℕ) → IsCode bytes code back → code ≢ 0 → HasCode bytes code back
has_code bytes back code is nonzero = record { front = is.front; parts = is.parts; spelled = is.spelled; nonzero = nonzero }

pub refused_many : (around : Around) (find : ℕ → Option Abbreviation) (left at : ℕ) (bytes back : List ℕ) (code : ℕ)
    → IsCode bytes code back → code ≢ 0 → left ≡ 0 → IsItemRefused around find left at bytes (d.TooMany at)
refused_many around find left at bytes back code is nonzero none = inr (code, back, has_code bytes back code is nonzero, inl (none, refl))

pub refused_shape : (around : Around) (find : ℕ → Option Abbreviation) (left at : ℕ) (bytes back : List ℕ) (code : ℕ)
    → IsCode bytes code back → code ≢ 0 → left ≢ 0 → find code ≡ None → IsItemRefused around find left at bytes (d.Abbrev at)
refused_shape around find left at bytes back code is nonzero some none = inr (code, back, has_code bytes back code is nonzero, inr (inl (some, none, refl)))

pub refused_lack : (around : Around) (find : ℕ → Option Abbreviation) (left at : ℕ) (bytes back : List ℕ) (code : ℕ) (abbreviation : Abbreviation) (lack : Lack)
    → IsCode bytes code back → code ≢ 0 → left ≢ 0 → find code ≡ Some abbreviation
    → (lack ≡ l.NoMemory) ⊎ ((why : Gap) × (lack ≡ l.Gap why) × HasGap around abbreviation.attributes back why)
    → (lack_fault at lack ≡ d.NoMemory) ⊎ IsItemRefused around find left at bytes (lack_fault at lack)
refused_lack around find left at bytes back code abbreviation lack is nonzero some found (inl none) = inl (ap (lack_fault at) none)
refused_lack around find left at bytes back code abbreviation lack is nonzero some found (inr told) =
    inr (inr (
      code,
      back,
      has_code bytes back code is nonzero,
      inr (inr (some, record { abbreviation = abbreviation; found = found; why = told.0; gap = told.2; fault_is = ap (lack_fault at) told.1 })),
    ))

-- ---- the items so far

-- how many levels are open behind some items
pub depth_behind : ℕ → List Placed → ℕ
depth_behind depth [] = depth
depth_behind depth (placed ∷ items) = depth_behind (depth_after depth placed.item) items

pub depth_more : (depth : ℕ) (items : List Placed) (placed : Placed) → depth_behind depth (items ++ placed ∷ []) ≡ depth_after (depth_behind depth items) placed.item
unfolding depth_behind
depth_more depth [] placed = refl
depth_more depth (first ∷ items) placed = depth_more (depth_after depth first.item) items placed

pub dies_more : (depth : ℕ) (items : List Placed) (placed : Placed) → dies_of depth (items ++ placed ∷ []) ≡ dies_of depth items ++ die_of placed.at (depth_behind depth items) placed.item
unfolding dies_of depth_behind
dies_more depth [] placed = append-nil (die_of placed.at depth placed.item)
dies_more depth (first ∷ items) placed =
    ap (λ (ds : List Die). die_of first.at depth first.item ++ ds) (dies_more (depth_after depth first.item) items placed)
    ∙ sym (append_assoc (die_of first.at depth first.item) (dies_of (depth_after depth first.item) items) _)

pub die_count : (at depth : ℕ) (item : Item) → length (die_of at depth item) ≡ length (die_of 0 0 item)
die_count at depth Close = refl
die_count at depth (Entry tag children attrs) = refl

rises : (children : Bool) (depth : ℕ) → cond children (depth + 1) depth ≤ depth + 1
rises true depth = omega arith
rises false depth = omega arith

pub depth_rises : (depth : ℕ) (item : Item) → depth_after depth item ≤ depth + 1
depth_rises depth Close = omega arith
depth_rises depth (Entry tag children attrs) = rises children depth

-- the reader stands before this rest: these are the entries before it, and so many levels are open
pub record IsAt (around : Around) (find : ℕ → Option Abbreviation) (left at : ℕ) (bytes : List ℕ) (dies : List Die) (depth : ℕ) (rest : List ℕ) : Type 0 where
  pub items : List Placed
  pub front : List ℕ
  pub parts : bytes ≡ front ++ rest
  pub each : EachFrom (IsPlaced around find) at items front
  pub are : dies ≡ dies_of 0 items
  pub levels : depth ≡ depth_behind 0 items
  pub few : length dies ≤ left
  pub shallow : depth ≤ length front

pub starts : (around : Around) (find : ℕ → Option Abbreviation) (left at : ℕ) (bytes : List ℕ) → IsAt around find left at bytes [] 0 bytes
unfolding dies_of depth_behind
starts around find left at bytes = record { items = []; front = []; parts = refl; each = refl; are = refl; levels = refl; few = omega arith; shallow = omega arith }

pub goes_on : (around : Around) (find : ℕ → Option Abbreviation) (left at : ℕ) (bytes : List ℕ) (dies : List Die) (depth : ℕ) (rest : List ℕ) (here : ℕ) (item : Item) (tail : List ℕ)
    → IsAt around find left at bytes dies depth rest → here ≡ at + (length bytes - length rest) → IsFirst around find (left - length dies) rest item tail
    → IsAt around find left at bytes (dies ++ die_of here depth item) (depth_after depth item) tail
goes_on around find left at bytes dies depth rest here item tail is place first =
    let size : length bytes ≡ length is.front + length rest = ap length is.parts ∙ length-append is.front rest in
    let here_is : here ≡ at + length is.front = omega arith in
    let count : length (dies ++ die_of here depth item) ≡ length dies + length (die_of 0 0 item) = length-append dies (die_of here depth item) ∙ ap (λ n. length dies + n) (die_count here depth item) in
    let placed : Placed = record { at = here; item = item } in
    record {
      items = is.items ++ placed ∷ [];
      front = is.front ++ first.front;
      parts = is.parts ∙ ap (λ (b : List ℕ). is.front ++ b) first.parts ∙ sym (append_assoc is.front first.front tail);
      each = each_more (IsPlaced around find) at is.items is.front first.front placed is.each (here_is, first.is);
      are = cc (dies_more 0 is.items placed, is.are, is.levels);
      levels = cc (depth_more 0 is.items placed, is.levels);
      few = omega (arith, count, is.few, first.few);
      shallow = omega (arith, depth_rises depth item, item_some around find first.front item first.is, length-append is.front first.front, is.shallow);
    }

pub shorter : (around : Around) (find : ℕ → Option Abbreviation) (left : ℕ) (rest : List ℕ) (item : Item) (tail : List ℕ) → IsFirst around find left rest item tail → length tail < length rest
shorter around find left rest item tail first = omega (arith, item_some around find first.front item first.is, ap length first.parts, length-append first.front tail)

pub within : (around : Around) (find : ℕ → Option Abbreviation) (left at : ℕ) (bytes : List ℕ) (dies : List Die) (depth : ℕ) (rest : List ℕ)
    → IsAt around find left at bytes dies depth rest → depth + length rest ≤ length bytes
within around find left at bytes dies depth rest is = omega (arith, ap length is.parts, length-append is.front rest, is.shallow)

pub stops : (around : Around) (find : ℕ → Option Abbreviation) (left at : ℕ) (bytes : List ℕ) (dies : List Die) (depth : ℕ) (rest : List ℕ) (here : ℕ) (fault : DieFault)
    → IsAt around find left at bytes dies depth rest → here ≡ at + (length bytes - length rest) → rest ≢ [] → IsItemRefused around find (left - length dies) here rest fault
    → AreDiesRefused around find left at bytes fault
stops around find left at bytes dies depth rest here fault is place some refused =
    let size : length bytes ≡ length is.front + length rest = ap length is.parts ∙ length-append is.front rest in
    let here_is : here ≡ at + length is.front = omega arith in
    let count : length dies ≡ length (dies_of 0 is.items) = ap length is.are in
    let R : ℕ → ℕ → Type 0 = λ n place. IsItemRefused around find (left - n) place rest fault in
    record {
      items = is.items;
      front = is.front;
      back = rest;
      parts = is.parts;
      each = is.each;
      few = omega (arith, is.few);
      some = some;
      refused = subst (λ n. R n (at + length is.front)) count (subst (λ p. R (length dies) p) here_is refused);
    }

pub stops_or : (around : Around) (find : ℕ → Option Abbreviation) (left at : ℕ) (bytes : List ℕ) (dies : List Die) (depth : ℕ) (rest : List ℕ) (here : ℕ) (fault : DieFault)
    → IsAt around find left at bytes dies depth rest → here ≡ at + (length bytes - length rest) → rest ≢ [] → (fault ≡ d.NoMemory) ⊎ IsItemRefused around find (left - length dies) here rest fault
    → (fault ≡ d.NoMemory) ⊎ AreDiesRefused around find left at bytes fault
stops_or around find left at bytes dies depth rest here fault is place some (inl none) = inl none
stops_or around find left at bytes dies depth rest here fault is place some (inr refused) = inr (stops around find left at bytes dies depth rest here fault is place some refused)

pub ends : (around : Around) (find : ℕ → Option Abbreviation) (left at : ℕ) (bytes : List ℕ) (dies : List Die) (depth : ℕ) (rest : List ℕ)
    → IsAt around find left at bytes dies depth rest → rest ≡ [] → AreDies around find at bytes dies × (length dies ≤ left)
ends around find left at bytes dies depth rest is none =
    let whole : is.front ≡ bytes = sym (append-nil is.front) ∙ ap (λ (b : List ℕ). is.front ++ b) (sym none) ∙ sym is.parts in
    (record { items = is.items; each = subst (λ (b : List ℕ). EachFrom (IsPlaced around find) at is.items b) whole is.each; are = is.are }, is.few)

pub some_left : (rest : List ℕ) (empty : Bool) → empty ≡ nat_eq (length rest) 0 → empty ≡ false → rest ≢ []
some_left rest empty told is none = let zero : nat_eq (length rest) 0 ≡ true = ap (λ (r : List ℕ). nat_eq (length r) 0) none in cc
