-- Depths of entries: from the first, which stands below none, to each from the one before it.
use Rattle.std.proofs.Common.{◌≡◌, ℕ, ◌+◌, ◌-◌, ◌<◌, ◌≤◌, Bool, true, false, cond, List, [], ◌∷◌, ◌++◌, length, drop, Option, refl, sym, ap, subst, ◌∙◌, arith, length-append, append_assoc}
use Rattle.std.proofs.lemmas.List.{drop_at}
use Rattle.om_base.specs.Leb.{IsUleb}
use Rattle.om_base.specs.Reading.{EachFrom}
use Rattle.om_base.proofs.LebLaws.{uleb_reads}
use Rattle.om_die.specs.Entries.{AreDies, Close, Entry, IsEntry, IsItem, IsPlaced, Item, Placed, depth_after, die_of, dies_of}
use Rattle.om_die.specs.Forms.{Around}
use Rattle.om_die.specs.Laws.{DeeperBelowChildren, DepthOfNext, FirstBelowNone, HasOneReading, OneDeeper}
use Rattle.om_die.specs.AttributeValue.{Attribute}
use Rattle.om_die.specs.declared.abbreviation.Abbreviation.{Abbreviation}
use Rattle.om_die.specs.declared.die.Die.{Die}
use Rattle.om_die.proofs.DieLaws.{leb_some}
use Rattle.om_die.proofs.EntryOnce.{entries_once}
use Rattle.om_die.proofs.ReaderLemmas.{reading_once}

head_is : {X : Type 0} (x y : X) (xs ys : List X) → x ∷ xs ≡ y ∷ ys → x ≡ y
head_is x y xs ys e = cc

tail_is : {X : Type 0} (x y : X) (xs ys : List X) → x ∷ xs ≡ y ∷ ys → xs ≡ ys
tail_is x y xs ys e = cc

-- how many levels are open behind an entry
abbrev below : Bool → ℕ → ℕ
below has_children depth = cond has_children (depth + 1) depth

at_most : (has_children : Bool) (depth : ℕ) → below has_children depth ≤ depth + 1
at_most true depth = omega arith
at_most false depth = omega arith

deeper : (has_children : Bool) (depth : ℕ) → depth < below has_children depth → has_children ≡ true
deeper true depth more = refl
deeper false depth more = absurd (omega (arith, more))

first_depth_by : (at depth : ℕ) (item : Item) (items : List Placed) (die : Die) (dies : List Die)
    → (dies_of (depth_after depth item) items ≡ die ∷ dies → die.depth ≤ depth_after depth item)
    → die_of at depth item ++ dies_of (depth_after depth item) items ≡ die ∷ dies → die.depth ≤ depth
first_depth_by at depth Close items die dies later e = omega (arith, later e)
first_depth_by at depth (Entry tag children attrs) items die dies later e =
    let same = ap (λ (d : Die). d.depth) (head_is _ die _ dies e) in
    omega (arith, same)

-- the first entry stands at most as deep as levels are open before it
first_depth : (depth : ℕ) (items : List Placed) (die : Die) (dies : List Die) → dies_of depth items ≡ die ∷ dies → die.depth ≤ depth
unfolding dies_of
first_depth depth [] die dies e = absurd cc
first_depth depth (placed ∷ items) die dies e =
    first_depth_by placed.at depth placed.item items die dies (first_depth (depth_after depth placed.item) items die dies) e

pub first_below_none : FirstBelowNone
first_below_none around find at bytes die dies are = omega (arith, first_depth 0 are.items die dies (sym are.are))

-- ---- an entry and the next

-- an entry stands in some bytes, and the items behind it have the entries that follow
record Stands (around : Around) (find : ℕ → Option Abbreviation) (at : ℕ) (bytes : List ℕ) (one : Die) (dies : List Die) : Type 0 where
  front : List ℕ
  text : List ℕ
  back : List ℕ
  parts : bytes ≡ front ++ (text ++ back)
  place : one.at ≡ at + length front
  tag : ℕ
  has_children : Bool
  attributes : List Attribute
  entry : IsEntry around find text tag has_children attributes
  items : List Placed
  each : EachFrom (IsPlaced around find) (at + length front + length text) items back
  are : dies_of (below has_children one.depth) items ≡ dies

stands_behind : (around : Around) (find : ℕ → Option Abbreviation) (at : ℕ) (bytes first others : List ℕ) (one : Die) (dies : List Die)
    → bytes ≡ first ++ others → Stands around find (at + length first) others one dies → Stands around find at bytes one dies
stands_behind around find at bytes first others one dies parts is =
    let size = length-append first is.front in
    let place : at + length first + length is.front + length is.text ≡ at + length (first ++ is.front) + length is.text = omega (arith, size) in
    record {
      front = first ++ is.front;
      text = is.text;
      back = is.back;
      parts = parts ∙ ap (λ b. first ++ b) is.parts ∙ sym (append_assoc first is.front (is.text ++ is.back));
      place = omega (arith, is.place, size);
      tag = is.tag;
      has_children = is.has_children;
      attributes = is.attributes;
      entry = is.entry;
      items = is.items;
      each = subst (λ n. EachFrom (IsPlaced around find) n is.items is.back) place is.each;
      are = is.are;
    }

stands_by : (around : Around) (find : ℕ → Option Abbreviation) (at depth place : ℕ) (bytes first others : List ℕ) (item : Item) (items : List Placed) (before after : List Die) (one : Die)
    → bytes ≡ first ++ others → place ≡ at → IsItem around find first item → EachFrom (IsPlaced around find) (at + length first) items others
    → ((earlier : List Die) → dies_of (depth_after depth item) items ≡ earlier ++ one ∷ after → Stands around find (at + length first) others one after)
    → die_of place depth item ++ dies_of (depth_after depth item) items ≡ before ++ one ∷ after → Stands around find at bytes one after
unfolding IsItem
stands_by around find at depth place bytes first others Close items before after one parts here is each later e =
    stands_behind around find at bytes first others one after parts (later before e)
stands_by around find at depth place bytes first others (Entry tag children attrs) items [] after one parts here is each later e =
    let same = head_is _ one _ after e in
    let behind = tail_is _ one _ after e in
    let level : depth ≡ one.depth = ap (λ (d : Die). d.depth) same in
    let place_is : place ≡ one.at = ap (λ (d : Die). d.at) same in
    let next : at + length first ≡ at + 0 + length first = omega arith in
    record {
      front = [];
      text = first;
      back = others;
      parts = parts;
      place = omega (arith, here, place_is);
      tag = tag;
      has_children = children;
      attributes = attrs;
      entry = is;
      items = items;
      each = subst (λ n. EachFrom (IsPlaced around find) n items others) next each;
      are = subst (λ n. dies_of (below children n) items ≡ after) level behind;
    }
stands_by around find at depth place bytes first others (Entry tag children attrs) items (b ∷ bs) after one parts here is each later e =
    stands_behind around find at bytes first others one after parts (later bs (tail_is _ b _ (bs ++ one ∷ after) e))

stands : (around : Around) (find : ℕ → Option Abbreviation) (at depth : ℕ) (bytes : List ℕ) (items : List Placed) (before after : List Die) (one : Die)
    → EachFrom (IsPlaced around find) at items bytes → dies_of depth items ≡ before ++ one ∷ after → Stands around find at bytes one after
unfolding dies_of
stands around find at depth bytes [] [] after one each e = absurd cc
stands around find at depth bytes [] (b ∷ bs) after one each e = absurd cc
stands around find at depth bytes (placed ∷ items) before after one each e =
    stands_by around find at depth placed.at bytes each.0 each.1 placed.item items before after one each.2 each.3.0 each.3.1 each.4
    (λ earlier later. stands around find (at + length each.0) (depth_after depth placed.item) each.1 items earlier after one each.4 later) e

stand : (around : Around) (find : ℕ → Option Abbreviation) (at : ℕ) (bytes : List ℕ) (before after : List Die) (one : Die)
    → AreDies around find at bytes (before ++ one ∷ after) → Stands around find at bytes one after
stand around find at bytes before after one are = stands around find at 0 bytes are.items before after one are.each (sym are.are)

pub one_deeper : OneDeeper
one_deeper around find at bytes before after one next are =
    let is = stand around find at bytes before (next ∷ after) one are in
    let first = first_depth (below is.has_children one.depth) is.items next after is.are in
    omega (arith, first, at_most is.has_children one.depth)

pub deeper_below_children : DeeperBelowChildren
deeper_below_children around find at bytes before after one next are more =
    let is = stand around find at bytes before (next ∷ after) one are in
    let first = first_depth (below is.has_children one.depth) is.items next after is.are in
    let entry = is.entry in
    record {
      front = is.front;
      back = is.text ++ is.back;
      parts = is.parts;
      place = is.place;
      code = entry.code;
      behind = entry.back ++ is.back;
      has = record {
        front = entry.front;
        parts = ap (λ t. t ++ is.back) entry.parts ∙ append_assoc entry.front entry.back is.back;
        spelled = entry.spelled;
        nonzero = entry.nonzero;
      };
      abbreviation = entry.abbreviation;
      found = entry.found;
      children = sym entry.children ∙ deeper is.has_children one.depth (omega (arith, first, more));
    }

-- ---- the ends between them

uleb_once : HasOneReading IsUleb
uleb_once = reading_once uleb_reads

abbrev IsEnd : ℕ → List ℕ → ℕ → Type 0
IsEnd _ code n = (n ≡ 0) × IsUleb code n

place_by : (place at depth : ℕ) (item : Item) (items : List Placed) (die : Die) (dies : List Die)
    → place ≡ at → (dies_of (depth_after depth item) items ≡ die ∷ dies → at ≤ die.at)
    → die_of place depth item ++ dies_of (depth_after depth item) items ≡ die ∷ dies → at ≤ die.at
place_by place at depth Close items die dies here later e = later e
place_by place at depth (Entry tag children attrs) items die dies here later e =
    let same = ap (λ (d : Die). d.at) (head_is _ die _ dies e) in
    omega (arith, same, here)

-- the first entry of some items stands at their place or behind it
first_place : (around : Around) (find : ℕ → Option Abbreviation) (at depth : ℕ) (bytes : List ℕ) (items : List Placed) (die : Die) (dies : List Die)
    → EachFrom (IsPlaced around find) at items bytes → dies_of depth items ≡ die ∷ dies → at ≤ die.at
unfolding dies_of
first_place around find at depth bytes [] die dies each e = absurd cc
first_place around find at depth bytes (placed ∷ items) die dies each e =
    place_by placed.at at depth placed.item items die dies each.3.0
    (λ later. let behind = first_place around find (at + length each.0) (depth_after depth placed.item) each.1 items die dies each.4 later in omega (arith, behind)) e

-- what stands in front, and what the items behind it say of the next entry
ends_by : (around : Around) (find : ℕ → Option Abbreviation) (at depth place count : ℕ) (bytes first others between back : List ℕ) (item : Item) (items : List Placed) (ends : List ℕ) (next : Die) (after : List Die)
    → bytes ≡ first ++ others → place ≡ at → IsItem around find first item → EachFrom (IsPlaced around find) (at + length first) items others
    → ((rest : List ℕ) (fewer : List ℕ) → others ≡ rest ++ back → EachFrom IsEnd (count + length first) fewer rest → next.at ≡ at + length first + length rest
    → dies_of (depth_after depth item) items ≡ next ∷ after → next.depth ≡ depth_after depth item - length fewer)
    → bytes ≡ between ++ back → EachFrom IsEnd count ends between → next.at ≡ at + length between
    → die_of place depth item ++ dies_of (depth_after depth item) items ≡ next ∷ after → next.depth ≡ depth - length ends
unfolding IsItem
ends_by around find at depth place count bytes first others between back Close items [] next after parts here is each later whole none behind e =
    let past = first_place around find (at + length first) (depth - 1) others items next after each e in
    let some = leb_some first 0 is in
    absurd (omega (arith, past, some, behind, ap length none))
ends_by around find at depth place count bytes first others between back Close items (n ∷ ns) next after parts here is each later whole are behind e =
    let apart : first ++ others ≡ are.0 ++ (are.1 ++ back) = sym parts ∙ whole ∙ ap (λ h. h ++ back) are.2 ∙ append_assoc are.0 are.1 back in
    let codes = uleb_once first are.0 others (are.1 ++ back) 0 n is are.3.1 apart in
    let sizes : length first ≡ length are.0 = ap length codes.1 in
    let count_is : count + length are.0 ≡ count + length first = omega (arith, sizes) in
    let fewer = subst (λ k. EachFrom IsEnd k ns are.1) count_is are.4 in
    let place_is : next.at ≡ at + length first + length are.1 = omega (arith, behind, sizes, ap length are.2, length-append are.0 are.1) in
    omega (arith, later are.1 ns codes.2 fewer place_is e)
ends_by around find at depth place count bytes first others between back (Entry tag children attrs) items [] next after parts here is each later whole none behind e =
    let same = ap (λ (d : Die). d.depth) (head_is _ next _ after e) in
    omega (arith, same)
ends_by around find at depth place count bytes first others between back (Entry tag children attrs) items (n ∷ ns) next after parts here is each later whole are behind e =
    let same = ap (λ (d : Die). d.at) (head_is _ next _ after e) in
    let some = leb_some are.0 n are.3.1 in
    absurd (omega (arith, same, here, some, behind, ap length are.2, length-append are.0 are.1))

ends_then : (around : Around) (find : ℕ → Option Abbreviation) (at depth count : ℕ) (bytes between back : List ℕ) (items : List Placed) (ends : List ℕ) (next : Die) (after : List Die)
    → EachFrom (IsPlaced around find) at items bytes → bytes ≡ between ++ back → EachFrom IsEnd count ends between → next.at ≡ at + length between
    → dies_of depth items ≡ next ∷ after → next.depth ≡ depth - length ends
unfolding dies_of
ends_then around find at depth count bytes between back [] ends next after each whole are behind e = absurd cc
ends_then around find at depth count bytes between back (placed ∷ items) ends next after each whole are behind e =
    ends_by around find at depth placed.at count bytes each.0 each.1 between back placed.item items ends next after each.2 each.3.0 each.3.1 each.4
    (λ rest fewer whole2 are2 behind2 e2.
    ends_then around find (at + length each.0) (depth_after depth placed.item) (count + length each.0) each.1 rest back items fewer next after each.4 whole2 are2 behind2 e2)
    whole are behind e

same_back : (s t u v : List ℕ) → length s ≡ length t → s ++ u ≡ t ++ v → u ≡ v
same_back s t u v size same = sym (drop_at s u (length s) refl) ∙ ap (drop (length s)) same ∙ drop_at t v (length s) (sym size)

pub depth_of_next : DepthOfNext
depth_of_next around find at bytes before after one next has_children ends are between =
    let is = stand around find at bytes before (next ∷ after) one are in
    let parts : bytes ≡ between.front ++ (between.text ++ (between.between ++ between.back)) =
    between.parts ∙ append_assoc (between.front ++ between.text) between.between between.back ∙ append_assoc between.front between.text (between.between ++ between.back) in
    let sizes : length is.front ≡ length between.front = omega (arith, is.place, between.place) in
    let behind = same_back is.front between.front (is.text ++ is.back) (between.text ++ (between.between ++ between.back)) sizes (sym is.parts ∙ parts) in
    let entries = entries_once around find is.text between.text is.back (between.between ++ between.back) is.tag between.tag is.has_children has_children is.attributes between.attributes is.entry between.entry behind in
    let children : is.has_children ≡ has_children = cc (entries.0) in
    let place : next.at ≡ at + length is.front + length is.text + length between.between = omega (arith, between.behind, sizes, ap length entries.1) in
    let depth = ends_then around find (at + length is.front + length is.text) (below is.has_children one.depth) 0 is.back between.between between.back is.items ends next after is.each entries.2 between.each place is.are in
    depth ∙ ap (λ c. below c one.depth - length ends) children
