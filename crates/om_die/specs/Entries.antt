-- The entries of a unit, as a list with depths: DWARF 4, section 2.3 "Relationship of Debugging Information Entries",
-- and section 7.5.2 "Debugging Information Entry".
use Rattle.std.specs.Prelude.{◌≡◌, ◌≢◌, ℕ, ◌+◌, ◌-◌, Bool, if◌then◌else◌, List, [], ◌∷◌, ◌++◌, Option, Some}
use Rattle.om_base.specs.Leb.{IsUleb}
use Rattle.om_base.specs.Reading.{EachFrom}
use Rattle.om_die.specs.Attributes.{AreAttributes}
use Rattle.om_die.specs.Forms.{Around}
use Rattle.om_die.specs.AttributeValue.{Attribute}
use Rattle.om_die.specs.declared.abbreviation.Abbreviation.{Abbreviation}
use Rattle.om_die.specs.declared.die.Die.{Die}

-- what stands at a place of a unit
pub data Item : Type 0 where
  -- the code 0, which ends the children of an entry
  Close : Item
  -- an entry, which has children or not
  Entry : (tag : ℕ) → (has_children : Bool) → List Attribute → Item

pub record Placed : Type 0 where
  pub at : ℕ
  pub item : Item

-- an entry: a code, and the attributes of its abbreviation
pub record IsEntry (around : Around) (find : ℕ → Option Abbreviation) (bytes : List ℕ) (tag : ℕ) (has_children : Bool) (attributes : List Attribute) : Type 0 where
  pub code : ℕ
  pub front : List ℕ
  pub back : List ℕ
  pub parts : bytes ≡ front ++ back
  pub spelled : IsUleb front code
  pub nonzero : code ≢ 0
  pub abbreviation : Abbreviation
  pub found : find code ≡ Some abbreviation
  pub tag_is : tag ≡ abbreviation.tag
  pub children : has_children ≡ abbreviation.has_children
  pub values : AreAttributes around abbreviation.attributes back attributes

unfoldable pub IsItem : Around → (ℕ → Option Abbreviation) → List ℕ → Item → Type 0
IsItem around find bytes Close = IsUleb bytes 0
IsItem around find bytes (Entry tag has_children attributes) = IsEntry around find bytes tag has_children attributes

-- an item at its place
abbrev pub IsPlaced : Around → (ℕ → Option Abbreviation) → ℕ → List ℕ → Placed → Type 0
IsPlaced around find at bytes placed = (placed.at ≡ at) × IsItem around find bytes placed.item

-- how many levels are open after an item; an end where none is open is passed over
abbrev pub depth_after : ℕ → Item → ℕ
depth_after depth Close = depth - 1
depth_after depth (Entry tag has_children attributes) = if has_children then depth + 1 else depth

-- the entry that an item is, if it is one, with the number of levels that are open there
abbrev pub die_of : ℕ → ℕ → Item → List Die
die_of at depth Close = []
die_of at depth (Entry tag has_children attributes) = record { at = at; depth = depth; tag = tag; attrs = attributes } ∷ []

-- the entries among some items, where so many levels are open before them
unfoldable pub dies_of : ℕ → List Placed → List Die
dies_of depth [] = []
dies_of depth (placed ∷ items) = die_of placed.at depth placed.item ++ dies_of (depth_after depth placed.item) items

-- the entries of a unit's bytes behind its head, which begin at an offset of .debug_info
pub record AreDies (around : Around) (find : ℕ → Option Abbreviation) (at : ℕ) (bytes : List ℕ) (dies : List Die) : Type 0 where
  pub items : List Placed
  pub each : EachFrom (IsPlaced around find) at items bytes
  pub are : dies ≡ dies_of 0 items
