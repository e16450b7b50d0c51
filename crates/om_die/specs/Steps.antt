-- What the reader of entries finds, item by item.
use Rattle.std.specs.Prelude.{◌≡◌, ℕ, ◌≤◌, List, ◌++◌, length, Option, Some, None}
use Rattle.om_base.specs.Leb.{IsUleb}
use Rattle.om_die.specs.Entries.{Item, Close, IsItem, die_of}
use Rattle.om_die.specs.Entries as spec
use Rattle.om_die.specs.Forms.{Around}
use Rattle.om_die.specs.Refusals.{gap_fault}
use Rattle.om_die.specs.declared.abbreviation.Abbreviation.{Abbreviation}
use Rattle.om_die.specs.declared.attributes.Lack.{Lack}
use Rattle.om_die.specs.declared.attributes.Lack.TheVariants as l
use Rattle.om_die.specs.declared.entries.Entry.{Entry}
use Rattle.om_die.specs.declared.fault.DieFault.{DieFault}
use Rattle.om_die.specs.declared.fault.DieFault.TheVariants as d

-- the item that an entry is at its place, or that no entry is
abbrev pub item_of : Option Entry → Item
item_of None = Close
item_of (Some entry) = spec.Entry entry.tag entry.has_children entry.attrs

-- a code stands in front of some bytes, with others behind it
pub record IsCode (bytes : List ℕ) (code : ℕ) (behind : List ℕ) : Type 0 where
  pub front : List ℕ
  pub parts : bytes ≡ front ++ behind
  pub spelled : IsUleb front code

-- an item stands in front of some bytes, with others behind it; if it is an entry, one was left
pub record IsFirst (around : Around) (find : ℕ → Option Abbreviation) (left : ℕ) (bytes : List ℕ) (item : Item) (behind : List ℕ) : Type 0 where
  pub front : List ℕ
  pub parts : bytes ≡ front ++ behind
  pub is : IsItem around find front item
  pub few : length (die_of 0 0 item) ≤ left

-- why an entry at a place isn't read, from what its attributes lack
abbrev pub lack_fault : ℕ → Lack → DieFault
lack_fault at l.NoMemory = d.NoMemory
lack_fault at (l.Gap why) = gap_fault at why
