-- Laws of values, attributes, tables, forms and entries, as statements: a thing has one reading, a list of attributes is there or
-- lacks one, no form is without values, and depths follow from what has children.
use Rattle.std.specs.Prelude.{◌≡◌, ℕ, ◌+◌, ◌-◌, ◌<◌, ◌≤◌, Bool, true, if◌then◌else◌, List, ◌∷◌, ◌++◌, length, Option, Some, ◌⊎◌}
use Rattle.om_base.specs.Leb.{IsUleb}
use Rattle.om_base.specs.Reading.{EachFrom, IsText}
use Rattle.om_die.specs.Abbreviations.{Entry, IsTable}
use Rattle.om_die.specs.Attributes.{AreAttributes, HasGap}
use Rattle.om_die.specs.Entries.{AreDies, IsEntry}
use Rattle.om_die.specs.Forms.{Around, IsValue, IsFormRefused, HasNoValue, form_of}
use Rattle.om_die.specs.Refusals.{HasCode}
use Rattle.om_die.specs.AttributeValue.{Value, Attribute}
use Rattle.om_die.specs.AttributeValue as v
use Rattle.om_die.specs.declared.abbreviation.Abbreviation.{Abbreviation}
use Rattle.om_die.specs.declared.abbreviation.Specification.{Specification}
use Rattle.om_die.specs.declared.attributes.Gap.{Gap}
use Rattle.om_die.specs.declared.die.Die.{Die}
use Rattle.om_die.specs.declared.attribute_form.Form.{Form}
use Rattle.om_die.specs.declared.attribute_form.Form.TheVariants as f

-- two things in front of the same bytes are the same, in the same bytes
abbrev pub HasOneReading : {X : Type 0} → (List ℕ → X → Type 0) → Type 0
HasOneReading {X} R = (s t u v : List ℕ) (x y : X) → R s x → R t y → s ++ u ≡ t ++ v → (x ≡ y) × (s ≡ t) × (u ≡ v)

abbrev pub OneValue : Type 0
OneValue = (around : Around) (form : Option Form) → HasOneReading (IsValue around form)

abbrev pub OneList : Type 0
OneList = (around : Around) (list : List Specification) → HasOneReading (AreAttributes around list)

-- some bytes that begin with all attributes of a list lack none
abbrev pub WholeOrNot : Type 0
WholeOrNot = (around : Around) (list : List Specification) (bytes front tail : List ℕ) (attributes : List Attribute) (why : Gap)
    → AreAttributes around list front attributes → bytes ≡ front ++ tail → HasGap around list bytes why → ⊥

-- the first attribute that isn't there is lacking for one reason
abbrev pub OneGap : Type 0
OneGap = (around : Around) (list : List Specification) (bytes : List ℕ) (why other : Gap)
    → HasGap around list bytes why → HasGap around list bytes other → why ≡ other

-- all bytes begin with all attributes of a list, or lack one
abbrev pub ListOrGap : Type 0
ListOrGap = (around : Around) (list : List Specification) (bytes : List ℕ)
    → ((front tail : List ℕ) × (attributes : List Attribute) × (bytes ≡ front ++ tail) × AreAttributes around list front attributes)
    ⊎ ((why : Gap) × HasGap around list bytes why)

-- all bytes are the table of some entries
abbrev pub SomeTable : Type 0
SomeTable = (bytes : List ℕ) → (entries : List Entry) × IsTable bytes entries

abbrev pub OneTable : Type 0
OneTable = (bytes : List ℕ) (xs ys : List Entry) → IsTable bytes xs → IsTable bytes ys → xs ≡ ys

-- a value that its form refuses isn't there
abbrev pub RefusedIsAbsent : Type 0
RefusedIsAbsent = (around : Around) (form : Option Form) (bytes : List ℕ) → IsFormRefused around form bytes → HasNoValue around form bytes

-- nor is it whatever is appended, but for a string that ends in what is
abbrev pub RefusedForGood : Type 0
RefusedForGood = (around : Around) (form : Option Form) (bytes more front back : List ℕ) (value : Value)
    → IsFormRefused around form bytes → bytes ++ more ≡ front ++ back → IsValue around form front value
    → (length bytes < length front) × ((name : List ℕ) × (value ≡ v.Text name))

-- ---- forms

-- each form has a code
abbrev pub EachFormHasCode : Type 0
EachFormHasCode = (form : Form) → (code : ℕ) × (form_of code ≡ Some form)

-- ... and no other
abbrev pub OneCode : Type 0
OneCode = (form : Form) (code other : ℕ) → form_of code ≡ Some form → form_of other ≡ Some form → code ≡ other

-- a string stands in front of some bytes
abbrev pub BeginWithText : List ℕ → Type 0
BeginWithText bytes = (front back name : List ℕ) × (bytes ≡ front ++ back) × IsText front name

-- in each form some bytes spell a value; as an offset of .debug_str, if a string stands there at all
abbrev pub EachFormSpells : Type 0
EachFormSpells = (around : Around) (form : Form) → (form ≡ f.Strp → BeginWithText around.strings)
    → (bytes : List ℕ) × (value : Value) × IsValue around (Some form) bytes value

-- ---- depths of entries

-- the entry at its place of some bytes, which begin at an offset, has an abbreviation with children
pub record HasChildren (find : ℕ → Option Abbreviation) (at : ℕ) (bytes : List ℕ) (die : Die) : Type 0 where
  pub front : List ℕ
  pub back : List ℕ
  pub parts : bytes ≡ front ++ back
  pub place : die.at ≡ at + length front
  pub code : ℕ
  pub behind : List ℕ
  pub has : HasCode back code behind
  pub abbreviation : Abbreviation
  pub found : find code ≡ Some abbreviation
  pub children : abbreviation.has_children ≡ true

-- the first entry of a unit stands below none
abbrev pub FirstBelowNone : Type 0
FirstBelowNone = (around : Around) (find : ℕ → Option Abbreviation) (at : ℕ) (bytes : List ℕ) (die : Die) (dies : List Die)
    → AreDies around find at bytes (die ∷ dies) → die.depth ≡ 0

-- an entry stands at most one level deeper than the one before it
abbrev pub OneDeeper : Type 0
OneDeeper = (around : Around) (find : ℕ → Option Abbreviation) (at : ℕ) (bytes : List ℕ) (before after : List Die) (one next : Die)
    → AreDies around find at bytes (before ++ one ∷ next ∷ after) → next.depth ≤ one.depth + 1

-- ... and deeper only where that one has children
abbrev pub DeeperBelowChildren : Type 0
DeeperBelowChildren = (around : Around) (find : ℕ → Option Abbreviation) (at : ℕ) (bytes : List ℕ) (before after : List Die) (one next : Die)
    → AreDies around find at bytes (before ++ one ∷ next ∷ after) → one.depth < next.depth → HasChildren find at bytes one

-- the bytes of an entry stand at its place of some bytes, which begin at an offset, and between it and another entry stand so
-- many codes 0 and nothing else
pub record EndsStandBetween (around : Around) (find : ℕ → Option Abbreviation) (at : ℕ) (bytes : List ℕ) (has_children : Bool) (ends : List ℕ) (one next : Die) : Type 0 where
  pub front : List ℕ
  pub text : List ℕ
  pub between : List ℕ
  pub back : List ℕ
  pub parts : bytes ≡ front ++ text ++ between ++ back
  pub place : one.at ≡ at + length front
  pub tag : ℕ
  pub attributes : List Attribute
  pub entry : IsEntry around find text tag has_children attributes
  pub each : EachFrom (λ _ code n. (n ≡ 0) × IsUleb code n) 0 ends between
  pub behind : next.at ≡ at + length front + length text + length between

-- an entry stands one level deeper than the one before it where that one has children, less one for each end between them
abbrev pub DepthOfNext : Type 0
DepthOfNext = (around : Around) (find : ℕ → Option Abbreviation) (at : ℕ) (bytes : List ℕ) (before after : List Die) (one next : Die) (has_children : Bool) (ends : List ℕ)
    → AreDies around find at bytes (before ++ one ∷ next ∷ after) → EndsStandBetween around find at bytes has_children ends one next
    → next.depth ≡ (if has_children then one.depth + 1 else one.depth) - length ends
