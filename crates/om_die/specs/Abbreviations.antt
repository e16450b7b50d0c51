-- Abbreviation tables: DWARF 4, section 7.5.3 "Abbreviations Tables".
use Rattle.std.specs.Prelude.{◌≡◌, ◌≢◌, ℕ, ◌+◌, not, nat_eq, List, [], ◌∷◌, ◌++◌, find, Option}
use Rattle.std.specs.Option.{option_map}
use Rattle.om_base.specs.Leb.{IsUleb}
use Rattle.om_base.specs.Reading.{IsNumber, EachFrom, NoMore}
use Rattle.om_die.specs.Forms.{form_of, capped}
use Rattle.om_die.specs.declared.abbreviation.Abbreviation.{Abbreviation}
use Rattle.om_die.specs.declared.abbreviation.Specification.{Specification}

-- an entry of a table: an abbreviation under its code
pub record Entry : Type 0 where
  pub code : ℕ
  pub abbreviation : Abbreviation

-- the name of an attribute and the code of its form, which end the list where both are 0
pub record IsPair (bytes : List ℕ) (name form : ℕ) : Type 0 where
  pub front : List ℕ
  pub back : List ℕ
  pub parts : bytes ≡ front ++ back
  pub first : IsUleb front name
  pub second : IsUleb back form

-- the attributes that an abbreviation lists, up to the end of the list
unfoldable pub AreSpecifications : List ℕ → List Specification → Type 0
AreSpecifications bytes [] = IsPair bytes 0 0
AreSpecifications bytes (s ∷ ss) =
    (front back : List ℕ) × (name form : ℕ) × (bytes ≡ front ++ back) × IsPair front name form × (name + form ≢ 0)
    × (s ≡ record { name = capped name; form = form_of form }) × AreSpecifications back ss

-- an entry: its code, its tag, whether it has children, and its attributes
pub record IsEntry (bytes : List ℕ) (entry : Entry) : Type 0 where
  pub code : List ℕ
  pub tag : List ℕ
  pub children : List ℕ
  pub list : List ℕ
  pub parts : bytes ≡ code ++ tag ++ children ++ list
  pub is_code : IsUleb code entry.code
  pub nonzero : entry.code ≢ 0
  pub tag_number : ℕ
  pub is_tag : IsUleb tag tag_number
  pub tag_is : entry.abbreviation.tag ≡ capped tag_number
  pub children_number : ℕ
  pub is_children : IsNumber 1 children children_number
  pub children_are : entry.abbreviation.has_children ≡ not (nat_eq children_number 0)
  pub attributes : AreSpecifications list entry.abbreviation.attributes

-- the whole entries at the front of some bytes, up to the code 0 or to an entry that breaks off or has a number that is too long
pub record IsTable (bytes : List ℕ) (entries : List Entry) : Type 0 where
  pub front : List ℕ
  pub back : List ℕ
  pub parts : bytes ≡ front ++ back
  pub each : EachFrom (λ _. IsEntry) 0 entries front
  pub no_more : NoMore (λ _. IsEntry) 0 back

-- the first abbreviation of a code
unfoldable pub abbreviation_of : List Entry → ℕ → Option Abbreviation
abbreviation_of entries code = option_map (λ entry. entry.abbreviation) (find (λ entry. nat_eq entry.code code) entries)
