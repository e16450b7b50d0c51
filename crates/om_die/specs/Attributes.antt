-- The attributes of an entry: DWARF 4, section 7.5.2 "Debugging Information Entry".
use Rattle.std.specs.Prelude.{◌≡◌, ℕ, List, [], ◌∷◌, ◌++◌, ◌⊎◌}
use Rattle.om_die.specs.Forms.{Around, IsValue, IsFormRefused, HasNoValue}
use Rattle.om_die.specs.AttributeValue.{Value, Attribute}
use Rattle.om_die.specs.declared.abbreviation.Specification.{Specification}
use Rattle.om_die.specs.declared.attributes.Gap.{Gap}
use Rattle.om_die.specs.declared.attributes.Gap.TheVariants as gap

-- some bytes spell the values of these attributes, one after another, in the forms that an abbreviation lists
unfoldable pub AreAttributes : Around → List Specification → List ℕ → List Attribute → Type 0
AreAttributes around [] bytes attributes = (bytes ≡ []) × (attributes ≡ [])
AreAttributes around (s ∷ ss) bytes [] = ⊥
AreAttributes around (s ∷ ss) bytes (attribute ∷ attributes) =
    (front back : List ℕ) × (bytes ≡ front ++ back) × (attribute.name ≡ s.name) × IsValue around s.form front attribute.value
    × AreAttributes around ss back attributes

-- why some bytes begin with no value of a form: it is refused by its form, or isn't whole; a number that is too long counts as
-- one that isn't whole
unfoldable pub IsGap : Around → Specification → List ℕ → Gap → Type 0
IsGap around s bytes gap.Form = IsFormRefused around s.form bytes
IsGap around s bytes gap.Short = (IsFormRefused around s.form bytes → ⊥) × HasNoValue around s.form bytes

-- why some bytes begin with no values in the forms that an abbreviation lists: the first that isn't there tells it
unfoldable pub HasGap : Around → List Specification → List ℕ → Gap → Type 0
HasGap around [] bytes why = ⊥
HasGap around (s ∷ ss) bytes why =
    IsGap around s bytes why
    ⊎ ((front back : List ℕ) × (value : Value) × (bytes ≡ front ++ back) × IsValue around s.form front value × HasGap around ss back why)
