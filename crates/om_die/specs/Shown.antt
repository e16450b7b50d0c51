-- How contracts see values and sections.
use Rattle.std.specs.Prelude.{ℕ, List}
use Rattle.om_die.specs.Units.{Sections}
use Rattle.om_die.specs.AttributeValue.{Value}
use Rattle.om_die.specs.AttributeValue as v
use Rattle.om_die.specs.declared.attribute.AttrValue.{AttrValue}
use Rattle.om_die.specs.declared.attribute.AttrValue.TheVariants as a

-- the value that is kept
abbrev pub value_of : AttrValue → Value
value_of (a.Addr address) = v.Addr address
value_of (a.Number number) = v.Number number
value_of (a.Signed number) = v.Signed number
value_of (a.Text name) = v.Text name
value_of (a.Block bytes) = v.Block bytes.now
value_of (a.Target offset) = v.Target offset
value_of (a.Offset offset) = v.Offset offset
value_of (a.Flag flag) = v.Flag flag
value_of a.Elsewhere = v.Elsewhere

-- the three sections
abbrev pub sections_of : (info abbrev_ strings : List ℕ) → Sections
sections_of info abbrev_ strings = record { info = info; abbrev_ = abbrev_; strings = strings }
