-- What the reader knows of the offsets that references lead to.
use Rattle.std.specs.Prelude.{ℕ, ◌+◌, ◌≤◌, Bool, false, ◌&&◌, not, nat_le, nat_lt, List, [], ◌∷◌, Option, Some}
use Rattle.std.specs.List.{list_any}
use Rattle.om_die.specs.Units.{attribute_of, settled}
use Rattle.om_die.specs.AttributeValue.{Value, Attribute}
use Rattle.om_die.specs.AttributeValue as v
use Rattle.om_die.specs.Constants.{DW_AT_abstract_origin, DW_AT_specification, DW_AT_type}
use Rattle.om_die.specs.declared.die.Die.{Die}
use Rattle.om_die.specs.declared.skipped.Skipped.{Skipped}

-- ---- units that are skipped

-- an offset lies in a unit
abbrev pub is_within : ℕ → Skipped → Bool
is_within offset unit = nat_le unit.at offset && nat_lt offset (unit.at + unit.size)

-- an offset lies in one of some units
abbrev pub is_skipped : List Skipped → ℕ → Bool
is_skipped units offset = list_any (is_within offset) units

-- units one after another, from a place on, perhaps with others between them
unfoldable pub AreRising : ℕ → List Skipped → Type 0
AreRising place [] = Unit {0}
AreRising place (unit ∷ units) = (place ≤ unit.at) × AreRising (unit.at + unit.size) units

-- an attribute, where a reference to these offsets leads to an entry that isn't read
abbrev pub settled_attribute : (ℕ → Bool) → Attribute → Attribute
settled_attribute elsewhere attribute = record { name = attribute.name; value = settled elsewhere attribute.value }

-- ---- offsets at which entries stand

-- a value refers to an offset that isn't one of these
abbrev pub is_lost_by : (ℕ → Bool) → Option Value → Bool
is_lost_by stands (Some (v.Target offset)) = not (stands offset)
is_lost_by stands value = false

-- an entry refers by DW_AT_abstract_origin, DW_AT_specification or DW_AT_type to an offset that isn't one of these
abbrev pub has_lost_by : (ℕ → Bool) → Die → Bool
has_lost_by stands die = list_any (λ name. is_lost_by stands (attribute_of name die.attrs)) (DW_AT_abstract_origin ∷ DW_AT_specification ∷ DW_AT_type ∷ [])
