-- An entry: DWARF 4, section 2.1 "The Debugging Information Entry (DIE)".
use Rattle.std.specs.Prelude.{ℕ, List}
use Rattle.om_die.specs.AttributeValue.{Attribute}

-- what an entry says
pub record Die : Type 0 where
  -- where it begins in .debug_info
  pub at : ℕ
  -- how many entries of its unit it stands below
  pub depth : ℕ
  -- DW_TAG_..
  pub tag : ℕ
  -- its attributes, in their order
  pub attrs : List Attribute
