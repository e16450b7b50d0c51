-- What an entry says: DWARF 4, section 2.2 "Attribute Types", and section 7.5.4 "Attribute Encodings".
use Rattle.std.specs.Prelude.{ℕ, ℤ, Bool, List}

-- the value of an attribute, by its class
pub data Value : Type 0 where
  -- an address of the program
  Addr : ℕ → Value
  -- a constant without a sign
  Number : ℕ → Value
  -- a constant with a sign
  Signed : ℤ → Value
  -- a string, without the zero at its end
  Text : List ℕ → Value
  -- some bytes: a block, or an expression
  Block : List ℕ → Value
  -- a reference to the entry at an offset of .debug_info
  Target : ℕ → Value
  -- an offset of another section
  Offset : ℕ → Value
  -- a flag
  Flag : Bool → Value
  -- a reference to an entry that isn't read
  Elsewhere : Value

-- an attribute of an entry
pub record Attribute : Type 0 where
  pub name : ℕ
  pub value : Value
