-- Common information entries (CIE), which say what descriptions have in common, and frame description entries (FDE): DWARF 4, section 6.4.1.
use Rattle.std.specs.Prelude.{ℕ, ℤ, Bool, true, false, ◌||◌, nat_eq, if◌then◌else◌, List, [], ◌∷◌, Result, Ok, Err}
use Rattle.std.specs.List.{list_any}
use Rattle.om_base.specs.Leb.{result_then}
use Rattle.om_base.specs.Reading.{Reader}
use Rattle.om_cfi.specs.Fields.{fixed, short, signed, text, unsigned}
use Rattle.om_cfi.specs.Instructions.{items}
use Rattle.om_cfi.specs.declared.common.CommonEntry.{CommonEntry}
use Rattle.om_cfi.specs.declared.common.CommonEntry.TheVariants.{Ruled, Ruleless}
use Rattle.om_cfi.specs.declared.description.Description.{Description}
use Rattle.om_cfi.specs.declared.fields.Short.{Short}
use Rattle.om_cfi.specs.declared.instruction.Item.{Item}
use Rattle.om_cfi.specs.declared.instruction.Item.TheVariants.{Broken, Known, Unknown}
use Rattle.om_cfi.specs.declared.rule.Factors.{Factors}

-- ---- instructions that break off

abbrev pub breaks : Item → Bool
breaks (Known instruction) = false
breaks Unknown = false
breaks Broken = true

-- the operands of an instruction break off, before an opcode that isn't known
unfoldable pub is_broken : List ℕ → Bool
is_broken bytes = list_any breaks (items 0 bytes)

-- ---- fields

-- what is made of a field and of the bytes behind it
abbrev pub then_read : {A B : Type 0} → Reader A Short → (A → List ℕ → Result B Short) → List ℕ → Result B Short
then_read first next bytes = result_then (λ x. next x.0 x.1) (first bytes)

abbrev pub ruleless : List ℕ → Result CommonEntry Short
ruleless rest = Ok Ruleless

-- ---- what descriptions have in common

abbrev pub checked : ℕ → ℤ → List ℕ → Result CommonEntry Short
checked code scale rest = if is_broken rest then Err short else Ok (Ruled (record { code_alignment = code; data_alignment = scale }) rest)

-- the register of the return address has one byte in version 1
abbrev pub return_register : ℕ → Reader ℕ Short
return_register version = if nat_eq version 1 then fixed 1 else unsigned

unfoldable pub numbers_in : ℕ → List ℕ → Result CommonEntry Short
numbers_in version = then_read unsigned (λ code. then_read signed (λ scale. then_read (return_register version) (λ register. checked code scale)))

-- the sizes of an address and of a segment's selector, which version 4 has
unfoldable pub sizes_in : ℕ → List ℕ → Result CommonEntry Short
sizes_in version =
    if nat_eq version 4
    then then_read (fixed 1) (λ size. if nat_eq size 4 then then_read (fixed 1) (λ segment. if nat_eq segment 0 then numbers_in version else ruleless) else ruleless)
    else numbers_in version

abbrev pub unless_augmented : ℕ → List ℕ → List ℕ → Result CommonEntry Short
unless_augmented version [] = sizes_in version
unless_augmented version (byte ∷ bytes) = ruleless

-- a version that is read
abbrev pub is_read : ℕ → Bool
is_read version = nat_eq version 1 || (nat_eq version 3 || nat_eq version 4)

-- what some descriptions have in common, by the bytes behind an id; nothing is looked at behind the field that shows that there is no rule
unfoldable pub common_entry_in : List ℕ → Result CommonEntry Short
common_entry_in = then_read (fixed 1) (λ version. if is_read version then then_read text (unless_augmented version) else ruleless)

-- ---- descriptions

abbrev pub whole : Factors → List ℕ → ℕ → ℕ → List ℕ → Result Description Short
whole factors common first length rest =
    if is_broken rest then Err short else Ok (record { first = first; length = length; factors = factors; common = common; own = rest })

-- a description, by the bytes behind its id
unfoldable pub description_in : Factors → List ℕ → List ℕ → Result Description Short
description_in factors common = then_read (fixed 4) (λ first. then_read (fixed 4) (λ length. whole factors common first length))
