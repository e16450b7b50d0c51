-- Numbers of the standard that types and variables need, by its names: DWARF 4, sections 7.5 and 7.8.
use Rattle.std.specs.Prelude.{ℕ}

-- ---- tags: section 7.5.3, figure 18

abbrev pub DW_TAG_enumeration_type : ℕ
DW_TAG_enumeration_type = 0x04

abbrev pub DW_TAG_formal_parameter : ℕ
DW_TAG_formal_parameter = 0x05

abbrev pub DW_TAG_pointer_type : ℕ
DW_TAG_pointer_type = 0x0f

abbrev pub DW_TAG_typedef : ℕ
DW_TAG_typedef = 0x16

abbrev pub DW_TAG_inlined_subroutine : ℕ
DW_TAG_inlined_subroutine = 0x1d

abbrev pub DW_TAG_base_type : ℕ
DW_TAG_base_type = 0x24

abbrev pub DW_TAG_const_type : ℕ
DW_TAG_const_type = 0x26

abbrev pub DW_TAG_variable : ℕ
DW_TAG_variable = 0x34

abbrev pub DW_TAG_volatile_type : ℕ
DW_TAG_volatile_type = 0x35

abbrev pub DW_TAG_restrict_type : ℕ
DW_TAG_restrict_type = 0x37

-- ---- attributes: section 7.5.4, figure 20

abbrev pub DW_AT_location : ℕ
DW_AT_location = 0x02

abbrev pub DW_AT_byte_size : ℕ
DW_AT_byte_size = 0x0b

abbrev pub DW_AT_declaration : ℕ
DW_AT_declaration = 0x3c

abbrev pub DW_AT_encoding : ℕ
DW_AT_encoding = 0x3e

abbrev pub DW_AT_frame_base : ℕ
DW_AT_frame_base = 0x40

-- ---- encodings of base types: section 7.8, figure 25

abbrev pub DW_ATE_boolean : ℕ
DW_ATE_boolean = 0x02

abbrev pub DW_ATE_signed : ℕ
DW_ATE_signed = 0x05

abbrev pub DW_ATE_signed_char : ℕ
DW_ATE_signed_char = 0x06

abbrev pub DW_ATE_unsigned : ℕ
DW_ATE_unsigned = 0x07

abbrev pub DW_ATE_unsigned_char : ℕ
DW_ATE_unsigned_char = 0x08
