-- Numbers of the standard by its names: DWARF 4, section 7.5.
use Rattle.std.specs.Prelude.{ℕ}

-- ---- tags: section 7.5.3, figure 18

abbrev pub DW_TAG_lexical_block : ℕ
DW_TAG_lexical_block = 0x0b

abbrev pub DW_TAG_subprogram : ℕ
DW_TAG_subprogram = 0x2e

-- ---- attributes: section 7.5.4, figure 20

abbrev pub DW_AT_name : ℕ
DW_AT_name = 0x03

abbrev pub DW_AT_low_pc : ℕ
DW_AT_low_pc = 0x11

abbrev pub DW_AT_high_pc : ℕ
DW_AT_high_pc = 0x12

abbrev pub DW_AT_abstract_origin : ℕ
DW_AT_abstract_origin = 0x31

abbrev pub DW_AT_specification : ℕ
DW_AT_specification = 0x47

abbrev pub DW_AT_type : ℕ
DW_AT_type = 0x49

abbrev pub DW_AT_ranges : ℕ
DW_AT_ranges = 0x55

-- ---- forms: section 7.5.4, figure 21

abbrev pub DW_FORM_addr : ℕ
DW_FORM_addr = 0x01

abbrev pub DW_FORM_block2 : ℕ
DW_FORM_block2 = 0x03

abbrev pub DW_FORM_block4 : ℕ
DW_FORM_block4 = 0x04

abbrev pub DW_FORM_data2 : ℕ
DW_FORM_data2 = 0x05

abbrev pub DW_FORM_data4 : ℕ
DW_FORM_data4 = 0x06

abbrev pub DW_FORM_data8 : ℕ
DW_FORM_data8 = 0x07

abbrev pub DW_FORM_string : ℕ
DW_FORM_string = 0x08

abbrev pub DW_FORM_block : ℕ
DW_FORM_block = 0x09

abbrev pub DW_FORM_block1 : ℕ
DW_FORM_block1 = 0x0a

abbrev pub DW_FORM_data1 : ℕ
DW_FORM_data1 = 0x0b

abbrev pub DW_FORM_flag : ℕ
DW_FORM_flag = 0x0c

abbrev pub DW_FORM_sdata : ℕ
DW_FORM_sdata = 0x0d

abbrev pub DW_FORM_strp : ℕ
DW_FORM_strp = 0x0e

abbrev pub DW_FORM_udata : ℕ
DW_FORM_udata = 0x0f

abbrev pub DW_FORM_ref_addr : ℕ
DW_FORM_ref_addr = 0x10

abbrev pub DW_FORM_ref1 : ℕ
DW_FORM_ref1 = 0x11

abbrev pub DW_FORM_ref2 : ℕ
DW_FORM_ref2 = 0x12

abbrev pub DW_FORM_ref4 : ℕ
DW_FORM_ref4 = 0x13

abbrev pub DW_FORM_ref8 : ℕ
DW_FORM_ref8 = 0x14

abbrev pub DW_FORM_ref_udata : ℕ
DW_FORM_ref_udata = 0x15

abbrev pub DW_FORM_indirect : ℕ
DW_FORM_indirect = 0x16

abbrev pub DW_FORM_sec_offset : ℕ
DW_FORM_sec_offset = 0x17

abbrev pub DW_FORM_exprloc : ℕ
DW_FORM_exprloc = 0x18

abbrev pub DW_FORM_flag_present : ℕ
DW_FORM_flag_present = 0x19

abbrev pub DW_FORM_ref_sig8 : ℕ
DW_FORM_ref_sig8 = 0x20
