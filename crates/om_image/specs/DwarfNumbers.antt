-- The numbers of DWARF 4 that the worked programs use: sections 7.5.3, 7.5.4, 7.7.1, 7.8, 7.21 and 7.23.
use Rattle.std.specs.Prelude.{ℕ}

-- ---- tags: figure 18

abbrev pub DW_TAG_formal_parameter : ℕ
DW_TAG_formal_parameter = 0x05

abbrev pub DW_TAG_lexical_block : ℕ
DW_TAG_lexical_block = 0x0B

abbrev pub DW_TAG_compile_unit : ℕ
DW_TAG_compile_unit = 0x11

abbrev pub DW_TAG_base_type : ℕ
DW_TAG_base_type = 0x24

abbrev pub DW_TAG_subprogram : ℕ
DW_TAG_subprogram = 0x2E

abbrev pub DW_TAG_variable : ℕ
DW_TAG_variable = 0x34

-- ---- whether an entry has children: figure 19

abbrev pub DW_CHILDREN_no : ℕ
DW_CHILDREN_no = 0x00

abbrev pub DW_CHILDREN_yes : ℕ
DW_CHILDREN_yes = 0x01

-- ---- attributes: figure 20

abbrev pub DW_AT_location : ℕ
DW_AT_location = 0x02

abbrev pub DW_AT_name : ℕ
DW_AT_name = 0x03

abbrev pub DW_AT_byte_size : ℕ
DW_AT_byte_size = 0x0B

abbrev pub DW_AT_stmt_list : ℕ
DW_AT_stmt_list = 0x10

abbrev pub DW_AT_low_pc : ℕ
DW_AT_low_pc = 0x11

abbrev pub DW_AT_high_pc : ℕ
DW_AT_high_pc = 0x12

abbrev pub DW_AT_encoding : ℕ
DW_AT_encoding = 0x3E

abbrev pub DW_AT_frame_base : ℕ
DW_AT_frame_base = 0x40

abbrev pub DW_AT_type : ℕ
DW_AT_type = 0x49

abbrev pub DW_AT_ranges : ℕ
DW_AT_ranges = 0x55

-- ---- forms: figure 21

abbrev pub DW_FORM_addr : ℕ
DW_FORM_addr = 0x01

abbrev pub DW_FORM_data4 : ℕ
DW_FORM_data4 = 0x06

abbrev pub DW_FORM_string : ℕ
DW_FORM_string = 0x08

abbrev pub DW_FORM_data1 : ℕ
DW_FORM_data1 = 0x0B

abbrev pub DW_FORM_ref4 : ℕ
DW_FORM_ref4 = 0x13

abbrev pub DW_FORM_sec_offset : ℕ
DW_FORM_sec_offset = 0x17

abbrev pub DW_FORM_exprloc : ℕ
DW_FORM_exprloc = 0x18

-- ---- operations: figure 24

abbrev pub DW_OP_addr : ℕ
DW_OP_addr = 0x03

abbrev pub DW_OP_reg10 : ℕ
DW_OP_reg10 = 0x5A

abbrev pub DW_OP_reg17 : ℕ
DW_OP_reg17 = 0x61

abbrev pub DW_OP_fbreg : ℕ
DW_OP_fbreg = 0x91

abbrev pub DW_OP_call_frame_cfa : ℕ
DW_OP_call_frame_cfa = 0x9C

-- ---- encodings of base types: figure 25

abbrev pub DW_ATE_signed : ℕ
DW_ATE_signed = 0x05

-- ---- standard opcodes of line programs: figure 37

abbrev pub DW_LNS_copy : ℕ
DW_LNS_copy = 0x01

abbrev pub DW_LNS_advance_pc : ℕ
DW_LNS_advance_pc = 0x02

-- ---- extended opcodes of line programs: figure 38

abbrev pub DW_LNE_end_sequence : ℕ
DW_LNE_end_sequence = 0x01

abbrev pub DW_LNE_set_address : ℕ
DW_LNE_set_address = 0x02

-- ---- call frame instructions: figure 40; the delta of an advance_loc is added to its number

abbrev pub DW_CFA_advance_loc : ℕ
DW_CFA_advance_loc = 0x40

abbrev pub DW_CFA_def_cfa : ℕ
DW_CFA_def_cfa = 0x0C

abbrev pub DW_CFA_def_cfa_offset : ℕ
DW_CFA_def_cfa_offset = 0x0E
