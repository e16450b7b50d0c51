-- Operations of location expressions by their names in the standard: DWARF 4, section 7.7.1, figure 24.
use Rattle.std.specs.Prelude.{ℕ}

abbrev pub DW_OP_addr : ℕ
DW_OP_addr = 0x03

abbrev pub DW_OP_reg0 : ℕ
DW_OP_reg0 = 0x50

abbrev pub DW_OP_reg31 : ℕ
DW_OP_reg31 = 0x6f

abbrev pub DW_OP_breg0 : ℕ
DW_OP_breg0 = 0x70

abbrev pub DW_OP_breg31 : ℕ
DW_OP_breg31 = 0x8f

abbrev pub DW_OP_fbreg : ℕ
DW_OP_fbreg = 0x91

abbrev pub DW_OP_call_frame_cfa : ℕ
DW_OP_call_frame_cfa = 0x9c
