-- Debugging information as DWARF 4 spells it: section 7.5; line tables: section 6.2; and frames: section 6.4.
-- Each number that the standard spells in LEB128 is one byte here (section 7.6): those without a sign are below 128.
use Rattle.std.specs.Prelude.{ℕ, ◌+◌, ◌-◌, ◌*◌, List, [], ◌∷◌, ◌++◌, length}
use Rattle.std.specs.List.{flat_map}
use Rattle.om_image.specs.DwarfNumbers.{DW_AT_byte_size, DW_AT_encoding, DW_AT_frame_base, DW_AT_high_pc, DW_AT_location, DW_AT_low_pc, DW_AT_name, DW_AT_ranges, DW_AT_stmt_list, DW_AT_type, DW_CFA_advance_loc, DW_CFA_def_cfa, DW_CFA_def_cfa_offset, DW_CHILDREN_no, DW_CHILDREN_yes, DW_FORM_addr, DW_FORM_data1, DW_FORM_data4, DW_FORM_exprloc, DW_FORM_ref4, DW_FORM_sec_offset, DW_FORM_string, DW_LNE_end_sequence, DW_LNE_set_address, DW_LNS_advance_pc, DW_LNS_copy, DW_TAG_base_type, DW_TAG_compile_unit, DW_TAG_formal_parameter, DW_TAG_lexical_block, DW_TAG_subprogram, DW_TAG_variable}
use Rattle.om_image.specs.ElfFile.{half, word}

-- ---- abbreviations: section 7.5.3

-- the declaration of a code: the tag of its entries, whether they have children, and the names and forms of their attributes
abbrev pub declaration : (code tag children : ℕ) → List (ℕ × ℕ) → List ℕ
declaration code tag children attributes =
    code ∷ tag ∷ children ∷ (flat_map (λ a. a.0 ∷ a.1 ∷ []) attributes ++ 0 ∷ 0 ∷ [])

-- attributes that several declarations have
abbrev pub span : List (ℕ × ℕ)
span = (DW_AT_name, DW_FORM_string) ∷ (DW_AT_low_pc, DW_FORM_addr) ∷ (DW_AT_high_pc, DW_FORM_data4) ∷ []

abbrev pub typed : List (ℕ × ℕ)
typed = (DW_AT_name, DW_FORM_string) ∷ (DW_AT_type, DW_FORM_ref4) ∷ (DW_AT_location, DW_FORM_exprloc) ∷ []

-- the table of the worked programs whose units have no lines
unfoldable pub abbreviations : List ℕ
abbreviations =
    declaration 1 DW_TAG_compile_unit DW_CHILDREN_yes []
    ++ declaration 2 DW_TAG_subprogram DW_CHILDREN_no span
    ++ declaration 3 DW_TAG_subprogram DW_CHILDREN_yes (span ++ (DW_AT_frame_base, DW_FORM_exprloc) ∷ [])
    ++ declaration 4 DW_TAG_formal_parameter DW_CHILDREN_no typed
    ++ declaration 5 DW_TAG_base_type DW_CHILDREN_no
    ((DW_AT_byte_size, DW_FORM_data1) ∷ (DW_AT_encoding, DW_FORM_data1) ∷ (DW_AT_name, DW_FORM_string) ∷ [])
    ++ declaration 6 DW_TAG_variable DW_CHILDREN_no typed
    ++ declaration 7 DW_TAG_lexical_block DW_CHILDREN_yes ((DW_AT_ranges, DW_FORM_sec_offset) ∷ [])
    ++ declaration 8 DW_TAG_subprogram DW_CHILDREN_yes span
    ++ 0 ∷ []

-- that table, with the declaration of a unit that has lines in front
unfoldable pub lined_abbreviations : List ℕ
lined_abbreviations = declaration 9 DW_TAG_compile_unit DW_CHILDREN_yes ((DW_AT_stmt_list, DW_FORM_sec_offset) ∷ []) ++ abbreviations

-- ---- entries of these tables: section 7.5.2

-- a text and the zero byte behind it (DW_FORM_string)
abbrev pub text : List ℕ → List ℕ
text bytes = bytes ++ 0 ∷ []

-- the operations of an expression behind their length (DW_FORM_exprloc)
abbrev pub expression : List ℕ → List ℕ
expression operations = length operations ∷ operations

-- the entry of a unit
abbrev pub compile_unit : List ℕ
compile_unit = 1 ∷ []

-- the entry of a unit whose lines are those of the table at an offset of `.debug_line`
abbrev pub lined_compile_unit : (lines_at : ℕ) → List ℕ
lined_compile_unit lines_at = 9 ∷ word lines_at

-- a function over so many bytes from an address on, which has no children
abbrev pub subprogram : (name : List ℕ) → (low_pc size : ℕ) → List ℕ
subprogram name low_pc size = 2 ∷ (text name ++ word low_pc ++ word size)

-- a function with children and a frame base
abbrev pub framed_subprogram : (name : List ℕ) → (low_pc size : ℕ) → (frame_base : List ℕ) → List ℕ
framed_subprogram name low_pc size frame_base = 3 ∷ (text name ++ word low_pc ++ word size ++ expression frame_base)

-- a parameter, whose type is the entry at an offset of the unit
abbrev pub formal_parameter : (name : List ℕ) → (type_at : ℕ) → (location : List ℕ) → List ℕ
formal_parameter name type_at location = 4 ∷ (text name ++ word type_at ++ expression location)

-- a type of so many bytes
abbrev pub base_type : (byte_size encoding : ℕ) → (name : List ℕ) → List ℕ
base_type byte_size encoding name = 5 ∷ byte_size ∷ encoding ∷ text name

-- a variable, whose type is the entry at an offset of the unit
abbrev pub variable : (name : List ℕ) → (type_at : ℕ) → (location : List ℕ) → List ℕ
variable name type_at location = 6 ∷ (text name ++ word type_at ++ expression location)

-- a block whose addresses are those of the list at an offset of `.debug_ranges`
abbrev pub lexical_block : (ranges_at : ℕ) → List ℕ
lexical_block ranges_at = 7 ∷ word ranges_at

-- a function with children
abbrev pub outer_subprogram : (name : List ℕ) → (low_pc size : ℕ) → List ℕ
outer_subprogram name low_pc size = 8 ∷ (text name ++ word low_pc ++ word size)

-- the end of the children of an entry
abbrev pub end_of_children : List ℕ
end_of_children = 0 ∷ []

-- ---- units: section 7.5.1.1

-- the offset in its unit of the entry behind these, which stand behind the unit's header of 11 bytes
abbrev pub offset_behind : List ℕ → ℕ
offset_behind entries = 11 + length entries

-- a unit of version 4, with the table at 0 of `.debug_abbrev` and addresses of 4 bytes, behind its length
abbrev pub unit : List ℕ → List ℕ
unit entries =
    let behind = half 4 ++ word 0 ++ 4 ∷ entries in
    word (length behind) ++ behind

-- ---- ranges: sections 2.17.3 and 7.24

-- the list of one range, whose base address is 0
abbrev pub range_list : (low high : ℕ) → List ℕ
range_list low high = word low ++ word high ++ word 0 ++ word 0

-- ---- heads of line tables: section 6.2.4

-- how many operands each standard opcode has, from 1 on
abbrev pub standard_opcode_lengths : List ℕ
standard_opcode_lengths =
    0  -- DW_LNS_copy
    ∷ 1  -- DW_LNS_advance_pc
    ∷ 1  -- DW_LNS_advance_line
    ∷ 1  -- DW_LNS_set_file
    ∷ 1  -- DW_LNS_set_column
    ∷ 0  -- DW_LNS_negate_stmt
    ∷ 0  -- DW_LNS_set_basic_block
    ∷ 0  -- DW_LNS_const_add_pc
    ∷ 1  -- DW_LNS_fixed_advance_pc
    ∷ 0  -- DW_LNS_set_prologue_end
    ∷ 0  -- DW_LNS_set_epilogue_begin
    ∷ 1  -- DW_LNS_set_isa
    ∷ []

-- the first special opcode, behind the standard ones
abbrev pub opcode_base : ℕ
opcode_base = length standard_opcode_lengths + 1

-- the least line increment of a special opcode
abbrev pub line_base : ℕ
line_base = 0

-- how many line increments there are, from that one on
abbrev pub line_range : ℕ
line_range = 14

-- what a table with one file says from `minimum_instruction_length` on, up to its program
abbrev pub line_head : (file : List ℕ) → List ℕ
line_head file =
    4  -- minimum_instruction_length
    ∷ 1  -- maximum_operations_per_instruction
    ∷ 1  -- default_is_stmt
    ∷ line_base
    ∷ line_range
    ∷ opcode_base
    ∷ (standard_opcode_lengths
    ++ 0  -- include_directories: their end
    ∷ (text file  -- file_names
    ++ 0  -- the directory of the file: that of the compilation
    ∷ 0  -- its time, which isn't told
    ∷ 0  -- its length, which isn't told
    ∷ 0  -- the end of the files
    ∷ []))

-- ---- line programs: section 6.2.5

pub data LineInstruction : Type 0 where
  -- goes so many lines and instructions further, and makes a row
  special : (line_increment operation_advance : ℕ) → LineInstruction
  -- makes a row
  copy : LineInstruction
  -- goes so many instructions further
  advance_pc : (operation_advance : ℕ) → LineInstruction
  -- goes to an address
  set_address : (address : ℕ) → LineInstruction
  -- makes a row that ends the sequence
  end_sequence : LineInstruction

-- the opcode of a special instruction: section 6.2.5.1
abbrev pub special_opcode : (line_increment operation_advance : ℕ) → ℕ
special_opcode line_increment operation_advance = (line_increment - line_base) + line_range * operation_advance + opcode_base

-- a zero, and an extended opcode with its operands behind their length: section 6.2.5.3
abbrev pub extended : (opcode : ℕ) → (operands : List ℕ) → List ℕ
extended opcode operands = 0 ∷ length (opcode ∷ operands) ∷ opcode ∷ operands

-- how an instruction is spelled
abbrev pub line_instruction : LineInstruction → List ℕ
line_instruction (special line_increment operation_advance) = special_opcode line_increment operation_advance ∷ []
line_instruction copy = DW_LNS_copy ∷ []
line_instruction (advance_pc operation_advance) = DW_LNS_advance_pc ∷ operation_advance ∷ []
line_instruction (set_address address) = extended DW_LNE_set_address (word address)
line_instruction end_sequence = extended DW_LNE_end_sequence []

-- ---- line tables: section 6.2.4

-- a table of version 4 with one file, behind its length
abbrev pub line_table : (file : List ℕ) → (program : List LineInstruction) → List ℕ
line_table file program =
    let head = line_head file in
    let behind = half 4 ++ word (length head) ++ head ++ flat_map line_instruction program in
    word (length behind) ++ behind

-- ---- frames: sections 6.4.1, 6.4.2 and 7.23

pub data FrameInstruction : Type 0 where
  -- goes so many bytes further
  advance_loc : (delta : ℕ) → FrameInstruction
  -- the canonical frame address is from here on so many bytes behind what a register holds
  def_cfa : (register offset : ℕ) → FrameInstruction
  -- ... behind what that register holds
  def_cfa_offset : (offset : ℕ) → FrameInstruction

-- how an instruction is spelled
abbrev pub frame_instruction : FrameInstruction → List ℕ
frame_instruction (advance_loc delta) = (DW_CFA_advance_loc + delta) ∷ []
frame_instruction (def_cfa register offset) = DW_CFA_def_cfa ∷ register ∷ offset ∷ []
frame_instruction (def_cfa_offset offset) = DW_CFA_def_cfa_offset ∷ offset ∷ []

-- a common information entry with these initial instructions, behind its length
abbrev pub common_information_entry : List FrameInstruction → List ℕ
common_information_entry initial_instructions =
    let behind =
    word 0xFFFFFFFF  -- CIE_id
    ++ 1  -- version
    ∷ 0  -- augmentation: the empty text
    ∷ 1  -- code_alignment_factor
    ∷ 0x7C  -- data_alignment_factor: -4 in signed LEB128
    ∷ 1  -- return_address_register
    ∷ flat_map frame_instruction initial_instructions in
    word (length behind) ++ behind

-- the frame description entry, over so many bytes from an address on, of the common information entry at an offset of `.debug_frame`, behind its length
abbrev pub frame_description_entry : (cie_at low_pc size : ℕ) → List FrameInstruction → List ℕ
frame_description_entry cie_at low_pc size instructions =
    let behind = word cie_at ++ word low_pc ++ word size ++ flat_map frame_instruction instructions in
    word (length behind) ++ behind
