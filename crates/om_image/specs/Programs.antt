-- The worked programs: their instructions, of the RISC-V unprivileged ISA, and their debugging information.
use Rattle.std.specs.Prelude.{ℕ, List, [], ◌∷◌, ◌++◌, codes, replicate}
use Rattle.om_image.specs.Dwarf.{abbreviations, base_type, common_information_entry, compile_unit, end_of_children, formal_parameter, frame_description_entry, framed_subprogram, lexical_block, line_table, lined_abbreviations, lined_compile_unit, offset_behind, outer_subprogram, range_list, subprogram, unit, variable}
use Rattle.om_image.specs.Dwarf.FrameInstruction.{advance_loc, def_cfa, def_cfa_offset}
use Rattle.om_image.specs.Dwarf.LineInstruction.{advance_pc, copy, end_sequence, set_address, special}
use Rattle.om_image.specs.DwarfNumbers.{DW_ATE_signed, DW_OP_addr, DW_OP_call_frame_cfa, DW_OP_fbreg, DW_OP_reg10, DW_OP_reg17}
use Rattle.om_image.specs.ElfFile.{SegmentView, SectionView, elf_file, program_bits, word}
use Rattle.om_image.specs.declared.program.Program.{Program}
use Rattle.om_image.specs.declared.programs.Which.{Which}
use Rattle.om_image.specs.declared.programs.Which.TheVariants.{P, G, M, B}
use Rattle.om_image.specs.declared.segment.Rights.TheVariants.{ReadExecute, ReadWrite}

-- ---- instructions

abbrev pub countdown_code : List ℕ
countdown_code =
    0x00300513  -- 65536  addi a0, x0, 3
    ∷ 0xFFF50513  -- 65540  addi a0, a0, -1
    ∷ 0xFE051EE3  -- 65544  bne  a0, x0, 65540
    ∷ 0x05D00893  -- 65548  addi a7, x0, 93
    ∷ 0x00000073  -- 65552  ecall
    ∷ []

abbrev pub read_code : List ℕ
read_code =
    0x00000513  -- 65536  addi a0, x0, 0
    ∷ 0x000205B7  -- 65540  lui  a1, 32
    ∷ 0x00400613  -- 65544  addi a2, x0, 4
    ∷ 0x03F00893  -- 65548  addi a7, x0, 63
    ∷ 0x00000073  -- 65552  ecall
    ∷ 0x05D00893  -- 65556  addi a7, x0, 93
    ∷ 0x00000073  -- 65560  ecall
    ∷ []

abbrev pub division_code : List ℕ
division_code =
    0x80000537  -- 65536  lui  a0, 524288
    ∷ 0xFFF00593  -- 65540  addi a1, x0, -1
    ∷ 0x02B54633  -- 65544  div  a2, a0, a1
    ∷ 0x020576B3  -- 65548  remu a3, a0, x0
    ∷ 0x05D00893  -- 65552  addi a7, x0, 93
    ∷ 0x00000073  -- 65556  ecall
    ∷ []

-- a function that calls itself with one less in a0, down to 0; it keeps a0 at 20 below the stack pointer of its caller
abbrev pub down_code : List ℕ
down_code =
    0xFE010113  --   0  addi sp, sp, -32
    ∷ 0x00112E23  --   4  sw   ra, 28(sp)
    ∷ 0x00812C23  --   8  sw   s0, 24(sp)
    ∷ 0x02010413  --  12  addi s0, sp, 32
    ∷ 0xFEA42623  --  16  sw   a0, -20(s0)
    ∷ 0xFEC42783  --  20  lw   a5, -20(s0)
    ∷ 0x00078A63  --  24  beq  a5, x0, 44
    ∷ 0xFEC42783  --  28  lw   a5, -20(s0)
    ∷ 0xFFF78793  --  32  addi a5, a5, -1
    ∷ 0x00078513  --  36  addi a0, a5, 0
    ∷ 0xFD9FF0EF  --  40  jal  ra, 0
    ∷ 0x01C12083  --  44  lw   ra, 28(sp)
    ∷ 0x01812403  --  48  lw   s0, 24(sp)
    ∷ 0x02010113  --  52  addi sp, sp, 32
    ∷ 0x00008067  --  56  jalr x0, 0(ra)
    ∷ []

-- calls `down`, which stands behind it, with 3
abbrev pub small_main_code : List ℕ
small_main_code =
    0x00300513  -- 65536  addi a0, x0, 3
    ∷ 0x010000EF  -- 65540  jal  ra, 65556
    ∷ 0x05D00893  -- 65544  addi a7, x0, 93
    ∷ 0x00000073  -- 65548  ecall
    ∷ 0x00100073  -- 65552  ebreak
    ∷ []

-- ---- debugging information

abbrev pub int : List ℕ
int = base_type 4 DW_ATE_signed (codes "int")

-- the variable `counter` at 0x20000
unfoldable pub read_info : List ℕ
read_info = unit (
    compile_unit
    ++ int
    ++ variable (codes "counter") (offset_behind compile_unit) (DW_OP_addr ∷ word 0x20000)
    ++ end_of_children)

-- the function `f`, with an `i` in a0, and in it a block with an `i` in a7
unfoldable pub blocks_info : List ℕ
blocks_info = unit (
    compile_unit
    ++ int
    ++ outer_subprogram (codes "f") 65_536 20
    ++ variable (codes "i") (offset_behind compile_unit) (DW_OP_reg10 ∷ [])
    ++ lexical_block 0
    ++ variable (codes "i") (offset_behind compile_unit) (DW_OP_reg17 ∷ [])
    ++ end_of_children
    ++ end_of_children
    ++ end_of_children)

-- the addresses of that block
unfoldable pub blocks_ranges : List ℕ
blocks_ranges = range_list 65_544 65_548

-- what stands in front of the type, which is at an offset of the unit: the functions `main` and `down`, with the parameter `n` of the latter at -20 of its frame base, which is 0x6C in signed LEB128
abbrev pub small_functions : (type_at : ℕ) → List ℕ
small_functions type_at =
    lined_compile_unit 0
    ++ subprogram (codes "main") 65_536 20
    ++ framed_subprogram (codes "down") 65_556 60 (DW_OP_call_frame_cfa ∷ [])
    ++ formal_parameter (codes "n") type_at (DW_OP_fbreg ∷ 0x6C ∷ [])
    ++ end_of_children

-- these, and behind them the type
unfoldable pub small_info : List ℕ
small_info = unit (small_functions (offset_behind (small_functions 0)) ++ int ++ end_of_children)

-- the lines of the 20 words: line 1 for the first one, at 65536, and for each other one the next line; they end at 65616
unfoldable pub small_lines : List ℕ
small_lines = line_table (codes "specimen.c") (
    set_address 65_536
    ∷ copy
    ∷ (replicate 19 (special 1 1)
    ++ advance_pc 1
    ∷ end_sequence
    ∷ []))

-- the frames of `down`: the canonical frame address is the stack pointer (register 2) as it was when `down` was called. 32 are taken off it by the first instruction and added again by the last but one; in between the frame pointer (register 8) holds it, from the fourth instruction on until it is loaded again
unfoldable pub small_frames : List ℕ
small_frames =
    common_information_entry (def_cfa 2 0 ∷ [])
    ++ frame_description_entry 0 65_556 60
    (advance_loc 4
    ∷ def_cfa_offset 32
    ∷ advance_loc 12
    ∷ def_cfa 8 0
    ∷ advance_loc 36
    ∷ def_cfa 2 32
    ∷ advance_loc 4
    ∷ def_cfa_offset 0
    ∷ [])

-- ---- programs

-- the segment of some code
abbrev pub code_at : ℕ → List ℕ → SegmentView
code_at address words = record { address = address; rights = ReadExecute; words = words }

-- the segment of some variables
abbrev pub variables_at : ℕ → List ℕ → SegmentView
variables_at address words = record { address = address; rights = ReadWrite; words = words }

-- the sections of a debugging information, with the table of its abbreviations
abbrev pub debug_sections : (table info : List ℕ) → List SectionView
debug_sections table info = program_bits (codes ".debug_abbrev") table ∷ program_bits (codes ".debug_info") info ∷ []

-- a program of these segments and sections, which begins at 65536
abbrev pub program_of : List SegmentView → List SectionView → (input : List ℕ) → (truth : List (ℕ × ℕ)) → Program
program_of segments sections input truth = record { elf = elf_file 65_536 segments sections; input = input; truth = truth }

abbrev pub worked_program : Which → Program
worked_program P = program_of (code_at 65_536 countdown_code ∷ []) [] [] []
worked_program G =
    program_of (code_at 65_536 read_code ∷ variables_at 0x20000 (0 ∷ []) ∷ []) (debug_sections abbreviations read_info) (7 ∷ 0 ∷ 0 ∷ 0 ∷ []) []
worked_program M = program_of (code_at 65_536 division_code ∷ []) [] [] []
worked_program B =
    program_of (code_at 65_536 countdown_code ∷ [])
    (debug_sections abbreviations blocks_info ++ program_bits (codes ".debug_ranges") blocks_ranges ∷ []) [] []

-- for each value of `n`, the number of states of the run that stand in `down` with it: `n` is kept at 20 below the stack pointer with which the call began, where 0 stands before
abbrev pub small_truth : List (ℕ × ℕ)
small_truth = (0, 26) ∷ (1, 10) ∷ (2, 10) ∷ (3, 10) ∷ []

abbrev pub small_program : Program
small_program =
    program_of (code_at 65_536 (small_main_code ++ down_code) ∷ [])
    (debug_sections lined_abbreviations small_info ++ program_bits (codes ".debug_line") small_lines ∷ program_bits (codes ".debug_frame") small_frames ∷ []) [] small_truth
