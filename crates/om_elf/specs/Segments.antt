-- Segments: System V gABI, chapter 5, "Program Header" and "Segment Contents".
use Rattle.std.specs.Prelude.{ℕ, ◌+◌, ◌%◌, ◌^◌, Bool, ◌&&◌, not, nat_eq, nat_le, if◌then◌else◌, List, length, map, filter, sum_by, take, drop}
use Rattle.om_base.specs.declared.span.Span.{Span}
use Rattle.om_elf.specs.Image.{Image}
use Rattle.om_elf.specs.declared.program_header.ProgramHeader.{ProgramHeader}

-- a program header is of type PT_LOAD
abbrev pub is_load : ProgramHeader → Bool
is_load p = nat_eq p.p_type 1

-- a loadable segment's bytes lie in the file and fill at most its memory, which ends in the address space
abbrev pub has_place : List ℕ → ProgramHeader → Bool
has_place file p =
    nat_le (p.p_offset + p.p_filesz) (length file) && nat_le p.p_filesz p.p_memsz && nat_le (p.p_vaddr + p.p_memsz) (2 ^ 32)

-- a program header is of type PT_LOAD, and its segment has no place
abbrev pub is_misplaced : List ℕ → ProgramHeader → Bool
is_misplaced file p = is_load p && not (has_place file p)

-- the addresses of a loadable segment's memory; none for any other program header
abbrev pub span_of : ProgramHeader → Span
span_of p = if is_load p then record { lo = p.p_vaddr; hi = p.p_vaddr + p.p_memsz } else record { lo = 0; hi = 0 }

-- those of each program header, in their order
abbrev pub spans_of : List ProgramHeader → List Span
spans_of programs = map span_of programs

-- how much memory the loadable segments take
abbrev pub memory_of : List ProgramHeader → ℕ
memory_of programs = sum_by (λ p. p.p_memsz) (filter is_load programs)

-- what a program header puts into memory
abbrev pub image_of : List ℕ → ProgramHeader → Image
image_of file p = record {
  vaddr = p.p_vaddr;
  memsz = p.p_memsz;
  rights = p.p_flags % 8;
  bytes = take p.p_filesz (drop p.p_offset file);
}

-- what the program headers of type PT_LOAD put into memory, in their order
abbrev pub images_of : List ℕ → List ProgramHeader → List Image
images_of file programs = map (image_of file) (filter is_load programs)
