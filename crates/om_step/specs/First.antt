-- The first state of a run.
use Rattle.std.specs.Prelude.{◌+◌, ◌-◌, false, nat_lt, List, [], ◌∷◌, ◌++◌, length, map, filter, replicate, slice_set}
use Rattle.om_mem.specs.Contents.{Filled, contents_of, zeros}
use Rattle.om_mem.specs.Pages.{page_count}
use Rattle.om_mem.specs.Rights.{pf_r, pf_w}
use Rattle.om_mem.specs.declared.region.Region.{Region}
use Rattle.om_step.specs.State.{State, Standing}
use Rattle.om_log.specs.declared.start.Start.{Start}
use Rattle.om_elf.specs.Image.{Image}
use Rattle.om_elf.specs.declared.elf.Elf.{Elf}

-- stack and heap can be written and read, and hold zeros at first
abbrev pub stack_of : Start → Filled
stack_of start = zeros (record { low = start.stack_low; size = start.stack_size; rights = pf_r + pf_w })

abbrev pub heap_of : Start → Filled
heap_of start = zeros (record { low = start.heap_low; size = start.heap_size; rights = pf_r + pf_w })

-- a segment in memory: the file's bytes, then zeros
abbrev pub segment_of : Image → Filled
segment_of image = record {
  region = record { low = image.vaddr; size = image.memsz; rights = image.rights };
  bytes = image.bytes ++ replicate (image.memsz - length image.bytes) 0;
}

-- the regions of a run with their first bytes: the segments that aren't empty, the stack, the heap
unfoldable pub filled_of : List Image → Start → List Filled
filled_of images start =
    map segment_of (filter (λ image. nat_lt 0 image.memsz) images) ++ stack_of start ∷ heap_of start ∷ []

-- the regions of a run, in their order
abbrev pub regions_of : List Image → Start → List Region
regions_of images start = map (λ f. f.region) (filled_of images start)

-- the state in which a run begins: at the entry, with the stack pointer sixteen bytes below the stack's end
abbrev pub first_state : Elf → Start → State
first_state elf start = record {
  pc = elf.entry;
  registers = slice_set (replicate 32 0) 2 (start.stack_low + start.stack_size - 16);
  memory = contents_of (filled_of elf.segments start);
}

-- the machine in that state, with no page that counts as written
abbrev pub first_standing : Elf → Start → Standing
first_standing elf start = record {
  state = first_state elf start;
  dirty = replicate (page_count (regions_of elf.segments start)) false;
}
