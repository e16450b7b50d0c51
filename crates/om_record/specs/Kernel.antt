-- What the recorder's small kernel answers to a call. The numbers of calls and of errors are those of Linux on RISC-V.
use Rattle.std.specs.Prelude.{ℕ, ◌+◌, ◌||◌, ◌&&◌, nat_eq, nat_le, min, is_none, if◌then◌else◌, List, [], ◌∷◌, length, take, drop}
use Rattle.om_log.specs.Chunk.{Chunk}
use Rattle.om_log.specs.declared.start.Start.{Start}
use Rattle.om_mem.specs.Contents.{are_mapped, outside}
use Rattle.om_run.specs.Departure.{is_exit}
use Rattle.om_step.specs.State.{State, register}

-- the input that wasn't taken yet, and the program break
pub record Kernel : Type 0 where
  pub left : List ℕ
  pub program_break : ℕ

-- an answer: the result, the writes, and the kernel afterwards
pub record Answer : Type 0 where
  pub result : ℕ
  pub writes : List Chunk
  pub kernel : Kernel

-- the errors EBADF, EFAULT and ENOSYS, as the 32 bits of -9, -14 and -38
abbrev pub bad_descriptor : ℕ
bad_descriptor = 4_294_967_287

abbrev pub bad_address : ℕ
bad_address = 4_294_967_282

abbrev pub no_such_call : ℕ
no_such_call = 4_294_967_258

-- an answer with this result alone
abbrev pub answers : Kernel → ℕ → Answer
answers kernel result = record { result = result; writes = []; kernel = kernel }

-- the write of some bytes to an address, if there are any
abbrev pub write_to : ℕ → List ℕ → List Chunk
write_to address [] = []
write_to address (b ∷ bytes) = record { addr = address; bytes = b ∷ bytes } ∷ []

-- ---- read: descriptor 0 is the input

-- how many bytes are read: as many as are asked for, as are left, and 65,536 at most
abbrev pub read_count : Kernel → State → ℕ
read_count kernel s = min (register s 12) (min (length kernel.left) 65_536)

-- so many bytes of the input are taken, and go to an address
abbrev pub takes : Kernel → (address count : ℕ) → Answer
takes kernel address count = record {
  result = count;
  writes = write_to address (take count kernel.left);
  kernel = record kernel { left = drop count kernel.left };
}

-- the bytes are taken where all of them may be written, and none is taken elsewhere
abbrev pub reads : Kernel → State → ℕ → Answer
reads kernel s count =
    if is_none (outside s.memory.regions (register s 11) count)
    then takes kernel (register s 11) count
    else answers kernel bad_address

abbrev pub answer_read : Kernel → State → Answer
answer_read kernel s =
    if nat_eq (register s 10) 0 then reads kernel s (read_count kernel s) else answers kernel bad_descriptor

-- ---- write: descriptors 1 and 2 take all bytes, where a region holds each of them

abbrev pub answer_write : Kernel → State → Answer
answer_write kernel s =
    if nat_eq (register s 10) 1 || nat_eq (register s 10) 2
    then answers kernel (if are_mapped s.memory.regions (register s 11) (register s 12) then register s 12 else bad_address)
    else answers kernel bad_descriptor

-- ---- brk: the break moves within the heap

abbrev pub answer_brk : Start → Kernel → State → Answer
answer_brk start kernel s =
    if nat_le start.heap_low (register s 10) && nat_le (register s 10) (start.heap_low + start.heap_size)
    then answers (record kernel { program_break = register s 10 }) (register s 10)
    else answers kernel kernel.program_break

-- ---- all calls

-- the answer to the call at which a state stands: read, write, brk, exit, exit_group; there is no other call
unfoldable pub answer_to : Start → Kernel → State → Answer
answer_to start kernel s =
    let number = register s 17 in
    if nat_eq number 63 then answer_read kernel s
    else if nat_eq number 64 then answer_write kernel s
    else if nat_eq number 214 then answer_brk start kernel s
    else if is_exit number then answers kernel 0
    else answers kernel no_such_call
