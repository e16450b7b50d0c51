-- What holds of each answer of the kernel.
use Rattle.std.proofs.Common.{◌≡◌, ℕ, ◌+◌, ◌^◌, ◌<◌, Bool, true, false, if◌then◌else◌, List, [], ◌∷◌, length, take, Option, Some, None, is_none, nat_eq, nat_le, ◌||◌, ◌&&◌, refl, ap, arith, length-take}
use Rattle.std.specs.List.{AllByRecursion}
use Rattle.std.specs.Option.{option_or}
use Rattle.om_log.specs.Chunk.{Chunk}
use Rattle.om_log.specs.Grammar.{FitsChunk}
use Rattle.om_log.specs.declared.start.Start.{Start}
use Rattle.om_mem.specs.Contents.{are_mapped, outside}
use Rattle.om_mem.specs.declared.region.Region.{Region}
use Rattle.om_run.specs.Departure.{is_exit}
use Rattle.om_record.specs.Kernel.{Kernel, Answer, answer_brk, answer_read, answer_to, answer_write, answers, bad_address, bad_descriptor, no_such_call, read_count, reads, takes, write_to}
use Rattle.om_step.specs.State.{State, register}
use Rattle.om_step.specs.Step.{outside_of}

-- ---- cases

pick : (P : Answer → Type 0) (b : Bool) (x y : Answer) → P x → P y → P (if b then x else y)
pick P true x y hx hy = hx
pick P false x y hx hy = hy

pick_none : (P : Answer → Type 0) (o : Option ℕ) (x y : Answer) → (o ≡ None → P x) → P y → P (if is_none o then x else y)
pick_none P None x y hx hy = hx refl
pick_none P (Some a) x y hx hy = hy

-- what holds where input is taken and where nothing is written holds of each answer
pub by_answer : (P : Answer → Type 0) (start : Start) (kernel : Kernel) (s : State)
    → (outside s.memory.regions (register s 11) (read_count kernel s) ≡ None → P (takes kernel (register s 11) (read_count kernel s)))
    → ((k : Kernel) (value : ℕ) → P (answers k value)) → P (answer_to start kernel s)
unfolding answer_to
by_answer P start kernel s taken plain =
    let number = register s 17 in
    let read : P (answer_read kernel s) =
    pick P (nat_eq (register s 10) 0) (reads kernel s (read_count kernel s)) (answers kernel bad_descriptor)
    (pick_none P (outside s.memory.regions (register s 11) (read_count kernel s)) (takes kernel (register s 11) (read_count kernel s)) (answers kernel bad_address) taken (plain kernel bad_address)) (plain kernel bad_descriptor) in
    let write : P (answer_write kernel s) =
    pick P (nat_eq (register s 10) 1 || nat_eq (register s 10) 2)
    (answers kernel (if are_mapped s.memory.regions (register s 11) (register s 12) then register s 12 else bad_address)) (answers kernel bad_descriptor) (plain kernel _) (plain kernel bad_descriptor) in
    let brk : P (answer_brk start kernel s) =
    pick P (nat_le start.heap_low (register s 10) && nat_le (register s 10) (start.heap_low + start.heap_size))
    (answers (record kernel { program_break = register s 10 }) (register s 10)) (answers kernel kernel.program_break) (plain _ _) (plain _ _) in
    let rest : P (if is_exit number then answers kernel 0 else answers kernel no_such_call) =
    pick P (is_exit number) (answers kernel 0) (answers kernel no_such_call) (plain _ _) (plain _ _) in
    pick P (nat_eq number 63) (answer_read kernel s) _ read
    (pick P (nat_eq number 64) (answer_write kernel s) _ write (pick P (nat_eq number 214) (answer_brk start kernel s) _ brk rest))

-- as many bytes are taken as are counted
pub taken_count : (kernel : Kernel) (s : State) → length (take (read_count kernel s) kernel.left) ≡ read_count kernel s
taken_count kernel s = simp length-take (omega arith)

-- ---- each byte that is written may be written

write_inside : (regions : List Region) (address : ℕ) (bytes : List ℕ) → outside regions address (length bytes) ≡ None
    → outside_of regions (write_to address bytes) ≡ None
unfolding outside_of
write_inside regions address [] inside = refl
write_inside regions address (b ∷ bytes) inside = ap (λ (o : Option ℕ). option_or o None) inside

none_inside : (regions : List Region) → outside_of regions [] ≡ None
unfolding outside_of
none_inside regions = refl

pub writes_inside : (start : Start) (kernel : Kernel) (s : State) → outside_of s.memory.regions (answer_to start kernel s).writes ≡ None
writes_inside start kernel s =
    by_answer (λ (a : Answer). outside_of s.memory.regions a.writes ≡ None) start kernel s
    (λ inside. write_inside s.memory.regions (register s 11) (take (read_count kernel s) kernel.left) (rw (taken_count kernel s) inside))
    (λ k value. none_inside s.memory.regions)

-- ---- the writes fit a log

pub record AreFew (writes : List Chunk) : Type 0 where
  pub few : length writes < 2 ^ 32
  pub each : AllByRecursion FitsChunk writes

write_few : (address : ℕ) (bytes : List ℕ) → address < 2 ^ 32 → length bytes < 2 ^ 32 → AreFew (write_to address bytes)
write_few address [] small short = record { few = omega arith; each = tt }
write_few address (b ∷ bytes) small short = record { few = omega arith; each = ((small, short), tt) }

pub writes_few : (start : Start) (kernel : Kernel) (s : State) → register s 11 < 2 ^ 32 → AreFew (answer_to start kernel s).writes
writes_few start kernel s small =
    by_answer (λ (a : Answer). AreFew a.writes) start kernel s
    (λ inside. write_few (register s 11) (take (read_count kernel s) kernel.left) small (rw (taken_count kernel s) (omega arith)))
    (λ k value. record { few = omega arith; each = tt })
