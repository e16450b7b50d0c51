-- What a step does at a state, and where the machine stops.
use Rattle.std.specs.Prelude.{◌≢◌, ℕ, ◌+◌, ◌*◌, ◌<◌, ◌%◌, ◌^◌, Bool, nat_eq, if◌then◌else◌, List, [], ◌∷◌, length, Option, Some, None, Result, Ok, Err}
use Rattle.std.specs.List.{AllByRecursion}
use Rattle.std.specs.Option.{option_or}
use Rattle.om_isa.specs.Table.{decoded, extended}
use Rattle.om_isa.specs.declared.instr.Instr.{Instr}
use Rattle.om_log.specs.Chunk.{Chunk}
use Rattle.om_mem.specs.Contents.{Contents, after_write, fetched, loaded, low_bytes, outside}
use Rattle.om_mem.specs.declared.region.Region.{Region}
use Rattle.om_mem.specs.declared.writing.WriteOutside.{WriteOutside}
use Rattle.om_step.specs.Actions.{action_of}
use Rattle.om_step.specs.State.{State, register, with_register}
use Rattle.om_step.specs.declared.action.Action.{Action}
use Rattle.om_step.specs.declared.action.Action.TheVariants.{Go, Load, Store, Ask, Halt}
use Rattle.om_step.specs.declared.cause.Cause.{Cause}
use Rattle.om_step.specs.declared.cause.Cause.TheVariants.{Fetch, Illegal, Misaligned, Load as LoadStops, Store as StoreStops, Break}
use Rattle.om_step.specs.declared.outcome.Outcome.{Outcome}
use Rattle.om_step.specs.declared.outcome.Outcome.TheVariants.{Next, Call, Stop}
use Rattle.om_step.specs.declared.outcome.Touched.{Touched}
use Rattle.om_step.specs.declared.outcome.Touched.TheVariants.{Nothing, Reg, Bytes, Call as TouchedCall}

-- the action of an instruction at a state
abbrev pub action_by : State → Instr → Action
action_by s i = action_of i.op i.rd (register s i.rs1) (register s i.rs2) i.imm s.pc

-- the action of a word that was fetched; or the stop where none could be, or where no row of the instruction table has it
abbrev pub action_by_word : State → Option ℕ → Action
action_by_word s None = Halt Fetch
action_by_word s (Some word) = action_or_illegal s (decoded word)
  where
    action_or_illegal : State → Option Instr → Action
    action_or_illegal s None = Halt Illegal
    action_or_illegal s (Some i) = action_by s i

-- the action that comes next at a state: the machine stops where the pc isn't a multiple of 4, then where a byte at it can't be fetched, then where the word is no instruction
unfoldable pub action_at : State → Action
action_at s = if nat_eq (s.pc % 4) 0 then action_by_word s (fetched s.memory s.pc) else Halt Misaligned

-- what a write to a register touches; one to x0 is dropped
abbrev pub touched_by : ℕ → Touched
touched_by number = if nat_eq number 0 then Nothing else Reg number

-- a load touches its destination, if its bytes are there
abbrev pub load_outcome : ℕ → Option ℕ → Outcome
load_outcome rd None = Stop LoadStops
load_outcome rd (Some value) = Next (touched_by rd)

-- a store touches its bytes, if each of them may be written
abbrev pub store_outcome : (address count : ℕ) → Option ℕ → Outcome
store_outcome address count None = Next (Bytes address count)
store_outcome address count (Some first) = Stop StoreStops

-- the outcome of an action
abbrev pub outcome_by : State → Action → Outcome
outcome_by s (Go rd value pc) = Next (touched_by rd)
outcome_by s (Load rd address count extends) = load_outcome rd (loaded s.memory address count)
outcome_by s (Store address count value) = store_outcome address count (outside s.memory.regions address count)
outcome_by s Ask = Call
outcome_by s (Halt cause) = Stop cause

-- the address of the next instruction
abbrev pub next_pc : State → ℕ
next_pc s = (s.pc + 4) % 2 ^ 32

-- what a load writes: its bytes, the sign bit extended or not
abbrev pub extended_if : Bool → (count value : ℕ) → ℕ
extended_if extends count value = if extends then extended (8 * count) (value % 2 ^ (8 * count)) else value

-- the state after a load, if its bytes are there
abbrev pub after_load : State → (rd count : ℕ) → Bool → Option ℕ → State
after_load s rd count extends None = s
after_load s rd count extends (Some value) =
    record s { pc = next_pc s; registers = with_register s.registers rd (extended_if extends count value) }

-- the state after a store, if each of its bytes may be written
abbrev pub after_store : State → (address count value : ℕ) → Option ℕ → State
after_store s address count value None =
    record s { pc = next_pc s; memory = after_write s.memory address (low_bytes count value) }
after_store s address count value (Some first) = s

-- the state that an action makes; at a call and at a stop nothing changes
abbrev pub after : State → Action → State
after s (Go rd value pc) = record s { pc = pc; registers = with_register s.registers rd value }
after s (Load rd address count extends) = after_load s rd count extends (loaded s.memory address count)
after s (Store address count value) = after_store s address count value (outside s.memory.regions address count)
after s Ask = s
after s (Halt cause) = s

-- what happens at a state
unfoldable pub outcome : State → Outcome
outcome s = outcome_by s (action_at s)

-- the state after a step
unfoldable pub next : State → State
next s = after s (action_at s)

-- the first address, in the order of some writes and of their bytes, that may not be written
unfoldable pub outside_of : List Region → List Chunk → Option ℕ
outside_of regions [] = None
outside_of regions (chunk ∷ chunks) =
    option_or (outside regions chunk.addr (length chunk.bytes)) (outside_of regions chunks)

-- memory after some writes, one after another
unfoldable pub after_writes : Contents → List Chunk → Contents
after_writes memory [] = memory
after_writes memory (chunk ∷ chunks) = after_writes (after_write memory chunk.addr chunk.bytes) chunks

-- the state after a call that was answered with a value and some writes: the value stands in a0, and the pc goes on
abbrev pub answered : State → ℕ → List Chunk → State
answered s value writes = record {
  pc = next_pc s;
  registers = with_register s.registers 10 value;
  memory = after_writes s.memory writes;
}

-- what answering gives: what the call wrote, or the first address that may not be written
abbrev pub answer_result : List Chunk → Option ℕ → Result Touched WriteOutside
answer_result writes None = Ok (TouchedCall writes)
answer_result writes (Some address) = Err (record { addr = address })

-- the state that an answer leaves: at a refusal nothing changes
abbrev pub after_answer : State → ℕ → List Chunk → Option ℕ → State
after_answer s value writes None = answered s value writes
after_answer s value writes (Some address) = s

-- how many steps an outcome made
abbrev pub steps_of : Outcome → ℕ
steps_of (Next touched) = 1
steps_of Call = 0
steps_of (Stop cause) = 0

-- the number of a stop, as a log tells it
abbrev pub code_of : Cause → ℕ
code_of Fetch = 1
code_of Illegal = 2
code_of Misaligned = 3
code_of LoadStops = 4
code_of StoreStops = 5
code_of Break = 6

-- ---- what a step leaves alone

-- an outcome doesn't tell that a register was written
abbrev pub SparesRegister : Outcome → ℕ → Type 0
SparesRegister (Next Nothing) r = Unit {0}
SparesRegister (Next (Reg number)) r = r ≢ number
SparesRegister (Next (Bytes address count)) r = Unit {0}
SparesRegister (Next (TouchedCall writes)) r = r ≢ 10
SparesRegister Call r = Unit {0}
SparesRegister (Stop cause) r = Unit {0}

-- an address is none of so many from one on
abbrev pub IsElsewhere : (address count a : ℕ) → Type 0
IsElsewhere address count a = (k : ℕ) → k < count → a ≢ (address + k) % 2 ^ 32

-- an address is none of those of some writes
abbrev pub AreElsewhere : List Chunk → (a : ℕ) → Type 0
AreElsewhere writes a = AllByRecursion (λ (chunk : Chunk). IsElsewhere chunk.addr (length chunk.bytes) a) writes

-- an outcome doesn't tell that the byte at an address was written
abbrev pub SparesByte : Outcome → ℕ → Type 0
SparesByte (Next Nothing) a = Unit {0}
SparesByte (Next (Reg number)) a = Unit {0}
SparesByte (Next (Bytes address count)) a = IsElsewhere address count a
SparesByte (Next (TouchedCall writes)) a = AreElsewhere writes a
SparesByte Call a = Unit {0}
SparesByte (Stop cause) a = Unit {0}
