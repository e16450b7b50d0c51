-- A state of the machine.
use Rattle.std.specs.Prelude.{ℕ, ◌%◌, ◌^◌, Bool, List, slice_index, slice_set, sum_by, nat_eq, if◌then◌else◌, refl}
use Rattle.std.specs.Coded.{Coded, code_by, coded×, coded_ℕ, coded_bool, coded_list}
use Rattle.om_mem.specs.Contents.{Contents, contents_code}
use Rattle.om_mem.specs.Pages.{Held}
use Rattle.om_step.specs.declared.register_file.Core.{Core}

-- the pc, the registers x0 to x31, and memory
pub record State : Type 0 where
  pub pc : ℕ
  pub registers : List ℕ
  pub memory : Contents

abbrev pub state_code : Coded State
state_code =
    code_by (ℕ × (List ℕ × Contents)) (coded× coded_ℕ (coded× (coded_list coded_ℕ) contents_code)) (λ s. (s.pc, (s.registers, s.memory))) (λ p. record { pc = p.0; registers = p.1.0; memory = p.1.1 }) (λ _. refl)

-- the content of a register
abbrev pub register : State → ℕ → ℕ
register s number = slice_index s.registers number

-- a write to a register; one to x0 is dropped
abbrev pub with_register : List ℕ → ℕ → ℕ → List ℕ
with_register registers number value = if nat_eq number 0 then registers else slice_set registers number value

-- the pc and the registers alone
abbrev pub core_of : State → Core
core_of s = record { pc = s.pc; regs = s.registers }

-- the sum of all registers
abbrev pub sum_of : State → ℕ
sum_of s = sum_by (λ x. x) s.registers % 2 ^ 32

-- a machine in a state, with the pages that it wrote since the last clearing
pub record Standing : Type 0 where
  pub state : State
  pub dirty : List Bool

abbrev pub standing_code : Coded Standing
standing_code =
    code_by (State × List Bool) (coded× state_code (coded_list coded_bool)) (λ s. (s.state, s.dirty)) (λ p. record { state = p.0; dirty = p.1 }) (λ _. refl)

-- the machine's memory with its pages
abbrev pub held_of : Standing → Held
held_of standing = record { contents = standing.state.memory; dirty = standing.dirty }
