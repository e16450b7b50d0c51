-- The number that a variable holds.
use Rattle.std.specs.Prelude.{ℕ, suc, ℤ, pos, negsuc, ◌-ℤ◌, ◌+◌, ◌-◌, ◌*◌, ◌%◌, ◌^◌, ◌&&◌, nat_eq, nat_lt, Bool, if◌then◌else◌, Option, Some, None}
use Rattle.std.specs.List.{list_any}
use Rattle.std.specs.Option.{option_and_then, option_map}
use Rattle.om_mem.specs.Contents.{Contents, loaded}
use Rattle.om_eval.specs.declared.value.Owned.{Owned}
use Rattle.om_eval.specs.declared.value.Owned.TheVariants.{Int, Null}
use Rattle.om_loc.specs.declared.place.Place.{Place}
use Rattle.om_loc.specs.declared.place.Place.TheVariants as p
use Rattle.om_names.specs.Types.{sizes}
use Rattle.om_names.specs.declared.held.Held.{Held}
use Rattle.om_names.specs.declared.kind.Kind.{Kind}
use Rattle.om_step.specs.State.{State, register}

-- a number read in two's complement, where so many numbers aren't negative
abbrev pub twos_complement : (half number : ℕ) → ℤ
twos_complement half number = if nat_lt number half then pos number else pos number -ℤ pos (2 * half)

-- the number that bytes of a kind stand for, of which a number without a sign is given
abbrev pub with_sign : Kind → ℕ → ℤ
with_sign kind number = if kind.signed then twos_complement (2 ^ (8 * kind.size - 1)) number else pos number

-- numbers of so many bytes are read
abbrev pub is_read : ℕ → Bool
is_read size = list_any (nat_eq size) sizes

-- the number of so many bytes at an address, if numbers of that size are read and a region holds each byte
unfoldable pub read_at : Contents → (address size : ℕ) → Option ℕ
read_at memory address size = if is_read size then loaded memory address size else None

-- the number of a kind at an address, if there is one
unfoldable pub number_at : Contents → ℕ → Kind → Option ℤ
number_at memory address kind = option_map (with_sign kind) (read_at memory address kind.size)

-- ---- places: DWARF 4, sections 2.6.1.1, 3.3.5 and 6.4

-- an address, so many bytes further, modulo 2^32
abbrev pub moved : ℕ → ℤ → ℕ
moved address (pos n) = (address + n) % 2 ^ 32
moved address (negsuc n) = (address + (2 ^ 32 - suc n % 2 ^ 32)) % 2 ^ 32

-- the content of a register that there is
abbrev pub content : State → ℕ → Option ℕ
content state number = if nat_lt number 32 then Some (register state number) else None

-- the address that a register and an offset give
abbrev pub based : State → ℕ → ℤ → Option ℕ
based state number offset = option_map (λ address. moved address offset) (content state number)

-- ... by the rule for the canonical frame address, if there is one
abbrev pub frame_address : State → Option (ℕ × ℤ) → Option ℕ
frame_address state rule = option_and_then (λ it. based state it.0 it.1) rule

-- the frame base that a place says
abbrev pub base_of : State → Option (ℕ × ℤ) → Place → Option ℕ
base_of state rule p.Cfa = frame_address state rule
base_of state rule (p.Reg number) = content state number
base_of state rule (p.RegPlus number offset) = based state number offset
base_of state rule place = None

-- the address that a place says, where another one says the frame base
abbrev pub address_by : State → Option (ℕ × ℤ) → Place → Place → Option ℕ
address_by state rule base (p.Fixed address) = Some address
address_by state rule base (p.RegPlus number offset) = based state number offset
address_by state rule base (p.Frame offset) = option_map (λ address. moved address offset) (base_of state rule base)
address_by state rule base place = None

-- the address of a variable
unfoldable pub address_in : State → Option (ℕ × ℤ) → Held → Option ℕ
address_in state rule held = address_by state rule held.base held.place

-- ---- numbers

-- so many low bytes of a register's content; 8 are in none
unfoldable pub low_bytes : (bits size : ℕ) → Option ℕ
low_bytes bits size = if is_read size && nat_lt size 8 then Some (bits % 2 ^ (8 * size)) else None

-- the number of a kind in a register's content
unfoldable pub number_of_register : ℕ → Kind → Option ℤ
number_of_register bits kind = option_map (with_sign kind) (low_bytes bits kind.size)

-- the number that a variable holds, where it has an address or is in a register, and each byte is there
abbrev pub number_by : State → Option (ℕ × ℤ) → Held → Place → Option ℤ
number_by state rule held (p.Reg number) = option_and_then (λ bits. number_of_register bits held.kind) (content state number)
number_by state rule held place = option_and_then (λ address. number_at state.memory address held.kind) (address_in state rule held)

unfoldable pub number_in : State → Option (ℕ × ℤ) → Held → Option ℤ
number_in state rule held = number_by state rule held held.place

-- ... of the variable that is meant, if one is
unfoldable pub held_number : State → Option (ℕ × ℤ) → Option Held → Option ℤ
held_number state rule held = option_and_then (number_in state rule) held

-- a number, NULL where there is none
abbrev pub value_of : Option ℤ → Owned
value_of (Some number) = Int number
value_of None = Null

-- what a variable has, if one is meant
abbrev pub held_value : State → Option (ℕ × ℤ) → Option Held → Owned
held_value state rule held = value_of (held_number state rule held)
