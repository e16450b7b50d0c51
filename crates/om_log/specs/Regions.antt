-- The regions that the header of a log gives to the stack and the heap.
use Rattle.std.specs.Prelude.{◌≡◌, ◌+◌, ◌%◌, ◌^◌, ◌<◌, ◌≤◌, Bool, ◌&&◌, not, nat_eq, nat_le, nat_lt, List, [], ◌∷◌, Option, None}
use Rattle.om_base.specs.Firsts.{first_of, unless}
use Rattle.om_base.specs.Limits.{page_size}
use Rattle.om_base.specs.Spans.{shares}
use Rattle.om_base.specs.declared.span.Span.{Span}
use Rattle.om_log.specs.declared.fault.LogFault.{LogFault}
use Rattle.om_log.specs.declared.fault.LogFault.TheVariants.{Region}
use Rattle.om_log.specs.declared.start.Start.{Start}

-- ---- the rules

-- the four numbers are those of whole pages
abbrev pub has_whole_pages : Start → Bool
has_whole_pages start =
    nat_eq (start.stack_low % page_size) 0 && nat_eq (start.stack_size % page_size) 0
    && nat_eq (start.heap_low % page_size) 0 && nat_eq (start.heap_size % page_size) 0

-- the stack isn't empty
abbrev pub has_stack : Start → Bool
has_stack start = nat_lt 0 start.stack_size

-- each region ends at 2 ^ 32 or below
abbrev pub ends_in_space : Start → Bool
ends_in_space start =
    nat_le (start.stack_low + start.stack_size) (2 ^ 32) && nat_le (start.heap_low + start.heap_size) (2 ^ 32)

-- together they have at most 32 MiB
abbrev pub is_small : Start → Bool
is_small start = nat_le (start.stack_size + start.heap_size) 33_554_432

-- the addresses of the stack, and those of the heap
abbrev pub stack_span : Start → Span
stack_span start = record { lo = start.stack_low; hi = start.stack_low + start.stack_size }

abbrev pub heap_span : Start → Span
heap_span start = record { lo = start.heap_low; hi = start.heap_low + start.heap_size }

-- no address lies in both
abbrev pub shares_none : Start → Bool
shares_none start = not (shares (stack_span start) (heap_span start))

-- what each rule of the regions says, in their order
abbrev pub start_faults : Start → List (Option LogFault)
start_faults start =
    unless (has_whole_pages start) Region
    ∷ unless (has_stack start) Region
    ∷ unless (ends_in_space start) Region
    ∷ unless (is_small start) Region
    ∷ unless (shares_none start) Region
    ∷ []

-- the fault of the regions: that of the first rule that they break
unfoldable pub start_fault : Start → Option LogFault
start_fault start = first_of (start_faults start)

-- they break no rule
abbrev pub IsLawfulStart : Start → Type 0
IsLawfulStart start = start_fault start ≡ None

-- ---- what holds of the regions of a log

-- the numbers are those of whole pages, the stack isn't empty, each region ends at 2 ^ 32 or below, and together they have at most 32 MiB
pub record HasRoom (start : Start) : Type 0 where
  pub stack_low : start.stack_low % page_size ≡ 0
  pub stack_size : start.stack_size % page_size ≡ 0
  pub heap_low : start.heap_low % page_size ≡ 0
  pub heap_size : start.heap_size % page_size ≡ 0
  pub stack : 0 < start.stack_size
  pub stack_end : start.stack_low + start.stack_size ≤ 2 ^ 32
  pub heap_end : start.heap_low + start.heap_size ≤ 2 ^ 32
  pub most : start.stack_size + start.heap_size ≤ 33_554_432

-- each of the four is a number of 4 bytes
pub record FitsStart (start : Start) : Type 0 where
  pub stack_low : start.stack_low < 2 ^ 32
  pub stack_size : start.stack_size < 2 ^ 32
  pub heap_low : start.heap_low < 2 ^ 32
  pub heap_size : start.heap_size < 2 ^ 32
