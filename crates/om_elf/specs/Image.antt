-- What a loadable segment puts into memory.
use Rattle.std.specs.Prelude.{ℕ, ◌+◌, ◌^◌, ◌≤◌, ◌<◌, List, [], ◌∷◌, length, sum_by, All}

-- a segment's address, size in memory, rights, and the bytes that the file gives
pub record Image : Type 0 where
  pub vaddr : ℕ
  pub memsz : ℕ
  pub rights : ℕ
  pub bytes : List ℕ

-- the file gives at most the segment's size, which ends in the address space
pub record FitsMemory (image : Image) : Type 0 where
  pub bytes : length image.bytes ≤ image.memsz
  pub end : image.vaddr + image.memsz ≤ 2 ^ 32
  pub rights : image.rights < 8

-- an address is in the memory of a segment
abbrev pub Holds : Image → ℕ → Type 0
Holds image address = (image.vaddr ≤ address) × (address < image.vaddr + image.memsz)

-- no address is in the memory of both
abbrev pub SharesNone : Image → Image → Type 0
SharesNone a b = (address : ℕ) → Holds a address → Holds b address → ⊥

-- each segment shares no address with a later one
abbrev pub AreApart : List Image → Type 0
AreApart [] = Unit {0}
AreApart (image ∷ later) = All (SharesNone image) later × AreApart later

-- each segment fits, no two share an address, together they take at most 32 MiB, and there are fewer than 65536
pub record AreLoadable (images : List Image) : Type 0 where
  pub fit : All FitsMemory images
  pub apart : AreApart images
  pub small : sum_by (λ image. image.memsz) images ≤ 33554432
  pub few : length images < 65536
