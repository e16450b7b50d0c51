-- What the reader of string tables keeps of one: the first zero byte from each block on.
use Rattle.std.specs.Prelude.{◌≡◌, ℕ, ◌+◌, ◌*◌, ◌/◌, ◌≤◌, List, length, map, Option}
use Rattle.std.specs.List.{range_with_len}
use Rattle.om_base.specs.Nul.{nul_from}

-- the places of the first zero bytes from the beginnings of the blocks of 1024 bytes on
unfoldable pub block_nuls : List ℕ → List (Option ℕ)
block_nuls bytes = map (λ block. nul_from (1024 * block) bytes) (range_with_len 0 (length bytes / 1024 + 1))

-- the place of the first zero byte from some place on that isn't after another
pub record IsNulBefore (nul : Option ℕ) (bytes : List ℕ) (at : ℕ) : Type 0 where
  pub from : ℕ
  pub earlier : from ≤ at
  pub is : nul ≡ nul_from from bytes
