-- Texts that end with a zero byte.
use Rattle.std.specs.Prelude.{ℕ, ◌+◌, nat_eq, List, drop, Option, position}
use Rattle.std.specs.Option.{option_map}

-- the place of the first zero byte from a place on, if there is one
unfoldable pub nul_from : ℕ → List ℕ → Option ℕ
nul_from at bytes = option_map (λ k. at + k) (position (λ b. nat_eq b 0) (drop at bytes))
