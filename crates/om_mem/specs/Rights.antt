-- The rights of a region, by ELF's names: System V gABI, chapter 5, "Segment Permissions".
use Rattle.std.specs.Prelude.{ℕ}

-- to execute
abbrev pub pf_x : ℕ
pf_x = 1

-- to write
abbrev pub pf_w : ℕ
pf_w = 2

-- to read
abbrev pub pf_r : ℕ
pf_r = 4
