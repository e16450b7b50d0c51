-- The causes that an END tells.
use Rattle.std.specs.Prelude.{ℕ}

-- the run made a call that exits
abbrev pub by_exit : ℕ
by_exit = 0

-- the run was cut
abbrev pub by_cut : ℕ
by_cut = 1

-- the machine stopped
abbrev pub by_stop : ℕ
by_stop = 2
