-- Things that a call puts behind those that stand there.
use Rattle.std.specs.Prelude.{◌≡◌, List, ◌++◌, Result, OnOk}

-- a call with this result, unless it failed, put behind the old things more, which makes the new ones
abbrev pub PutsBehind : {A E X : Type 0} → Result A E → (old more new : List X) → Type 0
PutsBehind result old more new = OnOk result (new ≡ old ++ more)
