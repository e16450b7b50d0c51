use Rattle.std.proofs.Common.{◌≡◌, ◌++◌, take}
use Rattle.om_table.specs.Escape.{escaped}
use Rattle.om_table.proofs.escaping.escape_into.Given as goal

-- the bytes so far are printed
abbrev pub invariant-loop-byte : goal.invariant-loop-byte
invariant-loop-byte l = l.text ≡ l.fn.text ++ escaped (take l.byte-index l.bytes)
