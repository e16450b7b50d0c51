use Rattle.std.proofs.Common.{◌≡◌, ◌+◌, length, drop}
use Rattle.om_table.specs.Escape.{escaped}
use Rattle.om_table.proofs.escaping.escaped_len.Given as goal

-- the length so far, and that of the bytes that are left
abbrev pub invariant-loop-byte : goal.invariant-loop-byte
invariant-loop-byte l = length (escaped l.bytes) ≡ l.len + length (escaped (drop l.byte-index l.bytes))
