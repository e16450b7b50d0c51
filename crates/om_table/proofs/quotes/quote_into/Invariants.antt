use Rattle.std.proofs.Common.{◌≡◌, ◌++◌, ◌∷◌, drop, flat_map}
use Rattle.om_table.specs.Text.{quoted_byte}
use Rattle.om_table.proofs.quotes.quote_into.Given as goal

-- the quoted bytes so far, and those that are left
abbrev pub invariant-loop-byte : goal.invariant-loop-byte
invariant-loop-byte l =
    l.fn.text ++ 34 ∷ flat_map quoted_byte l.bytes ≡ l.text ++ flat_map quoted_byte (drop l.byte-index l.bytes)
