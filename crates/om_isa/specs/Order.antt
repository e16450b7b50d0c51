-- The order of the variants of `Op`.
use Rattle.std.specs.Prelude.{ℕ}
use Rattle.om_isa.specs.declared.op.Op.{Op}
use Rattle.om_isa.specs.contracts.op.Op.{the_type}
use denote.Enum.Declared.{tag_of}

-- the number of an operation among the variants of `Op`, the first of which has 0
abbrev pub number_of : Op → ℕ
number_of op = tag_of the_type op
