use Rattle.std.proofs.Common.{◌≡◌, [], take}
use Rattle.std.specs.Prelude.{fold}
use Rattle.om_names.specs.LineTables.{table_offset, with_told}
use Rattle.om_names.proofs.line_tables.line_offsets.Given as goal

-- where the tables of the units so far begin
abbrev pub invariant-loop-unit : goal.invariant-loop-unit
invariant-loop-unit l = l.offsets.keys ≡ fold (λ offsets unit. with_told offsets (table_offset unit)) [] (take l.unit-index l.units)
