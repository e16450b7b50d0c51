use Rattle.std.proofs.Common.{◌≡◌, ◌*◌, ℕ, ◌≤◌}
use Rattle.om_base.specs.Nul.{nul_from}
use Rattle.om_elf.proofs.BlockLemmas.{first_blocks}
use Rattle.om_elf.proofs.string_table.StringTable.of.Given as goal

abbrev pub invariant-loop-block : goal.invariant-loop-block
invariant-loop-block l = record {
  same : l.nuls.items ≡ first_blocks l.bytes l.block;
  from : ℕ;
  earlier : from ≤ 1024 * l.block;
  is : l.nul ≡ nul_from from l.bytes;
}
