use Rattle.std.proofs.Common.{sym}
use Rattle.om_elf.proofs.BlockLemmas.{before_none, before_some}
use Rattle.om_elf.proofs.string_table.next_nul.Goals as goal

pub returns-in_default : goal.returns-in_default
returns-in_default c = sym (before_none _ _ _ c.requires c.in_default.is)

pub returns-then-at-nul : goal.returns-then-at-nul
returns-then-at-nul c = sym (before_some _ _ _ _ c.requires c.in-Some.is c.if-at-nul.true)
