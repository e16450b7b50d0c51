use Rattle.std.proofs.Common.{◌≡◌, length, rules, sym}
use Rattle.om_log.proofs.WriteLaws.{length_none}
use Rattle.om_log.proofs.writer.LogWriter.len.Goals as goal

pub returns-then-is_empty : goal.returns-then-is_empty
returns-then-is_empty c =
    let none : length c.self.inside.bytes.items ≡ 0 = search rules in
    rw (← c.self.view_is) (sym (length_none c.self.inside.start c.self.inside.bytes.items none))
