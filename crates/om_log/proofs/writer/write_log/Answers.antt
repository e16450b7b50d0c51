use Rattle.std.proofs.Common.{sym, ap, ◌∙◌}
use Rattle.om_log.specs.Writing.{Written}
use Rattle.om_log.proofs.WriteLaws.{all_short, ended_some}
use Rattle.om_log.proofs.writer.write_log.Goals as goal

pub push_all-requires : goal.push_all-requires
push_all-requires c = rw c.as_slice.ensures (all_short 0 c.args.log.now.entries c.requires.entries)

pub finish-requires : goal.finish-requires
finish-requires c =
    let written = rw (c.new-writer.ensures, c.as_slice.ensures) at c.in_ok-push_all.ensures in
    λ none. ended_some c.args.log.now.entries c.requires.ended (sym (ap (λ (w : Written). w.body) written) ∙ none)
