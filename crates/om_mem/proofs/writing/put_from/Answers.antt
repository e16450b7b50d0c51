use Rattle.std.proofs.Common.{◌+◌, ◌*◌, ◌<◌, ◌≤◌, ◌∙◌, length, arith}
use Rattle.std.proofs.lemmas.Bool.Decides.{nat_tests}
use Rattle.om_mem.proofs.AcrossLemmas.{put-overlaid, same-marked}
use Rattle.om_mem.proofs.writing.put_from.Goals as goal

pub returns-clause-bytes : goal.returns-clause-bytes
returns-clause-bytes c = c.put_at.ensures ∙ put-overlaid _ c.args.at c.args.new.now c.requires.fits

pub returns-clause-same : goal.returns-clause-same
returns-clause-same c =
    let some : 0 < length c.args.new.now = grind (arith, nat_tests) in
    let fits : c.args.at + length c.args.new.now ≤ 4096 * length c.args.dirty.now = omega arith in
    rw (c.put_at.ensures, put-overlaid c.args.bytes.now c.args.at c.args.new.now c.requires.fits, c.mark_all.ensures) (same-marked c.args.bytes.now c.args.dirty.now c.args.at c.args.new.now some fits)
