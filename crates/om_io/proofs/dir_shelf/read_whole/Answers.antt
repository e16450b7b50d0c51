use Rattle.std.proofs.Common.{◌∙◌, ◌<◌, ◌≤◌, ◌^◌, length, arith}
use Rattle.om_io.proofs.DirLemmas.{whole_of_known}
use Rattle.om_io.proofs.dir_shelf.read_whole.Goals as goal

pub returns-clause-taken : goal.returns-clause-taken
returns-clause-taken g c =
    let buf = c.read_to_end.new.buf in
    let fits : length buf.items ≤ c.args.most = omega (arith, buf.ok.0, c.len.ensures, c.if-len-most.false) in
    let small : length buf.items < 2 ^ 63 = omega (arith, buf.ok.0, buf.ok.1, buf.small) in
    rw (← c.take.ensures.inner) (whole_of_known _ _ _ _ _ _ (c.take.ensures.limit ∙ c.saturating_add.ensures)
    c.new-bytes.ensures.items c.in_ok-read_to_end.ensures.bytes c.from_vec.ensures fits small)
